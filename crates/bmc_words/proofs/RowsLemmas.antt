-- What is read of the matches is what their rows have.
use Rattle.std.proofs.Common.{◌≡◌, Bool, true, false, cond, List, [], ◌∷◌, map, Option, Some, None, refl, ap, ◌∙◌}
use Rattle.std.specs.Prelude.{find, option_map, option_and_then, slice_get}
use Rattle.std.specs.Borrow.{Bor}
use Rattle.std.specs.Str.{bytes_eq}
use Rattle.clap.specs.Facts.{Entry}
use Rattle.clap.specs.Matches.{matched_of, one_text, raw_values}
use Rattle.clap.specs.Values.{read_as}
use Rattle.clap.specs.Walk.{Row, Text, all_of, one_of, row_of, row_text, rows_of, texts}
use Rattle.clap.specs.declared.builder.value_parser.Reading.{Reading}
use Rattle.clap.specs.declared.parser.matches.Found.{Found}
use Rattle.clap.specs.declared.parser.matches.MatchedArg.{MatchedArg}

-- the row of the entry of an id
row_found : (id : Text) (entries : List Entry)
    → option_map row_of (find (λ (e : Entry). bytes_eq e.0.now id) entries) ≡ find (λ (r : Row). bytes_eq r.id id) (map row_of entries)
row_found id [] = refl
row_found id (e ∷ entries) = found_by (bytes_eq e.0.now id) _ _ (row_found id entries)
  where
    found_by : (is : Bool) (rest : Option Entry) (row : Option Row) → option_map row_of rest ≡ row
        → option_map row_of (cond is (Some e) rest) ≡ cond is (Some (row_of e)) row
    found_by true rest row same = refl
    found_by false rest row same = same

first_text : (reading : Reading) (values : List (Bor Text))
    → option_map (λ (v : Bor Text). read_as reading v.now) (slice_get values 0) ≡ option_map (read_as reading) (slice_get (texts values) 0)
first_text reading [] = refl
first_text reading (v ∷ values) = refl

-- how a value is read of an entry
abbrev entry_text : MatchedArg → Option Text
entry_text a = option_map (λ (v : Bor Text). read_as a.reading v.now) (slice_get a.vals.items 0)

text_of_entry : (entry : Option Entry)
    → option_and_then entry_text (option_map (λ (e : Entry). e.1) entry) ≡ option_and_then row_text (option_map row_of entry)
text_of_entry None = refl
text_of_entry (Some e) = first_text e.1.reading e.1.vals.items

pub one_text_is : (found : Found) (id : Text) → one_text found id ≡ one_of id (rows_of found)
one_text_is found id =
    text_of_entry (find (λ (e : Entry). bytes_eq e.0.now id) found.entries.items)
    ∙ ap (option_and_then row_text) (row_found id found.entries.items)

values_of_entry : (entry : Option Entry)
    → option_map raw_values (option_map (λ (e : Entry). e.1) entry) ≡ option_map (λ (r : Row). r.values) (option_map row_of entry)
values_of_entry None = refl
values_of_entry (Some e) = refl

pub raw_values_are : (found : Found) (id : Text) → option_map raw_values (matched_of found id) ≡ all_of id (rows_of found)
raw_values_are found id =
    values_of_entry (find (λ (e : Entry). bytes_eq e.0.now id) found.entries.items)
    ∙ ap (option_map (λ (r : Row). r.values)) (row_found id found.entries.items)
