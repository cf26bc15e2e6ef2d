-- What typed getters read of the matches.
use Rattle.std.proofs.Common.{◌≡◌, ℕ, Bool, true, false, List, [], map, Option, Some, None, refl, ap, sym, subst, ◌∙◌, arith}
use Rattle.std.proofs.lemmas.Slice.Eq.{bytes_eq-Decides}
use Rattle.std.specs.Prelude.{IfSome, Result, codes, option_map, unwrap_or}
use Rattle.std.specs.Borrow.{Bor}
use Rattle.std.specs.Option.{option_map_or}
use Rattle.std.specs.Str.{bytes_eq}
use Rattle.std.specs.Str.Parse.{ExplainsUnsignedError, HasUnsignedDigitsIfOk, ParsesBool, ParsesUnsigned}
use Rattle.std.specs.declared.num.ParseIntError.{ParseIntError}
use Rattle.std.specs.declared.str.ParseBoolError.{ParseBoolError}
use Rattle.clap.specs.Matches.{ReadsOne, matched_of, one_text, raw_values}
use Rattle.clap.specs.Values.{IsUnsignedIn}
use Rattle.clap.specs.Walk.{Text, rows_of}
use Rattle.clap.specs.declared.parser.matches.Found.{Found}
use Rattle.bmc_words.specs.Settings.{configs_of, is_strict}
use Rattle.bmc_words.specs.Numbers.{IsNumberIn, number, number_of}
use Rattle.bmc_words.proofs.RowsLemmas.{one_text_is, raw_values_are}

not_same : (a b : Text) (is : Bool) → (a ≡ b → ⊥) → bytes_eq a b ≡ is → is ≡ false
not_same a b true apart same = absurd (apart ((bytes_eq-Decides a b).0 same))
not_same a b false apart same = refl

flag_read : (text : Option Text) (flag : Option Bool) → (text ≡ None → flag ≡ None)
    → ((t : Text) → text ≡ Some t → ReadsOne (ParsesBool {E = ParseBoolError}) t flag)
    → unwrap_or flag false ≡ option_map_or (λ t. bytes_eq t (codes "true")) text false
flag_read None flag none some = ap (λ (b : Option Bool). unwrap_or b false) (none refl)
flag_read (Some t) None none some = sym (not_same t (codes "true") _ (some t refl).1.0 refl)
flag_read (Some t) (Some true) none some = sym ((bytes_eq-Decides t (codes "true")).1 (some t refl))
flag_read (Some t) (Some false) none some = sym (ap (λ (u : Text). bytes_eq u (codes "true")) (some t refl))

-- the flag
pub strict_read : (found : Found) (flag : Option Bool) → (one_text found (codes "strict") ≡ None → flag ≡ None)
    → ((t : Text) → one_text found (codes "strict") ≡ Some t → ReadsOne (ParsesBool {E = ParseBoolError}) t flag)
    → unwrap_or flag false ≡ is_strict (rows_of found)
strict_read found flag none some =
    flag_read (one_text found (codes "strict")) flag none some
    ∙ ap (λ (text : Option Text). option_map_or (λ t. bytes_eq t (codes "true")) text false) (one_text_is found (codes "strict"))

-- what `u32` makes of a text
abbrev Parses : Text → Result ℕ ParseIntError → Type 0
Parses t read = ParsesUnsigned 32 10 t read × ExplainsUnsignedError 10 t read × HasUnsignedDigitsIfOk t read

text_read : (text : Option Text) (read : Option ℕ) → (text ≡ None → read ≡ None) → ((t : Text) → text ≡ Some t → ReadsOne Parses t read)
    → IfSome text (IsUnsignedIn 0 4294967295) → read ≡ option_map number text
text_read None read none some fits = none refl
text_read (Some t) None none some fits = absurd ((some t refl).1.0 (fits.0, omega (arith, fits.3)))
text_read (Some t) (Some n) none some fits = ap Some (some t refl).0.1

-- the number of an option that a `u32` can hold
pub number_read : (found : Found) (option : Text) (read : Option ℕ) → (one_text found option ≡ None → read ≡ None)
    → ((t : Text) → one_text found option ≡ Some t → ReadsOne Parses t read) → IsNumberIn option 0 4294967295 (rows_of found)
    → read ≡ number_of option (rows_of found)
number_read found option read none some fits =
    let is = one_text_is found option in
    let fits_text = subst (λ (text : Option Text). IfSome text (IsUnsignedIn 0 4294967295)) (sym is) fits in
    text_read (one_text found option) read none some fits_text
    ∙ ap (option_map number) is

-- the names of the configurations
pub configs_read : (found : Found) (names : Option (Bor (List (Bor Text)))) (none : Bor (List (Bor Text)))
    → option_map (λ (s : Bor (List (Bor Text))). map (λ (v : Bor Text). v.now) s.now) names ≡ option_map raw_values (matched_of found (codes "config"))
    → none.now ≡ [] → map (λ (v : Bor Text). v.now) (unwrap_or names none).now ≡ configs_of (rows_of found)
configs_read found names none are empty =
    read_names names ∙ ap (λ (o : Option (List Text)). unwrap_or o []) (are ∙ raw_values_are found (codes "config"))
  where
    read_names : (o : Option (Bor (List (Bor Text)))) → map (λ (v : Bor Text). v.now) (unwrap_or o none).now
        ≡ unwrap_or (option_map (λ (s : Bor (List (Bor Text))). map (λ (v : Bor Text). v.now) s.now) o) []
    read_names None = ap (map (λ (v : Bor Text). v.now)) empty
    read_names (Some s) = refl
