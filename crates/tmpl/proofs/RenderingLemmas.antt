-- Rendered text, one stretch on.
use Rattle.std.proofs.Common.{◌≡◌, ℕ, ◌<◌, Bool, true, false, List, [], ◌∷◌, ◌++◌, length, map, Option, Some, None}
use Rattle.std.proofs.Common.{refl, ap, sym, ◌∙◌, arith, cond, append_assoc, length-append}
use Rattle.std.proofs.lemmas.List.{append-nil}
use Rattle.std.specs.Prelude.{nat_le, option_and_then}
use Rattle.std.specs.Option.{MatchOption}
use Rattle.std.specs.Result.{result_ok}
use Rattle.std.specs.List.{list_all}
use Rattle.std.proofs.lemmas.Bool.{false≢true}
use Rattle.std.proofs.lemmas.Bool.Decides.{nat_tests}
use Rattle.bmc_base.specs.Names.{name_of}
use Rattle.bmc_base.specs.Places.{Place}
use Rattle.fru_area.specs.declared.field.Field.{Field}
use Rattle.tmpl.specs.Operations.{digits, up_to}
use Rattle.tmpl.specs.declared.operation.Operation.{Operation}
use Rattle.tmpl.specs.declared.word.Word.{Word}
use Rattle.tmpl.specs.Templates.{Piece, Plain, Substitution, begins_substitution, is_plain, is_fixed, pieces_of}
use Rattle.tmpl.specs.Rendering.{followed, pieces_text, piece_text, substituted, rendered, rendered_behind, rendered_number, number_digits}
use Rattle.tmpl.specs.Stretches.{joined, Joins}
use Rattle.tmpl.proofs.PiecesLemmas.{no_pieces, not_plain, plain_first}

-- the text as a name
abbrev as_name : List ℕ → Option (List ℕ)
as_name text = result_ok (name_of text)

followed_twice : (one two : List ℕ) (later : Option (List ℕ)) → followed one (followed two later) ≡ followed (one ++ two) later
followed_twice one two None = refl
followed_twice one two (Some later) = ap Some (sym (append_assoc one two later))

too_long : (text : List ℕ) → 64 < length text → as_name text ≡ None
too_long text long = grind (arith, nat_tests)

module _ (place : Option Place) (fields : Option (List Field)) (index : ℕ) where
  abbrev text_of : List Piece → Option (List ℕ)
  text_of pieces = pieces_text place fields index pieces

  text_of-append : (xs ys : List Piece) → text_of (xs ++ ys) ≡ option_and_then (λ text. followed text (text_of ys)) (text_of xs)
  text_of-append [] ys = none_before (text_of ys)
    where
      none_before : (later : Option (List ℕ)) → later ≡ followed [] later
      none_before None = refl
      none_before (Some text) = refl
  text_of-append (x ∷ xs) ys =
      ap (λ (later : Option (List ℕ)). option_and_then (λ text. followed text later) (piece_text place fields index x)) (text_of-append xs ys)
      ∙ by (piece_text place fields index x) (text_of xs)
    where
      by : (first later : Option (List ℕ))
          → option_and_then (λ text. followed text (option_and_then (λ text. followed text (text_of ys)) later)) first
          ≡ option_and_then (λ text. followed text (text_of ys)) (option_and_then (λ text. followed text later) first)
      by None later = refl
      by (Some text) None = refl
      by (Some text) (Some more) = followed_twice text more (text_of ys)

  -- plain text is itself
  pub plain_text : (text : List ℕ) → text_of (map Plain text) ≡ Some text
  plain_text [] = refl
  plain_text (byte ∷ text) = ap (followed (byte ∷ [])) (plain_text text)

  -- a substitution alone is what it stands for
  pub substitution_text : (word : Word) (operations : List Operation)
      → text_of (Substitution (Some word) operations ∷ []) ≡ substituted place fields index word operations
  substitution_text word operations = by (substituted place fields index word operations)
    where
      by : (text : Option (List ℕ)) → option_and_then (λ text. followed text (Some [])) text ≡ text
      by None = refl
      by (Some text) = ap Some (append-nil text)

  pub rendered_start : (text : List ℕ) → rendered_behind place fields index [] text ≡ rendered place fields index text
  unfolding rendered
  rendered_start text = by (text_of (pieces_of text))
    where
      by : (all : Option (List ℕ)) → option_and_then as_name (followed [] all) ≡ option_and_then as_name all
      by None = refl
      by (Some text) = refl

  pub rendered_end : (out rest : List ℕ) → rest ≡ [] → rendered_behind place fields index out rest ≡ as_name out
  rendered_end out rest end =
      ap (λ (pieces : List Piece). option_and_then as_name (followed out (text_of pieces))) (ap pieces_of end ∙ no_pieces)
      ∙ ap as_name (append-nil out)

  -- a stretch on, where it has a text and there is room
  pub rendered_on : (out new text rest : List ℕ) (pieces : List Piece) → pieces_of text ≡ pieces ++ pieces_of rest → joined out (text_of pieces) ≡ Some new
      → rendered_behind place fields index out text ≡ rendered_behind place fields index new rest
  rendered_on out new text rest pieces split is =
      ap (λ (all : Option (List ℕ)). option_and_then as_name (followed out all)) (ap text_of split ∙ text_of-append pieces (pieces_of rest))
      ∙ ap (option_and_then as_name) (by (text_of pieces) is)
    where
      fits : (b : Bool) (both : List ℕ) → cond b (Some both) None ≡ Some new → both ≡ new
      fits true both e = cc
      fits false both e = absurd (cc)

      by : (first : Option (List ℕ)) → joined out first ≡ Some new
          → followed out (option_and_then (λ text. followed text (text_of (pieces_of rest))) first) ≡ followed new (text_of (pieces_of rest))
      by None e = absurd (cc)
      by (Some first) e =
          followed_twice out first (text_of (pieces_of rest))
          ∙ ap (λ (xs : List ℕ). followed xs (text_of (pieces_of rest))) (fits (nat_le (length (out ++ first)) 64) (out ++ first) e)

  -- and where it has none, or there is no room
  pub rendered_not : (out text rest : List ℕ) (pieces : List Piece) → pieces_of text ≡ pieces ++ pieces_of rest → joined out (text_of pieces) ≡ None
      → rendered_behind place fields index out text ≡ None
  rendered_not out text rest pieces split is =
      ap (λ (all : Option (List ℕ)). option_and_then as_name (followed out all)) (ap text_of split ∙ text_of-append pieces (pieces_of rest))
      ∙ by (text_of pieces) (text_of (pieces_of rest)) is
    where
      by : (first later : Option (List ℕ)) → joined out first ≡ None
          → option_and_then as_name (followed out (option_and_then (λ text. followed text later) first)) ≡ None
      by None later e = refl
      by (Some first) None e = refl
      by (Some first) (Some later) e =
          let long : 64 < length (out ++ first) = grind (arith, nat_tests, e) in
          too_long (out ++ (first ++ later)) (omega (arith, long, length-append out first, length-append out (first ++ later), length-append first later))

  -- and as it was put behind, or not
  pub rendered_joined : (out new text rest : List ℕ) (pieces : List Piece) (all : Option (List ℕ)) (result : Option (Unit {0}))
      → pieces_of text ≡ pieces ++ pieces_of rest → text_of pieces ≡ all → Joins out new all result
      → MatchOption result (rendered_behind place fields index out text ≡ None)
      (λ done. rendered_behind place fields index out text ≡ rendered_behind place fields index new rest)
  rendered_joined out new text rest pieces all None split is joins = rendered_not out text rest pieces split (ap (joined out) is ∙ joins)
  rendered_joined out new text rest pieces all (Some done) split is joins = rendered_on out new text rest pieces split (ap (joined out) is ∙ joins)

  -- a text without substitutions is rendered as itself
  fixed_text : (text : List ℕ) → list_all is_plain (pieces_of text) ≡ true → text_of (pieces_of text) ≡ Some text
  fixed_text [] fixed = rw no_pieces refl
  fixed_text (byte ∷ text) fixed = by (begins_substitution (byte ∷ text)) refl (fixed_text text)
    where
      by : (begins : Bool) → begins_substitution (byte ∷ text) ≡ begins → (list_all is_plain (pieces_of text) ≡ true → text_of (pieces_of text) ≡ Some text)
          → text_of (pieces_of (byte ∷ text)) ≡ Some (byte ∷ text)
      by true e more = absurd (false≢true (sym (not_plain byte text e) ∙ fixed))
      by false e more =
          let next = plain_first byte text e in
          let later : list_all is_plain (pieces_of text) ≡ true = rw next at fixed in
          ap text_of next ∙ ap (followed (byte ∷ [])) (more later)

  pub fixed_is : (text : List ℕ) → is_fixed text ≡ true → rendered place fields index text ≡ as_name text
  unfolding rendered is_fixed
  fixed_is text fixed = ap (option_and_then as_name) (fixed_text text fixed)

-- a number is a name
pub number_of_name : (text : List ℕ) → option_and_then (digits number_digits) (as_name text) ≡ digits number_digits text
unfolding digits
number_of_name text = grind (arith, nat_tests)

-- a number is read of the text, and not of the name
pub number_is : (place : Option Place) (fields : Option (List Field)) (index : ℕ) (text out : List ℕ) (max : ℕ)
    → rendered place fields index text ≡ as_name out
    → option_and_then (up_to max) (digits number_digits out) ≡ rendered_number place fields index text max
unfolding rendered_number
number_is place fields index text out max is =
    ap (option_and_then (up_to max)) (sym (ap (option_and_then (digits number_digits)) is ∙ number_of_name out))

pub number_none : (place : Option Place) (fields : Option (List Field)) (index : ℕ) (text : List ℕ) (max : ℕ)
    → rendered place fields index text ≡ None → None ≡ rendered_number place fields index text max
unfolding rendered_number
number_none place fields index text max none =
    sym (ap (λ (all : Option (List ℕ)). option_and_then (up_to max) (option_and_then (digits number_digits) all)) none)
