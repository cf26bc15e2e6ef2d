-- The named fields so far, and those of the bytes that are left.
use Rattle.std.proofs.Common.{Bool, refl, ◌≡◌, ℕ, ◌≤◌, List, [], ◌∷◌, ◌++◌, length, take, Result, Ok, Err, arith, ap, sym, ◌∙◌, append_assoc}
use Rattle.std.proofs.lemmas.List.{length-take, take-append-le}
use Rattle.fru_area.specs.declared.area.NextName.{NextName}
use Rattle.fru_area.specs.declared.fault.Area.{Area}
use Rattle.fru_area.specs.declared.fault.FruFault.{FruFault}
use Rattle.fru_area.specs.declared.field.Field.{Field}
use Rattle.fru_area.specs.declared.name.FieldName.{FieldName}
use Rattle.fru_area.specs.Readings.{seen}
use Rattle.fru_area.specs.Areas.{named, named_field, named_ok, area_fields}
use Rattle.fru_area.specs.NextNames.{IsNext}
use Rattle.fru_area.specs.Texts.{text_of}
use Rattle.fru_area.specs.Walks.{Raw, with_field, raw_fields}

-- these fields, and then those that reading the rest gives under the names and the number that are left
abbrev pub so_far : Area → Bool → List FieldName → ℕ → List Field → Result (List Raw) FruFault → Result (List Field) FruFault
so_far area english names number fields (Ok raws) = Ok (fields ++ named area english names number raws)
so_far area english names number fields (Err fault) = Err fault

so_far-named :
    (area : Area) (english : Bool) (names : List FieldName) (fields : List Field) (read : Result (List Raw) FruFault) →
    so_far area english names 1 fields read ≡ seen (λ more. fields ++ more) (named_ok area english names read)
so_far-named area english names fields (Ok raws) = refl
so_far-named area english names fields (Err fault) = refl

-- before the first field the fields of all are those of the list, and then those of the area
pub so_far-start :
    (area : Area) (english : Bool) (names : List FieldName) (fields : List Field) (bytes : List ℕ) (start : ℕ) →
    so_far area english names 1 fields (raw_fields area bytes start) ≡ seen (λ more. fields ++ more) (area_fields area english names bytes start)
unfolding area_fields
so_far-start area english names fields bytes start = so_far-named area english names fields (raw_fields area bytes start)

named-next :
    (area : Area) (english : Bool) (names : List FieldName) (number : ℕ) (next : NextName) (raw : Raw) (raws : List Raw) → IsNext area names number next →
    named area english names number (raw ∷ raws) ≡ named_field english next.name raw ∷ named area english next.later.now next.number raws
named-next area english (name ∷ names) number next raw raws is = rw (is.0, is.1, is.2) refl
named-next area english [] number next raw raws is = rw (is.0, is.1, is.2) refl

-- a field more, that was pushed
pub so_far-field :
    (area : Area) (english : Bool) (names : List FieldName) (number : ℕ) (next : NextName) (fields new : List Field) (raw : Raw) (text : List ℕ) →
    IsNext area names number next → text ≡ text_of english raw → new ≡ fields ++ record { name = next.name; text = text } ∷ [] →
    (read : Result (List Raw) FruFault) →
    so_far area english names number fields (with_field raw read) ≡ so_far area english next.later.now next.number new read
so_far-field area english names number next fields new raw text is_next is_text pushed (Ok raws) =
    rw (pushed, is_text)
    (ap (λ (more : List Field). Ok (fields ++ more)) (named-next area english names number next raw raws is_next)
    ∙ ap Ok (sym (append_assoc fields (named_field english next.name raw ∷ []) (named area english next.later.now next.number raws))))
so_far-field area english names number next fields new raw text is_next is_text pushed (Err fault) = refl

-- a list with an element more begins as before
pub front-more :
    {X : Type 0} (old list new : List X) (item : X) → new ≡ list ++ item ∷ [] → take (length old) list ≡ old → take (length old) new ≡ old
front-more old list new item pushed front =
    let short : length old ≤ length list = omega (arith, length-take (length old) list, ap length front) in
    rw pushed (take-append-le (length old) list (item ∷ []) short ∙ front)
