-- What is read of the fields of an area: field by field, and what its bytes spell.
use Rattle.std.proofs.Common.{◌≡◌, ◌≢◌, ◌+◌, ◌⊎◌, inl, inr, ◌<◌, ◌≤◌, ℕ, zero, suc, List, [], ◌∷◌, ◌++◌, length, take, drop, Option, Result, Ok, Err}
use Rattle.std.proofs.Common.{Some, None, refl, sym, ap, ◌∙◌, subst, arith, length-append, length-drop}
use Rattle.std.proofs.lemmas.List.{length-take, take-append-drop, take_at, drop_at}
use Rattle.std.proofs.lemmas.Bool.{cases_eq, cases_lt, ne_eqb, lt-ltb, le-ltb}
use Rattle.fru_area.specs.declared.fault.Area.{Area}
use Rattle.fru_area.specs.declared.fault.Area.TheVariants.{Chassis}
use Rattle.fru_area.specs.declared.fault.FruFault.{FruFault}
use Rattle.fru_area.specs.declared.fault.FruFault.TheVariants.{FieldOutside, NoEnd}
use Rattle.fru_area.specs.Walks.{Raw, end_mark, kind_of, len_of, walk, first_field, field_then, with_field, raw_fields, field_bytes, Spells, ended}
use Rattle.fru_area.specs.Walks.{field}

-- the field of this type/length byte, and of the bytes behind it
abbrev pub raw_at : ℕ → List ℕ → Raw
raw_at head bytes = record { kind = kind_of head; bytes = take (len_of head) bytes }

pub first_field-fits :
    (area : Area) (head : ℕ) (bytes : List ℕ) → head ≢ end_mark → len_of head ≤ length bytes →
    first_field area (head ∷ bytes) ≡ Ok (Some (raw_at head bytes, drop (len_of head) bytes))
unfolding first_field
first_field-fits area head bytes not_mark fits = rw (ne_eqb head end_mark not_mark, le-ltb (length bytes) (len_of head) fits) refl

pub first_field-outside :
    (area : Area) (head : ℕ) (bytes : List ℕ) → head ≢ end_mark → length bytes < len_of head →
    first_field area (head ∷ bytes) ≡ Err (FieldOutside area)
unfolding first_field
first_field-outside area head bytes not_mark over = rw (ne_eqb head end_mark not_mark, lt-ltb (length bytes) (len_of head) over) refl

pub first_field-mark : (area : Area) (head : ℕ) (bytes : List ℕ) → head ≡ end_mark → first_field area (head ∷ bytes) ≡ Ok None
unfolding first_field
first_field-mark area head bytes mark = rw mark refl

pub first_field-none : (area : Area) → first_field area [] ≡ Err (NoEnd area)
unfolding first_field
first_field-none area = refl

-- what is read comes from the first field
walk-first :
    (area : Area) (limit : ℕ) (bytes : List ℕ) (first : Result (Option (Raw × List ℕ)) FruFault) → first_field area bytes ≡ first →
    walk area (suc limit) bytes ≡ field_then (walk area limit) first
unfolding walk
walk-first area limit bytes first is = ap (field_then (walk area limit)) is

-- Reading goes on at these bytes: a view of what is read of them is the answer.
pub record GoesOn {Answer : Type 0} (area : Area) (bytes : List ℕ) (view : Result (List Raw) FruFault → Answer) (answer : Answer) : Type 0 where
  pub limit : ℕ
  pub enough : length bytes < limit
  pub comes : view (walk area limit bytes) ≡ answer

pub GoesOn-start :
    {Answer : Type 0} (area : Area) (bytes all : List ℕ) (start : ℕ) (view : Result (List Raw) FruFault → Answer) (answer : Answer) →
    bytes ≡ field_bytes all start → length bytes ≤ length all → view (raw_fields area all start) ≡ answer → GoesOn area bytes view answer
unfolding raw_fields
GoesOn-start area bytes all start view answer is shorter reads = record {
  limit = length all + 1;
  enough = omega arith;
  comes = ap (λ (b : List ℕ). view (walk area (length all + 1) b)) is ∙ reads;
}

-- a field at the front is read, and reading goes on behind it
pub GoesOn-field :
    {Answer : Type 0} (area : Area) (bytes rest : List ℕ) (raw : Raw) (view later : Result (List Raw) FruFault → Answer) (answer : Answer) →
    first_field area bytes ≡ Ok (Some (raw, rest)) → length rest < length bytes →
    ((read : Result (List Raw) FruFault) → view (with_field raw read) ≡ later read) → GoesOn area bytes view answer → GoesOn area rest later answer
GoesOn-field area bytes rest raw view later answer first shorter more on = from on.limit on.enough on.comes
  where
    from : (limit : ℕ) → length bytes < limit → view (walk area limit bytes) ≡ answer → GoesOn area rest later answer
    from zero enough comes = absurd (omega arith)
    from (suc limit) enough comes = record {
      limit = limit;
      enough = omega arith;
      comes = sym (more (walk area limit rest)) ∙ sym (ap view (walk-first area limit bytes _ first)) ∙ comes;
    }

-- what stands at the front ends the reading, and so decides the answer
decides :
    {Answer : Type 0} (area : Area) (bytes : List ℕ) (view : Result (List Raw) FruFault → Answer) (answer : Answer)
    (first : Result (Option (Raw × List ℕ)) FruFault) (last : Result (List Raw) FruFault) →
    first_field area bytes ≡ first → ((limit : ℕ) → field_then (walk area limit) first ≡ last) → GoesOn area bytes view answer → view last ≡ answer
decides area bytes view answer first last is ends on = from on.limit on.enough on.comes
  where
    from : (limit : ℕ) → length bytes < limit → view (walk area limit bytes) ≡ answer → view last ≡ answer
    from zero enough comes = absurd (omega arith)
    from (suc limit) enough comes = sym (ap view (ends limit)) ∙ sym (ap view (walk-first area limit bytes _ is)) ∙ comes

pub GoesOn-end :
    {Answer : Type 0} (area : Area) (bytes : List ℕ) (view : Result (List Raw) FruFault → Answer) (answer : Answer) →
    first_field area bytes ≡ Ok None → GoesOn area bytes view answer → view (Ok []) ≡ answer
GoesOn-end area bytes view answer mark on = decides area bytes view answer (Ok None) (Ok []) mark (λ limit. refl) on

pub GoesOn-fault :
    {Answer : Type 0} (area : Area) (bytes : List ℕ) (view : Result (List Raw) FruFault → Answer) (answer : Answer) (fault : FruFault) →
    first_field area bytes ≡ Err fault → GoesOn area bytes view answer → view (Err fault) ≡ answer
GoesOn-fault area bytes view answer fault broken on = decides area bytes view answer (Err fault) (Err fault) broken (λ limit. refl) on

with_field_parts :
    (raw : Raw) (read : Result (List Raw) FruFault) (raws : List Raw) → with_field raw read ≡ Ok raws →
    (rest : List Raw) × (read ≡ Ok rest) × (raws ≡ raw ∷ rest)
with_field_parts raw (Ok rest) raws is = (rest, refl, let same : raw ∷ rest ≡ raws = cc in sym same)
with_field_parts raw (Err fault) raws is = absurd (cc)

spells_front :
    (head : ℕ) (bytes : List ℕ) (rest : List Raw) → head ≢ end_mark → len_of head ≤ length bytes → Spells (drop (len_of head) bytes) rest →
    Spells (head ∷ bytes) (raw_at head bytes ∷ rest)
spells_front head bytes rest not_mark fits spells =
    let long : length (take (len_of head) bytes) ≡ len_of head = omega (arith, length-take (len_of head) bytes) in
    subst (λ (text : List ℕ). Spells (head ∷ text) (raw_at head bytes ∷ rest)) (take-append-drop (len_of head) bytes)
    (field head (take (len_of head) bytes) (drop (len_of head) bytes) rest not_mark long spells)

pub Spells-walk : (area : Area) (limit : ℕ) (bytes : List ℕ) (raws : List Raw) → walk area limit bytes ≡ Ok raws → Spells bytes raws
unfolding walk first_field
Spells-walk area zero bytes raws read = absurd (cc)
Spells-walk area (suc limit) [] raws read = absurd (cc)
Spells-walk area (suc limit) (head ∷ bytes) raws read = of (cases_eq head end_mark) (cases_lt (length bytes) (len_of head)) (Spells-walk area limit)
  where
    of :
        (head ≡ end_mark) ⊎ (head ≡ end_mark → ⊥) → (length bytes < len_of head) ⊎ (len_of head ≤ length bytes) →
        ((later : List ℕ) (fields : List Raw) → walk area limit later ≡ Ok fields → Spells later fields) → Spells (head ∷ bytes) raws
    of (inl mark) size later =
        let none : Ok raws ≡ Ok [] = sym read ∙ walk-first area limit (head ∷ bytes) (Ok None) (first_field-mark area head bytes mark) in
        let no_fields : raws ≡ [] = cc in
        rw (mark, no_fields) (ended bytes)
    of (inr not_mark) (inl over) later =
        let broken = sym read ∙ walk-first area limit (head ∷ bytes) _ (first_field-outside area head bytes not_mark over) in absurd (cc)
    of (inr not_mark) (inr fits) later =
        let first = walk-first area limit (head ∷ bytes) _ (first_field-fits area head bytes not_mark fits) in
        let parts = with_field_parts (raw_at head bytes) (walk area limit (drop (len_of head) bytes)) raws (sym first ∙ read) in
        rw parts.2 (spells_front head bytes parts.0 not_mark fits (later (drop (len_of head) bytes) parts.0 parts.1))

pub walk-Spells :
    (area : Area) (limit : ℕ) (bytes : List ℕ) (raws : List Raw) → length bytes < limit → Spells bytes raws → walk area limit bytes ≡ Ok raws
walk-Spells area zero bytes raws enough spells = absurd (omega arith)
walk-Spells area (suc limit) _ _ enough (ended rest) = walk-first area limit (end_mark ∷ rest) (Ok None) (first_field-mark area end_mark rest refl)
walk-Spells area (suc limit) _ _ enough (field head text rest raws not_mark long spells) =
    let shorter : length rest < limit = omega (arith, length-append text rest) in
    let fits : len_of head ≤ length (text ++ rest) = omega (arith, length-append text rest) in
    let text_is = take_at text rest (len_of head) long in
    let rest_is = drop_at text rest (len_of head) long in
    let first = walk-first area limit (head ∷ (text ++ rest)) _ (first_field-fits area head (text ++ rest) not_mark fits) in
    rw (text_is, rest_is, walk-Spells area limit rest raws shorter spells) at first

length-field_bytes : (bytes : List ℕ) (start : ℕ) → length (field_bytes bytes start) < length bytes + 1
length-field_bytes bytes start = simp (length-take, length-drop) (omega arith)

pub Spells-raw_fields :
    (area : Area) (bytes : List ℕ) (start : ℕ) (raws : List Raw) → raw_fields area bytes start ≡ Ok raws → Spells (field_bytes bytes start) raws
unfolding raw_fields
Spells-raw_fields area bytes start raws read = Spells-walk area (length bytes + 1) (field_bytes bytes start) raws read

pub raw_fields-Spells :
    (area : Area) (bytes : List ℕ) (start : ℕ) (raws : List Raw) → Spells (field_bytes bytes start) raws → raw_fields area bytes start ≡ Ok raws
unfolding raw_fields
raw_fields-Spells area bytes start raws spells =
    walk-Spells area (length bytes + 1) (field_bytes bytes start) raws (length-field_bytes bytes start) spells

pub Spells-one : (bytes : List ℕ) (raws others : List Raw) → Spells bytes raws → Spells bytes others → raws ≡ others
Spells-one bytes raws others spells other_spells =
    let read = walk-Spells Chassis (length bytes + 1) bytes raws (omega arith) spells in
    let other_read = walk-Spells Chassis (length bytes + 1) bytes others (omega arith) other_spells in
    cc
