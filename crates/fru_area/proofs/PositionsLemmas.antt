-- What is read of an area at each position that fields lead to.
use Rattle.std.proofs.Common.{◌≡◌, ℕ, zero, suc, ◌+◌, ◌-◌, ◌<◌, ◌≤◌, ◌⊎◌, inl, inr, List, [], ◌∷◌, length, take, drop, Result, Ok, Err, Some, IsOk}
use Rattle.std.proofs.Common.{refl, sym, ap, subst, ◌∙◌, arith, length-drop, drop-cons}
use Rattle.std.specs.Prelude.{slice_index}
use Rattle.std.proofs.lemmas.List.{length-take, drop-take, drop-drop}
use Rattle.std.proofs.lemmas.Bool.{cases_lt, cases_eq}
use Rattle.fru_area.specs.declared.fault.Area.{Area}
use Rattle.fru_area.specs.declared.fault.FruFault.{FruFault}
use Rattle.fru_area.specs.declared.fault.FruFault.TheVariants.{FieldOutside, NoEnd}
use Rattle.fru_area.specs.Readings.{checked}
use Rattle.fru_area.specs.Positions.{checksum_at, IsFieldAt, field_end, Reaches, first, next, HasFieldOutside, LacksEnd, HasEnd}
use Rattle.fru_area.specs.Walks.{Raw, end_mark, len_of, first_field, with_field, raw_fields, field_bytes}
use Rattle.fru_area.proofs.WalksLemmas.{raw_at, first_field-fits, first_field-outside, first_field-mark, first_field-none, GoesOn, GoesOn-start}
use Rattle.fru_area.proofs.WalksLemmas.{GoesOn-field, GoesOn-end, GoesOn-fault}

length-field_bytes_at : (bytes : List ℕ) (at : ℕ) → length (field_bytes bytes at) ≡ checksum_at bytes - at
length-field_bytes_at bytes at = simp (length-take, length-drop) (omega arith)

-- the byte at a position, and those behind it
field_bytes-front :
    (bytes : List ℕ) (at : ℕ) → at < checksum_at bytes → field_bytes bytes at ≡ slice_index bytes at ∷ field_bytes bytes (at + 1)
field_bytes-front bytes at inside =
    let count : checksum_at bytes - at ≡ suc (checksum_at bytes - (at + 1)) = omega arith in
    let next_at : suc at ≡ at + 1 = omega arith in
    rw (count, drop-cons bytes at 0 (omega arith), next_at) refl

-- the bytes some positions on
drop-field_bytes :
    (bytes : List ℕ) (at count : ℕ) → at + count ≤ checksum_at bytes → drop count (field_bytes bytes at) ≡ field_bytes bytes (at + count)
drop-field_bytes bytes at count fits =
    let left = checksum_at bytes - (at + count) in
    let all : checksum_at bytes - at ≡ count + left = omega arith in
    ap (λ (n : ℕ). drop count (take n (drop at bytes))) all ∙ drop-take count left (drop at bytes) ∙ ap (take left) (drop-drop count at bytes)

field_bytes-at_checksum : (bytes : List ℕ) → field_bytes bytes (checksum_at bytes) ≡ []
field_bytes-at_checksum bytes =
    let none : checksum_at bytes - checksum_at bytes ≡ 0 = omega arith in
    rw none refl

-- a field in front is no fault
pub checked-with_field : (raw : Raw) (read : Result (List Raw) FruFault) → checked (with_field raw read) ≡ checked read
checked-with_field raw (Ok raws) = refl
checked-with_field raw (Err fault) = refl

-- the field that stands at a position, where its bytes are those of the area
first_field-at :
    (area : Area) (bytes : List ℕ) (at : ℕ) → IsFieldAt bytes at → field_end bytes at ≤ checksum_at bytes →
    first_field area (field_bytes bytes at) ≡ Ok (Some (raw_at (slice_index bytes at) (field_bytes bytes (at + 1)), field_bytes bytes (field_end bytes at)))
first_field-at area bytes at field fits =
    let head = slice_index bytes at in
    let later = field_bytes bytes (at + 1) in
    let inside : len_of head ≤ length later = omega (arith, length-field_bytes_at bytes (at + 1), fits) in
    ap (first_field area) (field_bytes-front bytes at field.inside)
    ∙ first_field-fits area head later field.not_mark inside
    ∙ ap (λ (rest : List ℕ). Ok (Some (raw_at head later, rest))) (drop-field_bytes bytes (at + 1) (len_of head) fits)

-- what is read from each position that fields lead to decides what is read of all
goes_on_at :
    (area : Area) (bytes : List ℕ) (start at : ℕ) → Reaches bytes start at →
    GoesOn area (field_bytes bytes at) checked (checked (raw_fields area bytes start))
goes_on_at area _ _ _ (first bytes start) =
    GoesOn-start area (field_bytes bytes start) bytes start checked _ refl (omega (arith, length-field_bytes_at bytes start)) refl
goes_on_at area _ _ _ (next bytes start at reached field fits) =
    let shorter : length (field_bytes bytes (field_end bytes at)) < length (field_bytes bytes at) =
    omega (arith, length-field_bytes_at bytes at, length-field_bytes_at bytes (field_end bytes at), field.inside) in
    GoesOn-field area (field_bytes bytes at) (field_bytes bytes (field_end bytes at)) _ checked checked _ (first_field-at area bytes at field fits) shorter
    (checked-with_field _) (goes_on_at area bytes start at reached)

checked-err : (r : Result (List Raw) FruFault) (fault : FruFault) → Err fault ≡ checked r → r ≡ Err fault
checked-err (Ok raws) fault e = absurd (cc)
checked-err (Err other) fault e = let same : fault ≡ other = cc in ap Err (sym same)

checked-ok : (r : Result (List Raw) FruFault) → Ok tt ≡ checked r → IsOk r
checked-ok (Ok raws) e = refl
checked-ok (Err other) e = absurd (cc)

pub read-outside :
    (area : Area) (bytes : List ℕ) (start : ℕ) → HasFieldOutside bytes start → raw_fields area bytes start ≡ Err (FieldOutside area)
read-outside area bytes start has =
    let later = field_bytes bytes (has.at + 1) in
    let over : length later < len_of (slice_index bytes has.at) =
    omega (arith, length-field_bytes_at bytes (has.at + 1), has.outside, has.field.inside) in
    let read =
    ap (first_field area) (field_bytes-front bytes has.at has.field.inside)
    ∙ first_field-outside area (slice_index bytes has.at) later has.field.not_mark over in
    checked-err _ _ (GoesOn-fault area (field_bytes bytes has.at) checked _ (FieldOutside area) read (goes_on_at area bytes start has.at has.reached))

pub read-no_end : (area : Area) (bytes : List ℕ) (start : ℕ) → LacksEnd bytes start → raw_fields area bytes start ≡ Err (NoEnd area)
read-no_end area bytes start reached =
    let read = ap (first_field area) (field_bytes-at_checksum bytes) ∙ first_field-none area in
    let on = goes_on_at area bytes start (checksum_at bytes) reached in
    checked-err _ _ (GoesOn-fault area (field_bytes bytes (checksum_at bytes)) checked _ (NoEnd area) read on)

pub read-whole : (area : Area) (bytes : List ℕ) (start : ℕ) → HasEnd bytes start → IsOk (raw_fields area bytes start)
read-whole area bytes start has =
    let read =
    ap (first_field area) (field_bytes-front bytes has.at has.inside)
    ∙ first_field-mark area (slice_index bytes has.at) (field_bytes bytes (has.at + 1)) has.mark in
    checked-ok _ (GoesOn-end area (field_bytes bytes has.at) checked _ read (goes_on_at area bytes start has.at has.reached))

-- fields lead to one of the three
abbrev Decided : List ℕ → ℕ → Type 0
Decided bytes start = HasFieldOutside bytes start ⊎ (LacksEnd bytes start ⊎ HasEnd bytes start)

decided_from :
    (more : ℕ) (bytes : List ℕ) (start at : ℕ) → checksum_at bytes < at + more → at ≤ checksum_at bytes → Reaches bytes start at → Decided bytes start
decided_from zero bytes start at enough fits reached = absurd (omega arith)
decided_from (suc more) bytes start at enough fits reached =
    of (cases_lt at (checksum_at bytes)) (decided_from more bytes start (field_end bytes at))
  where
    of :
        (at < checksum_at bytes) ⊎ (checksum_at bytes ≤ at) →
        (checksum_at bytes < field_end bytes at + more → field_end bytes at ≤ checksum_at bytes → Reaches bytes start (field_end bytes at) →
        Decided bytes start) →
        Decided bytes start
    of (inr end) later =
        let same : at ≡ checksum_at bytes = omega arith in
        inr (inl (subst (Reaches bytes start) same reached))
    of (inl inside) later = with_byte (cases_eq (slice_index bytes at) end_mark) (cases_lt (checksum_at bytes) (field_end bytes at))
      where
        with_byte :
            (slice_index bytes at ≡ end_mark) ⊎ (slice_index bytes at ≡ end_mark → ⊥) →
            (checksum_at bytes < field_end bytes at) ⊎ (field_end bytes at ≤ checksum_at bytes) → Decided bytes start
        with_byte (inl mark) size = inr (inr (record { at = at; reached = reached; inside = inside; mark = mark }))
        with_byte (inr not_mark) (inl outside) =
            inl (record { at = at; reached = reached; field = record { inside = inside; not_mark = not_mark }; outside = outside })
        with_byte (inr not_mark) (inr within) =
            later (omega arith) within (next bytes start at reached (record { inside = inside; not_mark = not_mark }) within)

decided : (bytes : List ℕ) (start : ℕ) → start < length bytes → Decided bytes start
decided bytes start inside = decided_from (length bytes) bytes start start (omega arith) (omega arith) (first bytes start)

-- what is read tells which of the three it was
pub outside_read :
    (area : Area) (bytes : List ℕ) (start : ℕ) → start < length bytes → raw_fields area bytes start ≡ Err (FieldOutside area) → HasFieldOutside bytes start
outside_read area bytes start inside read = of (decided bytes start inside)
  where
    of : Decided bytes start → HasFieldOutside bytes start
    of (inl outside) = outside
    of (inr (inl lacks)) = let other = read-no_end area bytes start lacks in absurd (cc)
    of (inr (inr has)) = let whole = rw read at (read-whole area bytes start has) in absurd (cc)

pub no_end_read :
    (area : Area) (bytes : List ℕ) (start : ℕ) → start < length bytes → raw_fields area bytes start ≡ Err (NoEnd area) → LacksEnd bytes start
no_end_read area bytes start inside read = of (decided bytes start inside)
  where
    of : Decided bytes start → LacksEnd bytes start
    of (inl outside) = let other = read-outside area bytes start outside in absurd (cc)
    of (inr (inl lacks)) = lacks
    of (inr (inr has)) = let whole = rw read at (read-whole area bytes start has) in absurd (cc)

pub whole_read : (area : Area) (bytes : List ℕ) (start : ℕ) → start < length bytes → IsOk (raw_fields area bytes start) → HasEnd bytes start
whole_read area bytes start inside read = of (decided bytes start inside)
  where
    of : Decided bytes start → HasEnd bytes start
    of (inl outside) = let whole = rw (read-outside area bytes start outside) at read in absurd (cc)
    of (inr (inl lacks)) = let whole = rw (read-no_end area bytes start lacks) at read in absurd (cc)
    of (inr (inr has)) = has
