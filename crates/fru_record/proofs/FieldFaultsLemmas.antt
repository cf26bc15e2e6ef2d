-- When the fields of an area of a record break a rule, by positions.
use Rattle.std.proofs.Common.{◌≡◌, ◌≢◌, ◌*◌, ◌<◌, ℕ, List, [], ◌++◌, length, Bool, true, false, nat_eq, slice_index, Result, Ok, Err, refl, ap, sym}
use Rattle.std.proofs.Common.{subst, ◌∙◌, arith, length-drop}
use Rattle.std.proofs.lemmas.Bool.{eqb-true, eqb-false}
use Rattle.std.proofs.lemmas.List.{length-take}
use Rattle.fru_area.specs.Areas.{area_fields, named_ok}
use Rattle.fru_area.specs.Headers.{header, area_at}
use Rattle.fru_area.specs.Walks.{Raw, raw_fields}
use Rattle.fru_area.specs.declared.fault.Area.{Area}
use Rattle.fru_area.specs.declared.fault.Area.TheVariants.{Chassis, Board, Product}
use Rattle.fru_area.specs.declared.fault.FruFault.{FruFault}
use Rattle.fru_area.specs.declared.name.FieldName.{FieldName}
use Rattle.fru_area.specs.declared.field.Field.{Field}
use Rattle.fru_record.specs.FieldFaults.{IsSpelled, EarlierSpelled, BreaksFields}
use Rattle.fru_record.specs.Records.{names_of, fields_start, is_english, fixed_fields, fields_of_area, fields_at, fields_under, record_of, ◌>>=◌}
use Rattle.fru_record.specs.Spellings.{HasHeader, HasArea, area_from, offset_in}
use Rattle.fru_record.proofs.RecordsLemmas.{named_of, IsOfHeader, IsOfPlace, IsOfFields, Faults-header, Faults-area_at, Faults-fields_at}
use Rattle.fru_record.proofs.RecordsLemmas.{fields_at-absent, fields_at-placed, fields_at-present, record_of-header}
use Rattle.fru_record.proofs.SpellingsLemmas.{header_of, HasHeader-read, HasArea-read, part_read, read_part, read-HasHeader, read-HasArea}

-- A rule of fields and its fault: where it comes, and that it is no fault of a header or of an area's place, and names its
-- area.
pub record IsRule (fault : Area → FruFault) (rule : List ℕ → ℕ → Type 0) : Type 0 where
  pub broken : (area : Area) (bytes : List ℕ) (start : ℕ) → start < length bytes → raw_fields area bytes start ≡ Err (fault area) → rule bytes start
  pub named : (area : Area) (bytes : List ℕ) (start : ℕ) → rule bytes start → raw_fields area bytes start ≡ Err (fault area)
  pub no_header : (area : Area) → IsOfHeader (fault area) → ⊥
  pub no_place : (area : Area) → IsOfPlace area (fault area) → ⊥
  pub one_area : (area other : Area) → IsOfFields area (fault other) → area ≡ other

-- where a reading in two steps ends in a fault, one of the two does
fault_from : {X Y R : Type 0} (read : Result X FruFault) (f : X → Result Y FruFault) (fault : FruFault) → (read >>= f) ≡ Err fault
    → (read ≡ Err fault → R) → ((x : X) → read ≡ Ok x → f x ≡ Err fault → R) → R
fault_from (Ok x) f fault e first second = second x refl e
fault_from (Err other) f fault e first second = first (ap Err (same other fault e))
  where
    same : {Y : Type 0} (other fault : FruFault) → (let read : Result Y FruFault = Err other in read ≡ Err fault) → other ≡ fault
    same other fault e = cc

no_fault : {X R : Type 0} (x : X) (fault : FruFault) → (let read : Result X FruFault = Ok x in read ≡ Err fault) → R
no_fault x fault e = absurd (cc)

named_fault : (area : Area) (english : Bool) (names : List FieldName) (raws : Result (List Raw) FruFault) (fault : FruFault)
    → named_ok area english names raws ≡ Err fault → raws ≡ Err fault
named_fault area english names (Ok raws) fault e = absurd (cc)
named_fault area english names (Err other) fault e = cc

raw_fault : (area : Area) (bytes : List ℕ) (fault : FruFault) → fields_of_area area bytes ≡ Err fault → raw_fields area bytes (fields_start area) ≡ Err fault
unfolding fields_of_area area_fields
raw_fault area bytes fault e =
    fault_from (named_of area bytes) (λ (fields : List Field). Ok (fixed_fields area bytes ++ fields)) fault e
    (λ none. named_fault area (is_english area bytes) (names_of area) (raw_fields area bytes (fields_start area)) fault none)
    (λ fields read none. no_fault (fixed_fields area bytes ++ fields) fault none)

fault_of_area : (area : Area) (bytes : List ℕ) (fault : FruFault) → raw_fields area bytes (fields_start area) ≡ Err fault
    → fields_of_area area bytes ≡ Err fault
unfolding fields_of_area area_fields
fault_of_area area bytes fault e =
    ap (λ (raws : Result (List Raw) FruFault). named_ok area (is_english area bytes) (names_of area) raws >>=
    (λ fields. Ok (fixed_fields area bytes ++ fields))) e

-- the first field of a whole area stands in it
start_inside : (area : Area) (bytes : List ℕ) (start : ℕ) → HasArea bytes start → fields_start area < length (area_from bytes start)
start_inside Chassis bytes start h = simp (length-take, length-drop) (omega (arith, h.inside, h.size))
start_inside Board bytes start h = simp (length-take, length-drop) (omega (arith, h.inside, h.size))
start_inside Product bytes start h = simp (length-take, length-drop) (omega (arith, h.inside, h.size))

-- an area whose fields break a rule
record BreaksHere (rule : List ℕ → ℕ → Type 0) (area : Area) (bytes : List ℕ) : Type 0 where
  there : offset_in area bytes ≢ 0
  placed : HasArea bytes (8 * offset_in area bytes)
  broken : rule (area_from bytes (8 * offset_in area bytes)) (fields_start area)

breaks_here : (fault : Area → FruFault) (rule : List ℕ → ℕ → Type 0) → IsRule fault rule → (area : Area) (bytes : List ℕ) (none : Bool)
    → nat_eq (offset_in area bytes) 0 ≡ none
    → fields_at area bytes (offset_in area bytes) ≡ Err (fault area) → BreaksHere rule area bytes
breaks_here fault rule is area bytes true z e =
    no_fault [] (fault area) (sym (fields_at-absent area bytes (offset_in area bytes) [] (eqb-true (offset_in area bytes) 0 z) refl) ∙ e)
breaks_here fault rule is area bytes false z e =
    let there = eqb-false (offset_in area bytes) 0 z in
    fault_from (area_at area bytes (8 * offset_in area bytes)) (fields_of_area area) (fault area)
    (sym (fields_at-placed area bytes (offset_in area bytes) there) ∙ e)
    (λ none. absurd (is.no_place area (Faults-area_at area bytes (8 * offset_in area bytes) (fault area) none)))
    (λ found at read.
    let whole = HasArea-read area bytes found (8 * offset_in area bytes) at in
    record {
      there = there;
      placed = whole.0;
      broken = is.broken area _ _ (start_inside area bytes (8 * offset_in area bytes) whole.0) (raw_fault area _ (fault area) (rw whole.1 at read));
    })

reads_fault : (fault : Area → FruFault) (rule : List ℕ → ℕ → Type 0) → IsRule fault rule → (area : Area) (bytes : List ℕ) → BreaksFields rule area bytes
    → fields_at area bytes (offset_in area bytes) ≡ Err (fault area)
reads_fault fault rule is area bytes h =
    fields_at-present area bytes _ (offset_in area bytes) h.there (read-HasArea area bytes (8 * offset_in area bytes) h.placed)
    ∙ fault_of_area area _ (fault area) (is.named area _ _ h.broken)

-- a fault of the fields of an area is named by that area alone
elsewhere : (fault : Area → FruFault) (rule : List ℕ → ℕ → Type 0) → IsRule fault rule → (here area : Area) (bytes : List ℕ)
    → fields_at here bytes (offset_in here bytes) ≡ Err (fault area) → here ≡ area
elsewhere fault rule is here area bytes e = is.one_area here area (Faults-fields_at here bytes (offset_in here bytes) (fault area) e)

breaks_fields : (fault : Area → FruFault) (rule : List ℕ → ℕ → Type 0) → IsRule fault rule → (here area : Area) (bytes : List ℕ) → HasHeader bytes
    → EarlierSpelled here bytes
    → fields_at here bytes (offset_in here bytes) ≡ Err (fault area) → BreaksFields rule area bytes
breaks_fields fault rule is here area bytes has_header earlier e =
    let same = elsewhere fault rule is here area bytes e in
    let h = breaks_here fault rule is here bytes _ refl (rw (sym same) at e) in
    subst (λ (area : Area). BreaksFields rule area bytes) same
    (record { header = has_header; earlier = earlier; there = h.there; placed = h.placed; broken = h.broken })

breaks_under : (fault : Area → FruFault) (rule : List ℕ → ℕ → Type 0) → IsRule fault rule → (area : Area) (bytes : List ℕ) → HasHeader bytes
    → fields_under bytes (header_of bytes) ≡ Err (fault area) → BreaksFields rule area bytes
unfolding fields_under
breaks_under fault rule is area bytes has_header e =
    fault_from (fields_at Chassis bytes (slice_index bytes 2)) _ (fault area) e
    (λ first. breaks_fields fault rule is Chassis area bytes has_header tt first) (λ chassis one rest.
    let chassis_spelled : IsSpelled Chassis bytes = (chassis, part_read Chassis bytes _ chassis _ refl one) in
    fault_from (fields_at Board bytes (slice_index bytes 3)) _ (fault area) rest
    (λ second. breaks_fields fault rule is Board area bytes has_header chassis_spelled second) (λ board two last.
    let board_spelled : IsSpelled Board bytes = (board, part_read Board bytes _ board _ refl two) in
    fault_from (fields_at Product bytes (slice_index bytes 4)) _ (fault area) last
    (λ third. breaks_fields fault rule is Product area bytes has_header (chassis_spelled, board_spelled) third) (λ product three none.
    no_fault (chassis ++ board ++ product) (fault area) none)))

pub breaks_record : (fault : Area → FruFault) (rule : List ℕ → ℕ → Type 0) → IsRule fault rule → (area : Area) (bytes : List ℕ)
    → record_of bytes ≡ Err (fault area) → BreaksFields rule area bytes
unfolding record_of
breaks_record fault rule is area bytes e =
    fault_from (header bytes) (fields_under bytes) (fault area) e (λ none. absurd (is.no_header area (Faults-header bytes (fault area) none))) (λ at read under.
    let has = HasHeader-read bytes at read in
    breaks_under fault rule is area bytes has.0 (rw has.1 at under))

fault_under : (area : Area) (bytes : List ℕ) (fault : FruFault) → EarlierSpelled area bytes → fields_at area bytes (offset_in area bytes) ≡ Err fault
    → fields_under bytes (header_of bytes) ≡ Err fault
unfolding fields_under
fault_under Chassis bytes fault earlier e = rw e refl
fault_under Board bytes fault earlier e = rw (read_part Chassis bytes _ _ earlier.1, e) refl
fault_under Product bytes fault earlier e = rw (read_part Chassis bytes _ _ earlier.0.1, read_part Board bytes _ _ earlier.1.1, e) refl

pub record_breaks : (fault : Area → FruFault) (rule : List ℕ → ℕ → Type 0) → IsRule fault rule → (area : Area) (bytes : List ℕ)
    → BreaksFields rule area bytes → record_of bytes ≡ Err (fault area)
record_breaks fault rule is area bytes h =
    record_of-header bytes (header_of bytes) (read-HasHeader bytes h.header)
    ∙ fault_under area bytes (fault area) h.earlier (reads_fault fault rule is area bytes h)
