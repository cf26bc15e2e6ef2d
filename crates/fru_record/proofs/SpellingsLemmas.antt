-- What is read of a record is what its bytes spell.
use Rattle.std.proofs.Common.{◌≡◌, ◌≢◌, ◌+◌, ◌*◌, ℕ, List, [], ◌++◌, length, take, Bool, true, false, not, cond, eq-eqb, nat_eq, nat_lt, slice_index}
use Rattle.std.proofs.Common.{slice_range, Result, Ok, Err, refl, ap, sym, ◌∙◌}
use Rattle.std.proofs.lemmas.Bool.{eqb-true, eqb-false, ne_eqb, ltb-false, le-ltb}
use Rattle.std.specs.Prelude.{◌||◌}
use Rattle.fru_area.specs.Areas.{named, named_ok, area_fields}
use Rattle.fru_area.specs.Headers.{unit, header_len, longest_record, header, area_at, area_end, checksum}
use Rattle.fru_area.specs.Walks.{Raw, Spells, raw_fields, field_bytes}
use Rattle.fru_area.specs.declared.fault.Area.{Area}
use Rattle.fru_area.specs.declared.fault.Area.TheVariants.{Chassis, Board, Product}
use Rattle.fru_area.specs.declared.fault.FruFault.{FruFault}
use Rattle.fru_area.specs.declared.field.Field.{Field}
use Rattle.fru_area.specs.declared.header.Header.{Header}
use Rattle.fru_area.proofs.WalksLemmas.{Spells-raw_fields, raw_fields-Spells}
use Rattle.fru_record.specs.Records.{names_of, fields_start, is_english, fixed_fields, fields_of_area, fields_at, fields_under, record_of, ◌>>=◌}
use Rattle.fru_record.specs.Spellings.{area_from, HasHeader, HasArea, SpellsArea, SpellsPart, absent, present, SpellsRecord}
use Rattle.fru_record.proofs.TextRulesLemmas.{both_false}
use Rattle.fru_record.proofs.RecordsLemmas.{ok_same, named_of, fields_of_area-ok, fields_at-absent, fields_at-placed, fields_at-present}
use Rattle.fru_record.proofs.RecordsLemmas.{record_of-header, fields_under-ok}

then_parts : {X Y : Type 0} (r : Result X FruFault) (f : X → Result Y FruFault) (y : Y) → (r >>= f) ≡ Ok y → (x : X) × (r ≡ Ok x) × (f x ≡ Ok y)
then_parts (Ok x) f y h = (x, refl, h)
then_parts (Err fault) f y h = absurd (cc)

-- a rule that is not broken
unbroken : {X : Type 0} (broken : Bool) (fault : FruFault) (rest : Result X FruFault) (x : X) → cond broken (Err fault) rest ≡ Ok x
    → (broken ≡ false) × (rest ≡ Ok x)
unbroken true fault rest x h = absurd (cc)
unbroken false fault rest x h = (refl, h)

true-not : (b : Bool) → not b ≡ false → b ≡ true
true-not true h = refl
true-not false h = absurd (cc)

-- the header of bytes that keep its rules
abbrev pub header_of : List ℕ → Header
header_of bytes = record { chassis = slice_index bytes 2; board = slice_index bytes 3; product = slice_index bytes 4; multi = slice_index bytes 5 }

pub HasHeader-read : (bytes : List ℕ) (at : Header) → header bytes ≡ Ok at → HasHeader bytes × (at ≡ header_of bytes)
unfolding header
HasHeader-read bytes at h =
    let short = unbroken (nat_lt (length bytes) 8) _ _ _ h in
    let long = unbroken (nat_lt 4096 (length bytes)) _ _ _ short.1 in
    let version = unbroken (not (nat_eq (slice_index bytes 0) 1)) _ _ _ long.1 in
    let sum = unbroken (not (nat_eq (checksum (take 8 bytes)) 0)) _ _ _ version.1 in (
      record {
        least = ltb-false (length bytes) 8 short.0;
        limit = ltb-false 4096 (length bytes) long.0;
        version = eqb-true (slice_index bytes 0) 1 (true-not _ version.0);
        sum = eqb-true (checksum (take 8 bytes)) 0 (true-not _ sum.0);
      },
      sym (ok_same (header_of bytes) at sum.1),
    )

pub read-HasHeader : (bytes : List ℕ) → HasHeader bytes → header bytes ≡ Ok (header_of bytes)
unfolding header
read-HasHeader bytes h =
    rw (
      le-ltb (length bytes) header_len h.least,
      le-ltb longest_record (length bytes) h.limit,
      eq-eqb (slice_index bytes 0) 1 h.version,
      eq-eqb (checksum (take header_len bytes)) 0 h.sum,
    ) refl

pub HasArea-read : (area : Area) (bytes found : List ℕ) (s : ℕ) → area_at area bytes s ≡ Ok found
    → HasArea bytes s × (found ≡ slice_range bytes s (area_end bytes s))
unfolding area_at
HasArea-read area bytes found s h =
    let outside = unbroken (nat_lt (length bytes) (s + 8) || nat_lt (length bytes) (area_end bytes s)) _ _ _ h in
    let ends = both_false _ _ outside.0 in
    let version = unbroken (not (nat_eq (slice_index bytes s) 1)) _ _ _ outside.1 in
    let size = unbroken (nat_eq (slice_index bytes (s + 1)) 0) _ _ _ version.1 in
    let sum = unbroken (not (nat_eq (checksum (slice_range bytes s (area_end bytes s))) 0)) _ _ _ size.1 in (
      record {
        head = ltb-false (length bytes) (s + 8) ends.0;
        inside = ltb-false (length bytes) (area_end bytes s) ends.1;
        version = eqb-true (slice_index bytes s) 1 (true-not _ version.0);
        size = eqb-false (slice_index bytes (s + 1)) 0 size.0;
        sum = eqb-true (checksum (slice_range bytes s (area_end bytes s))) 0 (true-not _ sum.0);
      },
      sym (ok_same (slice_range bytes s (area_end bytes s)) found sum.1),
    )

pub read-HasArea : (area : Area) (bytes : List ℕ) (s : ℕ) → HasArea bytes s → area_at area bytes s ≡ Ok (area_from bytes s)
unfolding area_at
read-HasArea area bytes s h =
    rw (
      le-ltb (length bytes) (s + unit) h.head,
      le-ltb (length bytes) (area_end bytes s) h.inside,
      eq-eqb (slice_index bytes s) 1 h.version,
      ne_eqb (slice_index bytes (s + 1)) 0 h.size,
      eq-eqb (checksum (area_from bytes s)) 0 h.sum,
    ) refl

named_parts : (area : Area) (bytes : List ℕ) (fields : List Field) (r : Result (List Raw) FruFault)
    → named_ok area (is_english area bytes) (names_of area) r ≡ Ok fields
    → (raws : List Raw) × (r ≡ Ok raws) × (fields ≡ named area (is_english area bytes) (names_of area) 1 raws)
named_parts area bytes fields (Ok raws) h = (raws, refl, sym (ok_same (named area (is_english area bytes) (names_of area) 1 raws) fields h))
named_parts area bytes fields (Err fault) h = absurd (cc)

area_parts : (area : Area) (bytes : List ℕ) (fields : List Field) → fields_of_area area bytes ≡ Ok fields
    → (raws : List Raw) × Spells (field_bytes bytes (fields_start area)) raws ×
    (fields ≡ fixed_fields area bytes ++ named area (is_english area bytes) (names_of area) 1 raws)
unfolding fields_of_area area_fields
area_parts area bytes fields h =
    let t = then_parts (named_of area bytes) (λ (fields : List Field). Ok (fixed_fields area bytes ++ fields)) fields h in
    let n = named_parts area bytes t.0 (raw_fields area bytes (fields_start area)) t.1 in (
      n.0,
      Spells-raw_fields area bytes (fields_start area) n.0 n.1,
      sym (ok_same (fixed_fields area bytes ++ t.0) fields t.2)
          ∙ ap (λ (fs : List Field). fixed_fields area bytes ++ fs) n.2,
    )

pub area_whole : (area : Area) (bytes : List ℕ) (raws : List Raw) → Spells (field_bytes bytes (fields_start area)) raws
    → fields_of_area area bytes ≡ Ok (fixed_fields area bytes ++ named area (is_english area bytes) (names_of area) 1 raws)
unfolding area_fields
area_whole area bytes raws s =
    fields_of_area-ok area bytes (fixed_fields area bytes) (named area (is_english area bytes) (names_of area) 1 raws) _ refl
    (ap (named_ok area (is_english area bytes) (names_of area)) (raw_fields-Spells area bytes (fields_start area) raws s)) refl

pub part_read : (area : Area) (bytes : List ℕ) (offset : ℕ) (fields : List Field) (none : Bool) → nat_eq offset 0 ≡ none
    → fields_at area bytes offset ≡ Ok fields → SpellsPart area bytes offset fields
part_read area bytes offset fields true z h =
    let zero_offset : offset ≡ 0 = eqb-true offset 0 z in
    let none : fields ≡ [] = ok_same fields [] (sym h ∙ fields_at-absent area bytes offset [] zero_offset refl) in
    rw (zero_offset, none) absent
part_read area bytes offset fields false z h =
    let ne = eqb-false offset 0 z in
    let t = then_parts (area_at area bytes (8 * offset)) (fields_of_area area) fields (sym (fields_at-placed area bytes offset ne) ∙ h) in
    let a = HasArea-read area bytes t.0 (8 * offset) t.1 in
    let p = area_parts area (slice_range bytes (8 * offset) (area_end bytes (8 * offset))) fields (rw a.1 at t.2) in
    present offset fields ne (record {
      placed = a.0;
      raws = p.0;
      spelled = p.1;
      named_so = p.2;
    })

read_area_part : (area : Area) (bytes : List ℕ) (offset : ℕ) (fields : List Field) → offset ≢ 0 → SpellsArea area bytes (8 * offset) fields
    → fields_at area bytes offset ≡ Ok fields
read_area_part area bytes offset fields ne a =
    fields_at-present area bytes _ offset ne (read-HasArea area bytes (8 * offset) a.placed)
    ∙ area_whole area (slice_range bytes (8 * offset) (area_end bytes (8 * offset))) a.raws a.spelled
    ∙ ap Ok (sym a.named_so)

pub read_part : (area : Area) (bytes : List ℕ) (offset : ℕ) (fields : List Field) → SpellsPart area bytes offset fields
    → fields_at area bytes offset ≡ Ok fields
read_part area bytes _ _ absent = fields_at-absent area bytes 0 [] refl refl
read_part area bytes _ _ (present offset fields ne a) = read_area_part area bytes offset fields ne a

pub record-spelled : (bytes : List ℕ) (fields : List Field) → record_of bytes ≡ Ok fields → SpellsRecord bytes fields
unfolding record_of fields_under
record-spelled bytes fields h =
    let t = then_parts (header bytes) (fields_under bytes) fields h in
    let hd = HasHeader-read bytes t.0 t.1 in
    let under = rw hd.1 at t.2 in
    let c = then_parts (fields_at Chassis bytes (slice_index bytes 2)) _ fields under in
    let b = then_parts (fields_at Board bytes (slice_index bytes 3)) _ fields c.2 in
    let p = then_parts (fields_at Product bytes (slice_index bytes 4)) _ fields b.2 in
    record {
      header = hd.0;
      chassis = c.0;
      board = b.0;
      product = p.0;
      chassis_part = part_read Chassis bytes _ c.0 _ refl c.1;
      board_part = part_read Board bytes _ b.0 _ refl b.1;
      product_part = part_read Product bytes _ p.0 _ refl p.1;
      joined = sym (ok_same (c.0 ++ b.0 ++ p.0) fields p.2);
    }

pub spelled-record : (bytes : List ℕ) (fields : List Field) → SpellsRecord bytes fields → record_of bytes ≡ Ok fields
spelled-record bytes fields s =
    record_of-header bytes (header_of bytes) (read-HasHeader bytes s.header)
    ∙ fields_under-ok bytes (header_of bytes) s.chassis s.board s.product (read_part Chassis bytes _ _ s.chassis_part)
    (read_part Board bytes _ _ s.board_part) (read_part Product bytes _ _ s.product_part)
    ∙ ap Ok (sym s.joined)

pub spelled-one : (bytes : List ℕ) (fields others : List Field) → SpellsRecord bytes fields → SpellsRecord bytes others → fields ≡ others
spelled-one bytes fields others s t = ok_same fields others (sym (spelled-record bytes fields s) ∙ spelled-record bytes others t)
