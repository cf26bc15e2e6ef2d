-- The sizes of the areas of a record that is built, and why it can't be.
use Rattle.std.proofs.Common.{◌≡◌, ◌≢◌, ℕ, ◌+◌, ◌*◌, ◌<◌, ◌≤◌, inl, inr, min, Bool, true, false, cond, nat_lt, List, [], ◌∷◌, ◌++◌, length, Option}
use Rattle.std.proofs.Common.{Some, None, Err, refl, ap, sym, ◌∙◌, arith}
use Rattle.std.specs.Prelude.{◌||◌}
use Rattle.fru_area.specs.Headers.{longest_record}
use Rattle.std.specs.List.{list_any}
use Rattle.std.proofs.lemmas.Bool.{cases_lt, lt-ltb, le-ltb, ltb-false, ne_eqb}
use Rattle.fru_record.specs.Building.{build_fault, has_late_date, is_long_area, is_long_record, units_of, area_units, offset_of, chassis_body}
use Rattle.fru_record.specs.Building.{board_body, product_body, GivesBytes, record_bytes, bytes_of, header_front, closing_byte}
use Rattle.fru_record.specs.Parts.{texts_of, chassis_texts, board_texts, product_texts}
use Rattle.fru_record.specs.Layouts.{is_long_layout, IsLayout, IsBuildable, HasOffsets, offset_at, header_start}
use Rattle.fru_record.specs.TextRules.{AreWritable, breaks}
use Rattle.fru_record.specs.declared.builder.BuildFault.{BuildFault}
use Rattle.fru_record.specs.declared.builder.BuildFault.TheVariants.{DateRange, TextNotLatin, TextTooLong, OneByte, AreaTooLong, RecordTooLong, OutOfMemory}
use Rattle.fru_record.specs.declared.layout.Layout.{Layout}
use Rattle.fru_record.specs.declared.parts.Parts.{Parts}
use Rattle.fru_record.specs.declared.text_rule.TextRule.{TextRule}
use Rattle.fru_record.specs.declared.text_rule.TextRule.TheVariants.{Latin, Length, Single}
use Rattle.fru_record.proofs.TextRulesLemmas.{both_false, AreWritable-append}

-- the first fault, where the rules are tested
abbrev pub fault_by : (date latin length single area whole : Bool) → Option BuildFault
fault_by date latin length single area whole =
    cond date (Some DateRange) (cond latin (Some TextNotLatin)
    (cond length (Some TextTooLong) (cond single (Some OneByte) (cond area (Some AreaTooLong) (cond whole (Some RecordTooLong) None)))))

abbrev pub has_long_area : Parts → Bool
has_long_area parts = is_long_area (chassis_body parts.chassis) || is_long_area (board_body parts.board) || is_long_area (product_body parts.product)

abbrev pub has_long_record : Parts → Bool
has_long_record parts = is_long_record (chassis_body parts.chassis) (board_body parts.board) (product_body parts.product)

abbrev pub has_breach : TextRule → Parts → Bool
has_breach rule parts = list_any (breaks rule) (texts_of parts)

pub build_fault-by : (parts : Parts) → build_fault parts ≡ fault_by (has_late_date parts.board) (has_breach Latin parts) (has_breach Length parts)
    (has_breach Single parts) (has_long_area parts) (has_long_record parts)
unfolding build_fault
build_fault-by parts = refl

pub fault-found : (parts : Parts) (date latin length single area whole : Bool) → date ≡ has_late_date parts.board → latin ≡ has_breach Latin parts
    → length ≡ has_breach Length parts → single ≡ has_breach Single parts → area ≡ has_long_area parts → whole ≡ has_long_record parts
    → fault_by date latin length single area whole ≡ build_fault parts
fault-found parts date latin length single area whole d l n s a w = rw (build_fault-by parts) (rw (d, l, n, s, a, w) refl)

-- what no fault says
record NoFault (date latin length single area whole : Bool) : Type 0 where
  no_date : date ≡ false
  no_latin : latin ≡ false
  no_length : length ≡ false
  no_single : single ≡ false
  no_area : area ≡ false
  no_whole : whole ≡ false

unbroken : (broken : Bool) (fault : BuildFault) (rest : Option BuildFault) → cond broken (Some fault) rest ≡ None → (broken ≡ false) × (rest ≡ None)
unbroken true fault rest h = absurd (cc)
unbroken false fault rest h = (refl, h)

no_fault : (date latin length single area whole : Bool) → fault_by date latin length single area whole ≡ None → NoFault date latin length single area whole
no_fault date latin length single area whole h =
    let d = unbroken date _ _ h in
    let l = unbroken latin _ _ d.1 in
    let n = unbroken length _ _ l.1 in
    let s = unbroken single _ _ n.1 in
    let a = unbroken area _ _ s.1 in
    let w = unbroken whole _ _ a.1 in
    record { no_date = d.0; no_latin = l.0; no_length = n.0; no_single = s.0; no_area = a.0; no_whole = w.0 }

-- sizes up to 256 are enough to see that one is above 255
capped_long : (units size : ℕ) → size ≡ min units 256 → nat_lt 255 size ≡ nat_lt 255 units
capped_long units size e =
    elim (cases_lt 255 units) [
      | inl lt ↦ let over : 255 < size = omega arith in lt-ltb 255 size over ∙ sym (lt-ltb 255 units lt)
      | inr le ↦ let under : size ≤ 255 = omega arith in le-ltb 255 size under ∙ sym (le-ltb 255 units le)
    ]

capped_exact : (units size : ℕ) → size ≡ min units 256 → size ≤ 255 → size ≡ units
capped_exact units size e h = omega arith

pub long_area-seen : (parts : Parts) (layout : Layout) → IsLayout parts layout
    → (nat_lt 255 layout.chassis || nat_lt 255 layout.board || nat_lt 255 layout.product) ≡ has_long_area parts
long_area-seen parts layout h = rw (capped_long _ layout.chassis h.chassis, capped_long _ layout.board h.board, capped_long _ layout.product h.product) refl

offset_of-at : (before : ℕ) (body : Option (List ℕ)) → offset_at before (units_of body) ≡ offset_of before body
offset_of-at before None = refl
offset_of-at before (Some body) = let some : area_units body ≢ 0 = omega arith in rw (ne_eqb (area_units body) 0 some) refl

-- sizes that no area exceeds are the sizes
record IsExact (parts : Parts) (layout : Layout) : Type 0 where
  chassis : layout.chassis ≡ units_of (chassis_body parts.chassis)
  board : layout.board ≡ units_of (board_body parts.board)
  product : layout.product ≡ units_of (product_body parts.product)

exact : (parts : Parts) (layout : Layout) → IsLayout parts layout → layout.chassis ≤ 255 → layout.board ≤ 255 → layout.product ≤ 255 → IsExact parts layout
exact parts layout h c b p = record { chassis = capped_exact _ _ h.chassis c; board = capped_exact _ _ h.board b; product = capped_exact _ _ h.product p }

abbrev pub long_by : (chassis board product : ℕ) → Bool
long_by chassis board product = is_long_layout (record { chassis = chassis; board = board; product = product })

long_by-bodies : (chassis board product : Option (List ℕ)) → long_by (units_of chassis) (units_of board) (units_of product)
    ≡ is_long_record chassis board product
long_by-bodies chassis board product = rw (offset_of-at (1 + units_of chassis) board, offset_of-at (1 + units_of chassis + units_of board) product) refl

pub long_record-seen : (parts : Parts) (layout : Layout) → IsLayout parts layout → layout.chassis ≤ 255 → layout.board ≤ 255 → layout.product ≤ 255
    → long_by layout.chassis layout.board layout.product ≡ has_long_record parts
long_record-seen parts layout h c b p =
    let e = exact parts layout h c b p in
    rw (e.chassis, e.board, e.product) (long_by-bodies (chassis_body parts.chassis) (board_body parts.board) (product_body parts.product))

pub sizes : (parts : Parts) (layout : Layout) → IsLayout parts layout → has_long_area parts ≡ false
    → (layout.chassis ≤ 255) × (layout.board ≤ 255) × (layout.product ≤ 255)
sizes parts layout h e =
    let seen = long_area-seen parts layout h ∙ e in
    let two = both_false _ _ seen in
    let one = both_false _ _ two.0 in
    (ltb-false 255 layout.chassis one.0, ltb-false 255 layout.board one.1, ltb-false 255 layout.product two.1)

offsets : (parts : Parts) (layout : Layout) → IsLayout parts layout → has_long_area parts ≡ false → has_long_record parts ≡ false → HasOffsets layout
offsets parts layout h a w =
    let s = sizes parts layout h a in
    let seen = long_record-seen parts layout h s.0 s.1 s.2 ∙ w in
    let two = both_false _ _ seen in
    let one = both_false _ _ two.0 in
    record { chassis = s.0; board = s.1; product = s.2; board_at = ltb-false 255 _ one.0; product_at = ltb-false 255 _ one.1 }

pub allowed-writable : (parts : Parts) → build_fault parts ≡ None → AreWritable (texts_of parts)
allowed-writable parts h = by_rule
  where
    none : NoFault (has_late_date parts.board) (has_breach Latin parts) (has_breach Length parts) (has_breach Single parts) (has_long_area parts)
        (has_long_record parts)
    none = no_fault _ _ _ _ _ _ (sym (build_fault-by parts) ∙ h)

    by_rule : AreWritable (texts_of parts)
    by_rule Latin = none.no_latin
    by_rule Length = none.no_length
    by_rule Single = none.no_single

pub allowed-early : (parts : Parts) → build_fault parts ≡ None → has_late_date parts.board ≡ false
allowed-early parts h = let none = no_fault _ _ _ _ _ _ (sym (build_fault-by parts) ∙ h) in none.no_date

pub allowed-short : (parts : Parts) → build_fault parts ≡ None
    → 8 * (1 + units_of (chassis_body parts.chassis) + units_of (board_body parts.board) + units_of (product_body parts.product)) ≤ 4096
allowed-short parts h =
    let none = no_fault _ _ _ _ _ _ (sym (build_fault-by parts) ∙ h) in
    let two = both_false _ _ none.no_whole in
    ltb-false longest_record _ two.1

-- parts without a fault can be built
pub IsBuildable-allowed : (parts : Parts) (layout : Layout) → IsLayout parts layout → build_fault parts ≡ None → IsBuildable parts layout
IsBuildable-allowed parts layout h allowed =
    let none = no_fault _ _ _ _ _ _ (sym (build_fault-by parts) ∙ allowed) in
    let s = sizes parts layout h none.no_area in
    let e = exact parts layout h s.0 s.1 s.2 in
    let two = AreWritable-append (chassis_texts parts.chassis ++ board_texts parts.board) (product_texts parts.product) (allowed-writable parts allowed) in
    let one = AreWritable-append (chassis_texts parts.chassis) (board_texts parts.board) two.0 in
    record {
      offsets = offsets parts layout h none.no_area none.no_whole;
      chassis = e.chassis;
      board = e.board;
      product = e.product;
      chassis_writable = one.0;
      board_writable = one.1;
      product_writable = two.1;
    }

pub GivesBytes-fault : (fault : BuildFault) (parts : Parts) → build_fault parts ≡ Some fault → GivesBytes (Err fault) parts
GivesBytes-fault DateRange parts h = h
GivesBytes-fault TextNotLatin parts h = h
GivesBytes-fault TextTooLong parts h = h
GivesBytes-fault OneByte parts h = h
GivesBytes-fault AreaTooLong parts h = h
GivesBytes-fault RecordTooLong parts h = h
GivesBytes-fault OutOfMemory parts h = tt

header-same : (chassis board product : Option (List ℕ)) → header_start
    (record { chassis = units_of chassis; board = units_of board; product = units_of product }) ≡ header_front chassis board product
header-same chassis board product =
    rw (offset_of-at 1 chassis, offset_of-at (1 + units_of chassis) board, offset_of-at (1 + units_of chassis + units_of board) product) refl

header-buildable : (parts : Parts) (layout : Layout) → IsBuildable parts layout
    → header_start layout ≡ header_front (chassis_body parts.chassis) (board_body parts.board) (product_body parts.product)
header-buildable parts layout h =
    rw (h.chassis, h.board, h.product) (header-same (chassis_body parts.chassis) (board_body parts.board) (product_body parts.product))

-- a record that was written area by area
pub record_bytes-written : (parts : Parts) (layout : Layout) (none head first second all : List ℕ) → IsBuildable parts layout → none ≡ []
    → head ≡ none ++ header_start layout ++ closing_byte (header_start layout) ∷ [] → first ≡ head ++ bytes_of (chassis_body parts.chassis)
    → second ≡ first ++ bytes_of (board_body parts.board) → all ≡ second ++ bytes_of (product_body parts.product) → all ≡ record_bytes parts
unfolding record_bytes
record_bytes-written parts layout none head first second all h n e1 e2 e3 e4 =
    let chassis = bytes_of (chassis_body parts.chassis) in
    let board = bytes_of (board_body parts.board) in
    let product = bytes_of (product_body parts.product) in
    e4
    ∙ ap (λ (x : List ℕ). x ++ product) (e3 ∙ ap (λ (x : List ℕ). x ++ board)
    (e2 ∙ ap (λ (x : List ℕ). x ++ chassis) (e1 ∙ ap (λ (x : List ℕ). x ++ header_start layout ++ closing_byte (header_start layout) ∷ []) n)))
    ∙ ap (λ (start : List ℕ). start ++ closing_byte start ∷ [] ++ chassis ++ board ++ product) (header-buildable parts layout h)
