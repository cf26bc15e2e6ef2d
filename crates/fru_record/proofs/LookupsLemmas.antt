-- The names of a record's fields.
use Rattle.std.proofs.Common.{◌≡◌, ℕ, suc, ◌+◌, ◌*◌, ◌<◌, ◌≤◌, Bool, true, false, nat_eq, if◌then◌else◌, List, [], ◌∷◌, ◌++◌, length, decimal}
use Rattle.std.proofs.Common.{slice_index, slice_range, Option, None, option_map, find, bytes_eq, Ok, refl, ap, arith, length-append, length-drop}
use Rattle.std.specs.List.{All}
use Rattle.std.proofs.lemmas.List.{length-take}
use Rattle.std.proofs.lemmas.List.Elements.{All-cons, All-append}
use Rattle.std.proofs.lemmas.Slice.Eq.{bytes_eq-Decides}
use Rattle.std.specs.Bool.{Decides}
use Rattle.fru_area.specs.Areas.{named}
use Rattle.fru_area.specs.Names.{name_text, IsName}
use Rattle.fru_area.specs.Walks.{Raw, Spells, ended, field, field_bytes}
use Rattle.fru_area.specs.declared.fault.Area.{Area}
use Rattle.fru_area.specs.declared.fault.Area.TheVariants.{Chassis, Board, Product}
use Rattle.fru_area.specs.declared.name.FieldName.{FieldName}
use Rattle.fru_area.specs.declared.name.FieldName.TheVariants.{ChassisType, BoardManufactureDate}
use Rattle.fru_area.specs.declared.field.Field.{Field}
use Rattle.fru_record.specs.Dates.{minutes_of, date_text}
use Rattle.fru_record.specs.Lookups.{text_named, AreNamed}
use Rattle.fru_record.specs.Records.{names_of, fields_start, is_english, fixed_fields, record_of}
use Rattle.fru_record.specs.Spellings.{area_from, SpellsArea, SpellsPart, absent, present}
use Rattle.fru_record.proofs.SpellingsLemmas.{record-spelled}

none_of : {X : Type 0} (P : X → Type 0) → All P []
none_of P = λ k d l. absurd (omega arith)

abbrev AreNames : List FieldName → Type 0
AreNames [] = Unit {0}
AreNames (name ∷ names) = IsName name × AreNames names

AreNames-area : (area : Area) → AreNames (names_of area)
AreNames-area Chassis = (tt, (tt, tt))
AreNames-area Board = (tt, (tt, (tt, (tt, (tt, tt)))))
AreNames-area Product = (tt, (tt, (tt, (tt, (tt, (tt, (tt, tt)))))))

AreNamed-cons : (first : Field) (fields : List Field) → IsName first.name → AreNamed fields → AreNamed (first ∷ fields)
AreNamed-cons first fields is rest = All-cons (λ (field : Field). IsName field.name) first fields is rest

AreNamed-append : (fields others : List Field) → AreNamed fields → AreNamed others → AreNamed (fields ++ others)
AreNamed-append fields others first second = All-append (λ (field : Field). IsName field.name) fields others first second

AreNamed-named : (area : Area) (english : Bool) (names : List FieldName) (number : ℕ) (raws : List Raw) → AreNames names → 1 ≤ number
    → number + length raws ≤ 2041
    → AreNamed (named area english names number raws)
AreNamed-named area english names number [] names_are low high = none_of (λ (field : Field). IsName field.name)
AreNamed-named area english (name ∷ names) number (raw ∷ raws) names_are low high =
    AreNamed-cons _ _ names_are.0 (AreNamed-named area english names number raws names_are.1 low (omega arith))
AreNamed-named area english [] number (raw ∷ raws) names_are low high =
    AreNamed-cons _ _ (low, omega arith) (AreNamed-named area english [] (number + 1) raws names_are (omega arith) (omega arith))

-- each field takes a byte, and so does the end mark
length-Spells : (bytes : List ℕ) (raws : List Raw) → Spells bytes raws → length raws < length bytes
length-Spells _ _ (ended rest) = omega arith
length-Spells _ _ (field head text rest raws ne e spelled) = omega (arith, length-Spells rest raws spelled, length-append text rest)

length-fields : (bytes : List ℕ) (s size start : ℕ) → length (field_bytes (slice_range bytes s (s + size)) start) ≤ size
length-fields bytes s size start = simp (length-take, length-drop) (omega arith)

AreNamed-fixed : (area : Area) (bytes : List ℕ) → AreNamed (fixed_fields area bytes)
AreNamed-fixed Chassis bytes =
    AreNamed-cons (record { name = ChassisType; text = decimal (slice_index bytes 2) }) [] tt (none_of (λ (field : Field). IsName field.name))
AreNamed-fixed Board bytes = dated (nat_eq (minutes_of bytes) 0) (record { name = BoardManufactureDate; text = date_text (minutes_of bytes) }) tt
  where
    dated : (none : Bool) (date : Field) → IsName date.name → AreNamed (if none then [] else date ∷ [])
    dated true date is = none_of (λ (field : Field). IsName field.name)
    dated false date is = AreNamed-cons date [] is (none_of (λ (field : Field). IsName field.name))
AreNamed-fixed Product bytes = none_of (λ (field : Field). IsName field.name)

AreNamed-area : (area : Area) (bytes : List ℕ) (s : ℕ) (fields : List Field) → slice_index bytes (s + 1) < 256 → SpellsArea area bytes s fields
    → AreNamed fields
AreNamed-area area bytes s fields byte spelled =
    let english = is_english area (area_from bytes s) in
    let fewer = length-Spells _ spelled.raws spelled.spelled in
    let most = length-fields bytes s (8 * slice_index bytes (s + 1)) (fields_start area) in
    rw spelled.named_so (AreNamed-append (fixed_fields area (area_from bytes s)) (named area english (names_of area) 1 spelled.raws)
    (AreNamed-fixed area _) (AreNamed-named area english (names_of area) 1 spelled.raws (AreNames-area area) (omega arith) (omega arith)))

AreNamed-part : (area : Area) (bytes : List ℕ) (offset : ℕ) (fields : List Field) → ((k : ℕ) → slice_index bytes k < 256)
    → SpellsPart area bytes offset fields → AreNamed fields
AreNamed-part area bytes _ _ byte absent = none_of (λ (field : Field). IsName field.name)
AreNamed-part area bytes _ _ byte (present offset fields ne spelled) = AreNamed-area area bytes (8 * offset) fields (byte (8 * offset + 1)) spelled

-- the fields of a record have names of fields
pub AreNamed-record : (bytes : List ℕ) (fields : List Field) → ((k : ℕ) → slice_index bytes k < 256) → record_of bytes ≡ Ok fields → AreNamed fields
AreNamed-record bytes fields byte read =
    let spelled = record-spelled bytes fields read in
    rw spelled.joined (AreNamed-append (spelled.chassis ++ spelled.board) spelled.product
    (AreNamed-append spelled.chassis spelled.board (AreNamed-part Chassis bytes _ _ byte spelled.chassis_part)
    (AreNamed-part Board bytes _ _ byte spelled.board_part))
    (AreNamed-part Product bytes _ _ byte spelled.product_part))

-- the text of what was found in fields
pub text_named-found : (fields : List Field) (name : List ℕ) (found : Option Field)
    → found ≡ find (λ (field : Field). bytes_eq (name_text field.name) name) fields
    → option_map (λ (field : Field). field.text) found ≡ text_named fields name
unfolding text_named
text_named-found fields name found e = ap (option_map (λ (field : Field). field.text)) e

unlike : {P : Type 0} (same : Bool) → Decides same P → (P → ⊥) → same ≡ false
unlike true same differ = absurd (differ (same.0 refl))
unlike false same differ = refl

-- a text that is no name of a field names none of a record's
pub text_named-none : (fields : List Field) (text : List ℕ) → AreNamed fields → ((name : FieldName) → IsName name → name_text name ≡ text → ⊥)
    → text_named fields text ≡ None
unfolding text_named
text_named-none fields text are_named none = ap (option_map (λ (field : Field). field.text)) (find-none fields are_named)
  where
    find-none : (fields : List Field) → AreNamed fields → find (λ (field : Field). bytes_eq (name_text field.name) text) fields ≡ None
    find-none [] are_named = refl
    find-none (first ∷ fields) are_named =
        rw (unlike (bytes_eq (name_text first.name) text) (bytes_eq-Decides (name_text first.name) text) (none first.name (are_named 0 first (omega arith))))
        (find-none fields (λ k d l. are_named (suc k) d (omega arith)))
