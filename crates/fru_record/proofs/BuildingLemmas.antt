-- What is built is read as it was.
use Rattle.std.proofs.Common.{◌≡◌, ◌≢◌, ℕ, zero, suc, ◌+◌, ◌-◌, ◌*◌, ◌/◌, ◌%◌, ◌<◌, ◌≤◌, true, false, List, [], ◌∷◌, ◌++◌, length, map, get_or}
use Rattle.std.proofs.Common.{replicate, chars, slice_range, Option, Some, None, Ok, refl, ap, ap₂, sym, subst, ◌∙◌, append_assoc, length-append}
use Rattle.std.proofs.Common.{add-zero, append-nil, decimal, nat_eq, if◌then◌else◌, arith}
use Rattle.std.specs.Prelude.{encode_utf8}
use Rattle.std.specs.List.{flat_map, list_any, All}
use Rattle.std.specs.Str.{IsUtf8}
use Rattle.std.proofs.Math.Utf8.{encodes}
use Rattle.std.proofs.lemmas.Bool.{ltb-false, leb-false}
use Rattle.std.proofs.lemmas.List.Elements.{All-cons}
use Rattle.std.proofs.lemmas.List.Sums.{sum_by-append}
use Rattle.std.proofs.lemmas.List.{take_at, drop_at, get_or-append-add, length-replicate}
use Rattle.std.proofs.lemmas.Str.{encodes-chars, encode_ascii}
use Rattle.fru_area.specs.Areas.{named}
use Rattle.fru_area.specs.Headers.{checksum, area_end}
use Rattle.fru_area.specs.Texts.{text_of, latin_text, six_bit_text}
use Rattle.fru_area.specs.Walks.{Raw, Spells, ended, field, field_bytes}
use Rattle.fru_area.specs.declared.fault.Area.{Area}
use Rattle.fru_area.specs.declared.fault.Area.TheVariants.{Chassis, Board, Product}
use Rattle.fru_area.specs.declared.name.FieldName.{FieldName}
use Rattle.fru_area.specs.declared.name.FieldName.TheVariants.{Custom, ChassisType, BoardManufactureDate}
use Rattle.fru_area.specs.declared.field.Field.{Field}
use Rattle.fru_record.specs.Dates.{date_text}
use Rattle.fru_record.specs.Building.{field_of_chars, field_of_text, is_bad_single, area_body, area_units, area_front, area_bytes, closing_byte}
use Rattle.fru_record.specs.Building.{bytes_of, units_of, offset_of, header_front, chassis_body, board_body, product_body, has_late_date, build_fault}
use Rattle.fru_record.specs.Building.{record_bytes}
use Rattle.fru_record.specs.Parts.{text_fields, texts_of, chassis_texts, board_texts, product_texts, chassis_fields, board_fields, product_fields}
use Rattle.fru_record.specs.Parts.{fields_of_parts}
use Rattle.fru_record.specs.Records.{names_of, fields_start, is_english, fixed_fields, record_of}
use Rattle.fru_record.specs.Spellings.{SpellsArea, SpellsPart, absent, present, SpellsRecord}
use Rattle.fru_record.specs.declared.parts.Parts.{Parts}
use Rattle.fru_record.specs.declared.parts.ChassisPart.{ChassisPart}
use Rattle.fru_record.specs.declared.parts.BoardPart.{BoardPart}
use Rattle.fru_record.specs.declared.parts.ProductPart.{ProductPart}
use Rattle.fru_record.specs.TextRules.{IsWritable, AreWritable, breaks}
use Rattle.fru_record.specs.declared.text_rule.TextRule.{TextRule}
use Rattle.fru_record.specs.declared.text_rule.TextRule.TheVariants.{Single}
use Rattle.fru_record.proofs.LayoutsLemmas.{allowed-writable, allowed-early, allowed-short}
use Rattle.fru_record.proofs.SpellingsLemmas.{spelled-record}
use Rattle.fru_record.proofs.TextRulesLemmas.{both_false, writable-short, AreWritable-append}

-- the field that a text becomes
abbrev pub raw_of_chars : List ℕ → Raw
raw_of_chars [] = record { kind = 3; bytes = [] }
raw_of_chars (c ∷ []) = record { kind = 2; bytes = (c - 32) ∷ [] }
raw_of_chars (c ∷ d ∷ cs) = record { kind = 3; bytes = c ∷ d ∷ cs }

abbrev pub raw_of : List ℕ → Raw
raw_of text = raw_of_chars (chars text)

Spells-chars : (cs rest : List ℕ) (raws : List Raw) → length cs ≤ 63 → Spells rest raws → Spells (field_of_chars cs ++ rest) (raw_of_chars cs ∷ raws)
Spells-chars [] rest raws l s = field 0xC0 [] rest raws (omega arith) refl s
Spells-chars (c ∷ []) rest raws l s = field 0x81 ((c - 32) ∷ []) rest raws (omega arith) refl s
Spells-chars (c ∷ d ∷ cs) rest raws l s =
    let kind : (192 + suc (suc (length cs))) / 64 ≡ 3 = omega arith in
    let size : suc (suc (length cs)) ≡ (192 + suc (suc (length cs))) % 64 = omega arith in
    let mark : 192 + suc (suc (length cs)) ≢ 193 = omega arith in
    subst (λ (k : ℕ). Spells ((192 + suc (suc (length cs))) ∷ ((c ∷ d ∷ cs) ++ rest)) (record { kind = k; bytes = c ∷ d ∷ cs } ∷ raws)) kind
    (field (192 + suc (suc (length cs))) (c ∷ d ∷ cs) rest raws mark size s)

-- the first of texts that can be written, and the others
first_writable : (text : List ℕ) (texts : List (List ℕ)) → AreWritable (text ∷ texts) → IsWritable text × AreWritable texts
first_writable text texts h =
    let both : (rule : TextRule) → (breaks rule text ≡ false) × (list_any (breaks rule) texts ≡ false) = λ rule. both_false _ _ (h rule) in
    (λ rule. (both rule).0, λ rule. (both rule).1)

Spells-texts : (texts : List (List ℕ)) (rest : List ℕ) → AreWritable texts → Spells (flat_map field_of_text texts ++ 0xC1 ∷ rest) (map raw_of texts)
Spells-texts [] rest h = ended rest
Spells-texts (text ∷ texts) rest h =
    let w = first_writable text texts h in
    subst (λ (bytes : List ℕ). Spells bytes (raw_of text ∷ map raw_of texts))
    (sym (append_assoc (field_of_text text) (flat_map field_of_text texts) (0xC1 ∷ rest)))
    (Spells-chars (chars text) (flat_map field_of_text texts ++ 0xC1 ∷ rest) (map raw_of texts) (writable-short text w.0) (Spells-texts texts rest w.1))

latin_text-encodes : (cs : List ℕ) → latin_text cs ≡ encodes cs
latin_text-encodes [] = refl
latin_text-encodes (c ∷ cs) = ap (λ (t : List ℕ). encode_utf8 c ++ t) (latin_text-encodes cs)

six_bit-single : (c : ℕ) → 32 ≤ c → c ≤ 95 → six_bit_text ((c - 32) ∷ []) ≡ encodes (c ∷ [])
six_bit-single c low high =
    let back : 32 + (c - 32 + 256 * 0) % 64 ≡ c = omega arith in
    ap (λ (x : ℕ). x ∷ []) back ∙ sym (ap (λ (t : List ℕ). t ++ []) (encode_ascii c (omega arith)))

text_of-chars : (cs : List ℕ) → is_bad_single cs ≡ false → text_of true (raw_of_chars cs) ≡ encodes cs
unfolding text_of
text_of-chars [] h = refl
text_of-chars (c ∷ []) h =
    let range = both_false _ _ h in
    six_bit-single c (ltb-false c 32 range.0) (ltb-false 95 c range.1)
text_of-chars (c ∷ d ∷ cs) h = latin_text-encodes (c ∷ d ∷ cs)

text_of-raw : (text : List ℕ) → IsUtf8 text → IsWritable text → text_of true (raw_of text) ≡ text
text_of-raw text u w = text_of-chars (chars text) (w Single) ∙ encodes-chars text u

All-rest : (P : List ℕ → Type 0) (text : List ℕ) (texts : List (List ℕ)) → All P (text ∷ texts) → P text × All P texts
All-rest P text texts h = (h 0 text (omega arith), λ k d l. h (suc k) d (omega arith))

named-texts : (area : Area) (names : List FieldName) (number : ℕ) (texts : List (List ℕ)) → All IsUtf8 texts → AreWritable texts
    → named area true names number (map raw_of texts) ≡ text_fields area names number texts
named-texts area names number [] u w = refl
named-texts area (name ∷ names) number (text ∷ texts) u w =
    let us = All-rest IsUtf8 text texts u in
    let ws = first_writable text texts w in
    ap₂ (λ (t : List ℕ) (fields : List Field). record { name = name; text = t } ∷ fields) (text_of-raw text us.0 ws.0)
    (named-texts area names number texts us.1 ws.1)
named-texts area [] number (text ∷ texts) u w =
    let us = All-rest IsUtf8 text texts u in
    let ws = first_writable text texts w in
    ap₂ (λ (t : List ℕ) (fields : List Field). record { name = Custom area number; text = t } ∷ fields) (text_of-raw text us.0 ws.0)
    (named-texts area [] (number + 1) texts us.1 ws.1)

-- a part in the middle of a list, and its elements
range-middle : (before middle after : List ℕ) (s n : ℕ) → length before ≡ s → length middle ≡ n → slice_range (before ++ middle ++ after) s (s + n) ≡ middle
range-middle before middle after s n b m =
    let size : s + n - s ≡ n = omega arith in
    rw (append_assoc before middle after, drop_at before (middle ++ after) s b, size) (take_at middle after n m)

front-index : (middle after : List ℕ) (k : ℕ) → k < length middle → get_or (middle ++ after) k 0 ≡ get_or middle k 0
front-index [] after k l = absurd (omega arith)
front-index (x ∷ middle) after zero l = refl
front-index (x ∷ middle) after (suc k) l = front-index middle after k (omega arith)

index-middle : (before middle after : List ℕ) (s k : ℕ) → length before ≡ s → k < length middle
    → get_or (before ++ middle ++ after) (s + k) 0 ≡ get_or middle k 0
index-middle before middle after s k b l =
    rw (append_assoc before middle after, sym b) (get_or-append-add before (middle ++ after) k 0 ∙ front-index middle after k l)

closing_sum : (front : List ℕ) → checksum (front ++ closing_byte front ∷ []) ≡ 0
closing_sum front = omega (arith, sum_by-append (λ x. x) front (closing_byte front ∷ []))

pub length-area_bytes : (body : List ℕ) → length (area_bytes body) ≡ 8 * area_units body
length-area_bytes body =
    simp (length-append, length-replicate) (omega arith)

-- an area at an offset, whose fields are spelled as these
placed : (area : Area) (before body after : List ℕ) (offset : ℕ) (raws : List Raw) (fields : List Field) → length before ≡ 8 * offset
    → Spells (field_bytes (area_bytes body) (fields_start area)) raws
    → fields ≡ fixed_fields area (area_bytes body) ++ named area (is_english area (area_bytes body)) (names_of area) 1 raws
    → SpellsArea area (before ++ area_bytes body ++ after) (8 * offset) fields
placed area before body after offset raws fields at spelled is =
    let long = length-area_bytes body in
    let all = length-append (before ++ area_bytes body) after in
    let front = length-append before (area_bytes body) in
    let version : get_or (before ++ area_bytes body ++ after) (8 * offset) 0 ≡ 1 =
    subst (λ (k : ℕ). get_or (before ++ area_bytes body ++ after) k 0 ≡ 1) (add-zero (8 * offset))
    (index-middle before (area_bytes body) after (8 * offset) 0 at (omega arith)) in
    let units : get_or (before ++ area_bytes body ++ after) (8 * offset + 1) 0 ≡ area_units body =
    index-middle before (area_bytes body) after (8 * offset) 1 at (omega arith) in
    let range : slice_range (before ++ area_bytes body ++ after) (8 * offset) (area_end (before ++ area_bytes body ++ after) (8 * offset))
    ≡ area_bytes body = ap (λ (n : ℕ). slice_range (before ++ area_bytes body ++ after) (8 * offset) (8 * offset + 8 * n)) units
    ∙ range-middle before (area_bytes body) after (8 * offset) (8 * area_units body) at long in
    record {
      placed = record {
        head = omega arith;
        inside = omega arith;
        version = version;
        size = omega arith;
        sum = ap checksum range ∙ closing_sum (area_front body);
      };
      raws = raws;
      spelled = subst (λ (bytes : List ℕ). Spells (field_bytes bytes (fields_start area)) raws) (sym range) spelled;
      named_so = is ∙ ap (λ (bytes : List ℕ). fixed_fields area bytes ++ named area (is_english area bytes) (names_of area) 1 raws) (sym range);
    }

-- what stands between the fixed places of an area and its checksum
fields-middle : (fixed fields zeros : List ℕ) (units closing start : ℕ) → start ≡ 2 + length fixed
    → field_bytes ((1 ∷ units ∷ ((fixed ++ fields ++ 0xC1 ∷ []) ++ zeros)) ++ closing ∷ []) start ≡ fields ++ 0xC1 ∷ zeros
fields-middle fixed fields zeros units closing start e =
    let whole : (1 ∷ units ∷ ((fixed ++ fields ++ 0xC1 ∷ []) ++ zeros)) ++ closing ∷ [] ≡ (1 ∷ units ∷ fixed) ++ (fields ++ 0xC1 ∷ zeros) ++ closing
    ∷ [] = simp append_assoc in
    let size = length-append ((1 ∷ units ∷ fixed) ++ (fields ++ 0xC1 ∷ zeros)) (closing ∷ []) in
    let front = length-append (1 ∷ units ∷ fixed) (fields ++ 0xC1 ∷ zeros) in
    let middle : length ((1 ∷ units ∷ fixed) ++ (fields ++ 0xC1 ∷ zeros) ++ closing ∷ []) - 1 ≡ start + length (fields ++ 0xC1 ∷ zeros) = omega arith in
    ap (λ (bytes : List ℕ). field_bytes bytes start) whole
    ∙ ap (λ (n : ℕ). slice_range ((1 ∷ units ∷ fixed) ++ (fields ++ 0xC1 ∷ zeros) ++ closing ∷ []) start n) middle
    ∙ range-middle (1 ∷ units ∷ fixed) (fields ++ 0xC1 ∷ zeros) (closing ∷ []) start (length (fields ++ 0xC1 ∷ zeros)) (omega arith) refl

Spells-body : (fixed : List ℕ) (texts : List (List ℕ)) (start : ℕ) → start ≡ 2 + length fixed → AreWritable texts
    → Spells (field_bytes (area_bytes (area_body fixed texts)) start) (map raw_of texts)
Spells-body fixed texts start e w =
    let zeros = replicate (8 * area_units (area_body fixed texts) - length (area_body fixed texts) - 3) 0 in
    subst (λ (bytes : List ℕ). Spells bytes (map raw_of texts))
    (sym (fields-middle fixed (flat_map field_of_text texts) zeros (area_units (area_body fixed texts)) _ start e)) (Spells-texts texts zeros w)

chassis-part : (part : Option ChassisPart) (before after : List ℕ) → length before ≡ 8 → All IsUtf8 (chassis_texts part)
    → AreWritable (chassis_texts part) → SpellsPart Chassis (before ++ bytes_of (chassis_body part) ++ after) (offset_of 1 (chassis_body part))
    (chassis_fields part)
chassis-part None before after at u w = absent
chassis-part (Some part) before after at u w =
    let texts = part.named ++ part.custom in
    present 1 _ (omega arith)
    (placed Chassis before (area_body (part.chassis_type ∷ []) texts) after 1 (map raw_of texts) _ at (Spells-body (part.chassis_type ∷ []) texts 3 refl w)
    (ap (λ (fields : List Field). record { name = ChassisType; text = decimal part.chassis_type } ∷ fields)
    (sym (named-texts Chassis (names_of Chassis) 1 texts u w))))

minutes_back : (minutes : ℕ) → minutes < 16777216 → minutes % 256 + 256 * (minutes / 256 % 256) + 65536 * (minutes / 65536 % 256) ≡ minutes
minutes_back minutes h = omega arith

board-part : (part : Option BoardPart) (before after : List ℕ) (offset : ℕ) → offset ≢ 0 → length before ≡ 8 * offset → has_late_date part ≡ false
    → All IsUtf8 (board_texts part) → AreWritable (board_texts part)
    → SpellsPart Board (before ++ bytes_of (board_body part) ++ after) (offset_of offset (board_body part)) (board_fields part)
board-part None before after offset ne at early u w = absent
board-part (Some part) before after offset ne at early u w =
    let texts = part.named ++ part.custom in
    let fixed = 0 ∷ part.minutes % 256 ∷ part.minutes / 256 % 256 ∷ part.minutes / 65536 % 256 ∷ [] in
    let back = minutes_back part.minutes (leb-false 16777216 part.minutes early) in
    present offset _ ne
    (placed Board before (area_body fixed texts) after offset (map raw_of texts) _ at (Spells-body fixed texts 6 refl w)
    (ap₂ (λ (minutes : ℕ) (fields : List Field). (if nat_eq minutes 0 then [] else record { name = BoardManufactureDate; text = date_text minutes }
    ∷ []) ++ fields) (sym back) (sym (named-texts Board (names_of Board) 1 texts u w))))

product-part : (part : Option ProductPart) (before after : List ℕ) (offset : ℕ) → offset ≢ 0 → length before ≡ 8 * offset
    → All IsUtf8 (product_texts part) → AreWritable (product_texts part)
    → SpellsPart Product (before ++ bytes_of (product_body part) ++ after) (offset_of offset (product_body part)) (product_fields part)
product-part None before after offset ne at u w = absent
product-part (Some part) before after offset ne at u w =
    let texts = part.named ++ part.custom in
    present offset _ ne
    (placed Product before (area_body (0 ∷ []) texts) after offset (map raw_of texts) _ at (Spells-body (0 ∷ []) texts 3 refl w)
    (sym (named-texts Product (names_of Product) 1 texts u w)))

length-bytes_of : (body : Option (List ℕ)) → length (bytes_of body) ≡ 8 * units_of body
length-bytes_of None = refl
length-bytes_of (Some body) = length-area_bytes body

All-parts : (texts others : List (List ℕ)) → All IsUtf8 (texts ++ others) → All IsUtf8 texts × All IsUtf8 others
All-parts [] others h = (λ k d l. absurd (omega arith), h)
All-parts (text ∷ texts) others h =
    let first = All-rest IsUtf8 text (texts ++ others) h in
    let parts = All-parts texts others first.1 in
    (All-cons IsUtf8 text texts first.0 parts.0, parts.1)

-- the record of these areas, behind its header
spelled-built : (parts : Parts) → All IsUtf8 (texts_of parts) → AreWritable (texts_of parts) → has_late_date parts.board ≡ false
    → 8 * (1 + units_of (chassis_body parts.chassis) + units_of (board_body parts.board) + units_of (product_body parts.product)) ≤ 4096
    → SpellsRecord (record_bytes parts) (fields_of_parts parts)
unfolding record_bytes
spelled-built parts u w early most =
    let chassis = chassis_body parts.chassis in
    let board = board_body parts.board in
    let product = product_body parts.product in
    let front = header_front chassis board product in
    let head = front ++ closing_byte front ∷ [] in
    let utf8 = All-parts (chassis_texts parts.chassis ++ board_texts parts.board) (product_texts parts.product) u in
    let utf8_two = All-parts (chassis_texts parts.chassis) (board_texts parts.board) utf8.0 in
    let write = AreWritable-append (chassis_texts parts.chassis ++ board_texts parts.board) (product_texts parts.product) w in
    let write_two = AreWritable-append (chassis_texts parts.chassis) (board_texts parts.board) write.0 in
    let behind_chassis : length (head ++ bytes_of chassis) ≡ 8 * (1 + units_of chassis) =
    omega (arith, length-append head (bytes_of chassis), length-bytes_of chassis) in
    let behind_board : length (head ++ bytes_of chassis ++ bytes_of board) ≡ 8 * (1 + units_of chassis + units_of board) =
    omega (arith, length-append (head ++ bytes_of chassis) (bytes_of board), length-bytes_of board) in
    let whole : length (head ++ bytes_of chassis ++ bytes_of board ++ bytes_of product) ≡ 8 *
    (1 + units_of chassis + units_of board + units_of product) =
    omega (arith, length-append (head ++ bytes_of chassis ++ bytes_of board) (bytes_of product), length-bytes_of product) in
    record {
      header = record { least = omega (arith, whole); limit = omega (arith, whole); version = refl; sum = closing_sum front };
      chassis = chassis_fields parts.chassis;
      board = board_fields parts.board;
      product = product_fields parts.product;
      chassis_part =
          subst (λ (bytes : List ℕ). SpellsPart Chassis bytes (offset_of 1 chassis) (chassis_fields parts.chassis))
          (sym (append_assoc (head ++ bytes_of chassis) (bytes_of board) (bytes_of product)))
          (chassis-part parts.chassis head (bytes_of board ++ bytes_of product) refl utf8_two.0 write_two.0);
      board_part =
          board-part parts.board (head ++ bytes_of chassis) (bytes_of product) (1 + units_of chassis)
          (omega arith) behind_chassis early utf8_two.1 write_two.1;
      product_part =
          subst (λ (bytes : List ℕ). SpellsPart Product bytes (offset_of (1 + units_of chassis + units_of board) product)
          (product_fields parts.product)) (append-nil (head ++ bytes_of chassis ++ bytes_of board ++ bytes_of product))
          (product-part parts.product (head ++ bytes_of chassis ++ bytes_of board) [] (1 + units_of chassis + units_of board)
          (omega arith) behind_board utf8.1 write.1);
      joined = refl;
    }

pub built-read : (parts : Parts) → All IsUtf8 (texts_of parts) → build_fault parts ≡ None → record_of (record_bytes parts) ≡ Ok (fields_of_parts parts)
built-read parts u allowed =
    spelled-record (record_bytes parts) (fields_of_parts parts)
    (spelled-built parts u (allowed-writable parts allowed) (allowed-early parts allowed) (allowed-short parts allowed))
