-- The templates of numbers, and the limits of a sensor, one after another.
use Rattle.std.proofs.Common.{◌≡◌, ◌∙◌, ◌<◌, ◌≤◌, ◌+◌, ◌^◌, ℕ, suc, zero, Bool, true, false, List, [], ◌∷◌, ◌++◌, length, take, map, Result, Ok}
use Rattle.std.proofs.Common.{Err, refl, sym, ap, ap₂, append_assoc, arith}
use Rattle.std.proofs.Math.ListN.{set, replicate}
use Rattle.std.proofs.lemmas.List.{take-replicate, take_more_set, length-append, length-map, length-take-le}
use Rattle.std.specs.List.{list_all}
use Rattle.std.specs.Fmt.{decimal}
use Rattle.std.specs.Str.Parse.{AllDigits}
use Rattle.std.specs.Prelude.{nat_le, if◌then◌else◌, ◌&&◌}
use Rattle.std.proofs.lemmas.Bool.{le-leb, leb-true}
use Rattle.std.proofs.lemmas.Fmt.{decimal_is_IsNumeral, decimal_nonempty, length-decimal-le}
use Rattle.std.proofs.lemmas.Str.Parse.{digit_at}
use Rattle.std.proofs.lemmas.Bool.{ne_eqb}
use Rattle.serde_json.specs.Data.{Data}
use Rattle.serde_json.specs.View.{view}
use Rattle.serde_json.specs.declared.value.Value.{Value}
use Rattle.sensor_core.specs.declared.limit.Limit.{Limit}
use Rattle.tmpl.specs.declared.template.TmplFault.{TmplFault}
use Rattle.tmpl.specs.Templates.{Piece, Plain, is_template, template_of, is_right, pieces_of, longest_template}
use Rattle.tmpl.proofs.PiecesLemmas.{no_pieces, plain_first, plain_right}
use Rattle.cfg_json.specs.declared.config_fault.ConfigFault.{ConfigFault}
use Rattle.cfg_json.specs.declared.config_fault.ConfigFault.TheVariants.{OutOfRange}
use Rattle.cfg_json.specs.Values.{◌>>=◌, list_only, list_within, with_length}
use Rattle.cfg_json.specs.Sensors.{eight_limits, unused_limit}

-- digits are plain text
digits_plain : (text : List ℕ) → AllDigits 10 text → pieces_of text ≡ map Plain text
digits_plain [] all = no_pieces
digits_plain (byte ∷ text) all =
    let range = digit_at (byte ∷ text) 0 all (omega arith) in
    plain_first byte text (rw (ne_eqb byte 36 (λ e. absurd (omega (arith, range, e)))) refl)
    ∙ ap (λ (pieces : List Piece). Plain byte ∷ pieces) (digits_plain text all.1)

-- the decimal digits of a number are a template
pub decimal_template : (n : ℕ) → n ≤ 255 → is_template (decimal n) ≡ true
unfolding is_template
decimal_template n small =
    let fits : n < 2 ^ 64 = omega arith in
    let some : nat_le 1 (length (decimal n)) ≡ true = le-leb 1 (length (decimal n)) (decimal_nonempty n fits) in
    let short : length (decimal n) ≤ 3 = length-decimal-le 3 n (omega arith) (omega arith) fits in
    let few : nat_le (length (decimal n)) longest_template ≡ true = le-leb (length (decimal n)) longest_template (omega arith) in
    let right : list_all is_right (pieces_of (decimal n)) ≡ true =
    ap (list_all is_right) (digits_plain (decimal n) (decimal_is_IsNumeral n fits).0.1) ∙ plain_right (decimal n) in
    rw (some, few, right) refl

-- they are read as one
pub digits_read : (n : ℕ) (text : List ℕ) (fault : TmplFault) → n ≤ 255 → text ≡ decimal n → Err fault ≡ template_of text → ⊥
digits_read n text fault small is e =
    let read : template_of text ≡ Ok text = rw (is, decimal_template n small) refl in
    let wrong : Err fault ≡ Ok text = e ∙ read in
    cc

-- limits in eight slots, and how many they are
abbrev pub slots_in : Result (List Limit) ConfigFault → Result (List Limit × ℕ) ConfigFault
slots_in read = read >>= λ limits. Ok (eight_limits limits, length limits)

-- those in so many slots at the front, and those that reading the rest gives
abbrev pub with_rest : ℕ → List Limit → Result (List Limit) ConfigFault → Result (List Limit × ℕ) ConfigFault
with_rest count slots rest = rest >>= λ later. Ok (eight_limits (take count slots ++ later), count + length later)

-- one element more at the seam of a list and what stands for those that are missing
pub seam : {A : Type 0} (count spare : ℕ) (front : List A) (element none : A) → length front < count → count ≤ spare
    → take count ((front ++ element ∷ []) ++ replicate spare none) ≡ set (take count (front ++ replicate spare none)) (length front) element
seam zero spare front element none less few = absurd (omega arith)
seam (suc count) zero [] element none less few = absurd (omega arith)
seam (suc count) (suc spare) [] element none less few =
    ap (λ rest. element ∷ rest) (take-replicate count (suc spare) none (omega arith) ∙ sym (take-replicate count spare none (omega arith)))
seam (suc count) spare (first ∷ front) element none less few =
    ap (λ rest. first ∷ rest) (seam count spare front element none (omega arith) (omega arith))

module _ (slots : List Limit) (i : ℕ) (limit : Limit) (room : length slots ≡ 8) (within : i < 8) where
  -- a limit more is read
  pub limit_more : (read : Result (List Limit) ConfigFault)
      → with_rest (i + 1) (set slots i limit) read ≡ with_rest i slots (read >>= λ later. Ok (limit ∷ later))
  limit_more (Ok later) =
      let front : take (i + 1) (set slots i limit) ≡ take i slots ++ limit ∷ [] = take_more_set slots i limit (omega arith) in
      let count : (i + 1) + length later ≡ i + suc (length later) = omega arith in
      ap₂ (λ (limits : List Limit) (n : ℕ). Ok (eight_limits limits, n))
      (ap (λ (limits : List Limit). limits ++ later) front ∙ append_assoc (take i slots) (limit ∷ []) later) count
  limit_more (Err fault) = refl

  -- and stands in its slot
  pub slot_more : slots ≡ eight_limits (take i slots) → set slots i limit ≡ eight_limits (take (i + 1) (set slots i limit))
  slot_more unused =
      let size : length (take i slots) ≡ i = length-take-le i slots (omega arith) in
      let front : take (i + 1) (set slots i limit) ≡ take i slots ++ limit ∷ [] = take_more_set slots i limit (omega arith) in
      sym (ap eight_limits front ∙ seam 8 8 (take i slots) limit unused_limit (omega arith) (omega arith)
      ∙ ap₂ (λ (limits : List Limit) (n : ℕ). set limits n limit) (sym unused) size)

-- there are eight slots
pub slots_eight : (slots front : List Limit) → slots ≡ eight_limits front → length slots ≡ 8
slots_eight slots front is =
    let size : length (front ++ replicate 8 unused_limit) ≡ length front + 8 = length-append front (replicate 8 unused_limit) in
    ap length is ∙ length-take-le 8 (front ++ replicate 8 unused_limit) (omega (arith, size))

-- of the elements of a list there are so many at the most
pub few_listed : (least most : ℕ) (value : Data) (out : List Data) → Ok out ≡ list_within least most value → length out ≤ most
few_listed least most value out e = listed (list_only value) e
  where
    by : (items : List Data) (some few : Bool) → nat_le (length items) most ≡ few → Ok out ≡ (if some && few then Ok items else Err OutOfRange)
        → length out ≤ most
    by items true true test is = let same : out ≡ items = cc in rw same (leb-true (length items) most test)
    by items true false test is = absurd (cc)
    by items false few test is = absurd (cc)

    listed : (listed : Result (List Data) ConfigFault) → Ok out ≡ (listed >>= with_length least most) → length out ≤ most
    listed (Ok items) is = by items (nat_le least (length items)) (nat_le (length items) most) refl is
    listed (Err fault) is = absurd (cc)

pub few_elements : (least most : ℕ) (value : Data) (elements : List Value) → Ok (map view elements) ≡ list_within least most value → length elements ≤ most
few_elements least most value elements e =
    let few : length (map view elements) ≤ most = few_listed least most value (map view elements) e in
    omega (arith, few, length-map elements view)
