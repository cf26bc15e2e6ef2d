-- Texts of a record that is built.
use Rattle.std.proofs.Common.{◌≡◌, ◌≢◌, ℕ, suc, ◌+◌, ◌-◌, ◌<◌, ◌≤◌, Bool, true, false, nat_lt, nat_eq, List, [], ◌∷◌, ◌++◌, length, map, chars}
use Rattle.std.proofs.Common.{get_or, zero, refl, ap, ap₂, sym, ◌∙◌, append_assoc, arith}
use Rattle.std.proofs.lemmas.Bool.{ne_eqb, ltb-false}
use Rattle.std.specs.Prelude.{◌||◌, ◌&&◌}
use Rattle.std.specs.List.{list_any}
use Rattle.std.proofs.lemmas.List.Folds.{list_any_at, list_any-append}
use Rattle.fru_record.specs.Building.{is_bad_single, field_of_chars, field_of_text}
use Rattle.fru_record.specs.TextRules.{breaks, IsWritable, AreWritable, field_head, first_char}
use Rattle.fru_record.specs.declared.text_rule.TextRule.{TextRule}
use Rattle.fru_record.specs.declared.text_rule.TextRule.TheVariants.{Latin, Length, Single}

or-false : (b : Bool) → (b || false) ≡ b
or-false true = refl
or-false false = refl

more_than_one : (n : ℕ) (b : Bool) → (nat_eq (suc (suc n)) 1 && b) ≡ false
more_than_one n b = let ne : suc (suc n) ≢ 1 = omega arith in rw (ne_eqb (suc (suc n)) 1 ne) refl

-- a single character that 6-bit ASCII does not have, by the count and a test of each
pub bad_single : (cs : List ℕ) → (nat_eq (length cs) 1 && list_any (λ c. nat_lt c 32 || nat_lt 95 c) cs) ≡ is_bad_single cs
bad_single [] = refl
bad_single (c ∷ []) = or-false (nat_lt c 32 || nat_lt 95 c)
bad_single (c ∷ d ∷ cs) = more_than_one (length cs) _

pub both_false : (a b : Bool) → (a || b) ≡ false → (a ≡ false) × (b ≡ false)
both_false true b h = absurd (cc)
both_false false b h = (refl, h)

-- rules that no text breaks
pub AreWritable-append : (texts others : List (List ℕ)) → AreWritable (texts ++ others) → AreWritable texts × AreWritable others
AreWritable-append texts others h =
    let parts : (rule : TextRule) → (list_any (breaks rule) texts ≡ false) × (list_any (breaks rule) others ≡ false) =
    λ rule. both_false _ _ (sym (list_any-append (breaks rule) texts others) ∙ h rule) in
    (λ rule. (parts rule).0, λ rule. (parts rule).1)

passes_none : {X : Type 0} (p : X → Bool) (xs : List X) (i : ℕ) (d : X) (at : Bool) → p (get_or xs i d) ≡ at → i < length xs → list_any p xs ≡ false
    → p (get_or xs i d) ≡ false
passes_none p xs i d true e l h = absurd (let yes = list_any_at p xs i d l e in cc)
passes_none p xs i d false e l h = e

pub IsWritable-at : (texts : List (List ℕ)) (i : ℕ) (d : List ℕ) → i < length texts → AreWritable texts → IsWritable (get_or texts i d)
IsWritable-at texts i d l h = λ rule. passes_none (breaks rule) texts i d _ refl l (h rule)

pub writable-short : (text : List ℕ) → IsWritable text → length (chars text) ≤ 63
writable-short text h = ltb-false 63 (length (chars text)) (h Length)

latin_at : (cs : List ℕ) (k : ℕ) → list_any (λ c. nat_lt 255 c) cs ≡ false → k < length cs → get_or cs k 0 ≤ 255
latin_at cs k h l = ltb-false 255 (get_or cs k 0) (passes_none (λ c. nat_lt 255 c) cs k 0 _ refl l h)

first_char-many : (n : ℕ) → first_char (suc (suc n)) ≡ 0
first_char-many n = let ne : suc (suc n) ≢ 1 = omega arith in rw (ne_eqb (suc (suc n)) 1 ne) refl

field_head-many : (n : ℕ) → field_head (suc (suc n)) ≡ 192 + suc (suc n)
field_head-many n = let ne : suc (suc n) ≢ 1 = omega arith in rw (ne_eqb (suc (suc n)) 1 ne) refl

single_from : (cs : List ℕ) (k : ℕ) → is_bad_single cs ≡ false → k < length cs → first_char (length cs) ≤ get_or cs k 0
single_from [] k h l = absurd (omega arith)
single_from (c ∷ []) zero h l = ltb-false c 32 (both_false _ _ h).0
single_from (c ∷ []) (suc k) h l = absurd (omega arith)
single_from (c ∷ d ∷ cs) k h l = omega (arith, first_char-many (length cs))

-- what a field writes of each character fits a byte
pub writable-range : (text : List ℕ) → IsWritable text → (k : ℕ) → k < length (chars text)
    → (first_char (length (chars text)) ≤ get_or (chars text) k 0) × (get_or (chars text) k 0 ≤ first_char (length (chars text)) + 255)
writable-range text h k l = (single_from (chars text) k (h Single) l, omega (arith, latin_at (chars text) k (h Latin) l))

map-sub_zero : (cs : List ℕ) → map (λ c. c - 0) cs ≡ cs
map-sub_zero [] = refl
map-sub_zero (c ∷ cs) = let same : c - 0 ≡ c = omega arith in ap₂ (λ (x : ℕ) (xs : List ℕ). x ∷ xs) same (map-sub_zero cs)

-- a field is its head and its characters, from the first one on
pub field_of_chars-parts : (cs : List ℕ) → field_head (length cs) ∷ map (λ c. c - first_char (length cs)) cs ≡ field_of_chars cs
field_of_chars-parts [] = refl
field_of_chars-parts (c ∷ []) = refl
field_of_chars-parts (c ∷ d ∷ cs) =
    ap₂ (λ (head first : ℕ). head ∷ map (λ x. x - first) (c ∷ d ∷ cs)) (field_head-many (length cs)) (first_char-many (length cs))
    ∙ ap (λ (xs : List ℕ). (192 + suc (suc (length cs))) ∷ xs) (map-sub_zero (c ∷ d ∷ cs))

-- a field that was written in two steps
pub field-written : (old mid new text : List ℕ) (count head first : ℕ) → count ≡ length (chars text) → head ≡ field_head count
    → first ≡ first_char count → mid ≡ old ++ head ∷ [] → new ≡ mid ++ map (λ c. c - first) (chars text) → new ≡ old ++ field_of_text text
field-written old mid new text count head first n h f m e =
    rw (e, m, h, f, n) (append_assoc old (field_head (length (chars text)) ∷ []) _ ∙ ap (λ (field : List ℕ). old ++ field) (field_of_chars-parts (chars text)))
