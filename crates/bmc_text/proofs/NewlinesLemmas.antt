-- Newlines in bytes.
use Rattle.std.proofs.Common.{◌≡◌, ◌≢◌, ℕ, zero, suc, ◌+◌, ◌≤◌, ◌<◌, List, [], ◌∷◌, ◌++◌, length, take, drop, slice_index, cond, not, ltb, Bool, arith, ap}
use Rattle.std.proofs.Common.{sym, ◌∙◌, refl, subst, length-append, length-take, length-drop, inl, inr, ◌-◌}
use Rattle.std.specs.Prelude.{Some, None, ◌==◌, position, ◌⊎◌}
use Rattle.std.specs.List.{position_or_len}
use Rattle.std.proofs.lemmas.Bool.{ne_eqb, lt-ltb, le-ltb, cases_eq, cases_lt, eq-eqb, eqb-true}
use Rattle.std.proofs.lemmas.List.{get_or-take, get_or-drop, take-append-drop, take-append-le}
use Rattle.std.proofs.Math.Seq.{drop-cons}
use Rattle.memchr.specs.Find.{Nowhere, NoneBefore, Passes}
use Rattle.bmc_text.specs.Newlines.{HasNoNewline, IsNewline}
use Rattle.bmc_text.specs.Items.{is_newline}

pub HasNoNewline-nil : HasNoNewline []
HasNoNewline-nil k within = absurd (omega arith)

pub HasNoNewline-cons : (byte : ℕ) (bytes : List ℕ) → byte ≢ 10 → HasNoNewline bytes → HasNoNewline (byte ∷ bytes)
HasNoNewline-cons byte bytes other none = at_each
  where
    at_each : (k : ℕ) → k < length (byte ∷ bytes) → slice_index (byte ∷ bytes) k ≢ 10
    at_each zero within = other
    at_each (suc k) within = none k (omega arith)

pub HasNoNewline-tail : (byte : ℕ) (bytes : List ℕ) → HasNoNewline (byte ∷ bytes) → HasNoNewline bytes
HasNoNewline-tail byte bytes none k within = none (suc k) (omega arith)

pub HasNoNewline-append : (front bytes : List ℕ) → HasNoNewline front → HasNoNewline bytes → HasNoNewline (front ++ bytes)
HasNoNewline-append [] bytes front_none none = none
HasNoNewline-append (byte ∷ front) bytes front_none none =
    HasNoNewline-cons byte (front ++ bytes) (front_none 0 (omega arith)) (HasNoNewline-append front bytes (HasNoNewline-tail byte front front_none) none)

pub HasNoNewline-take : (bytes : List ℕ) (at : ℕ) → IsNewline bytes at → HasNoNewline (take at bytes)
HasNoNewline-take bytes at newline k within =
    let below : k < at = omega (arith, length-take at bytes) in
    λ e. newline.first k below (sym (get_or-take at bytes k 0 below) ∙ e)

-- bytes behind a front change nothing in it
pub HasNoNewline-front : (n : ℕ) (bytes more all : List ℕ) → bytes ++ more ≡ all → n ≤ length bytes → HasNoNewline (take n bytes) → HasNoNewline (take n all)
HasNoNewline-front n bytes more all parts within none =
    subst HasNoNewline (sym (take-append-le n bytes more within) ∙ ap (take n) parts) none

-- bytes with a newline at that place
pub newline_parts : (bytes : List ℕ) (at : ℕ) → IsNewline bytes at → bytes ≡ take at bytes ++ 10 ∷ drop (at + 1) bytes
newline_parts bytes at newline =
    let next : at + 1 ≡ suc at = omega arith in
    sym (take-append-drop at bytes)
    ∙ ap (λ (rest : List ℕ). take at bytes ++ rest) (drop-cons bytes at 0 newline.within ∙ ap (λ (b : ℕ). b ∷ drop (suc at) bytes) newline.found)
    ∙ ap (λ (n : ℕ). take at bytes ++ 10 ∷ drop n bytes) (sym next)

step : (byte n len : ℕ) → byte ≢ 10 → n ≡ len → cond (not (byte == 10)) (1 + n) 0 ≡ suc len
step byte n len other same = ap (λ (test : Bool). cond (not test) (1 + n) 0) (ne_eqb byte 10 other) ∙ omega arith

pub len_none : (raw : List ℕ) → HasNoNewline raw → position_or_len is_newline raw ≡ length raw
len_none [] none = refl
len_none (byte ∷ raw) none = step byte (position_or_len is_newline raw) (length raw) (none 0 (omega arith)) (len_none raw (HasNoNewline-tail byte raw none))

pub len_line : (raw rest : List ℕ) → HasNoNewline raw → position_or_len is_newline (raw ++ 10 ∷ rest) ≡ length raw
len_line [] rest none = refl
len_line (byte ∷ raw) rest none =
    step byte (position_or_len is_newline (raw ++ 10 ∷ rest)) (length raw) (none 0 (omega arith)) (len_line raw rest (HasNoNewline-tail byte raw none))

placed : (at n len : ℕ) → at ≡ n → n < len → cond (ltb at len) (Some at) None ≡ Some n
placed at n len same within = ap (λ (m : ℕ). cond (ltb m len) (Some m) None) same ∙ ap (λ (test : Bool). cond test (Some n) None) (lt-ltb n len within)

nowhere : (at n : ℕ) → at ≡ n → cond (ltb at n) (Some at) None ≡ None
nowhere at n same = ap (λ (test : Bool). cond test (Some at) None) (le-ltb at n (omega arith))

pub position-none : (raw : List ℕ) → HasNoNewline raw → position is_newline raw ≡ None
position-none raw none = nowhere (position_or_len is_newline raw) (length raw) (len_none raw none)

pub position-line : (raw rest : List ℕ) → HasNoNewline raw → position is_newline (raw ++ 10 ∷ rest) ≡ Some (length raw)
position-line raw rest none =
    placed (position_or_len is_newline (raw ++ 10 ∷ rest)) (length raw) (length (raw ++ 10 ∷ rest)) (len_line raw rest none)
    (omega (arith, length-append raw (10 ∷ rest)))

-- how bytes begin: with a line, or they have no newline
pub data Front (bytes : List ℕ) : Type 0 where
  NoLine : HasNoNewline bytes → Front bytes
  LineThen : (raw rest : List ℕ) → HasNoNewline raw → bytes ≡ raw ++ 10 ∷ rest → Front bytes

front_cons : (byte : ℕ) (bytes : List ℕ) → (byte ≡ 10) ⊎ (byte ≢ 10) → Front bytes → Front (byte ∷ bytes)
front_cons byte bytes (inl is) front = LineThen [] bytes HasNoNewline-nil (ap (λ (x : ℕ). x ∷ bytes) is)
front_cons byte bytes (inr other) (NoLine none) = NoLine (HasNoNewline-cons byte bytes other none)
front_cons byte bytes (inr other) (LineThen raw rest none is) =
    LineThen (byte ∷ raw) rest (HasNoNewline-cons byte raw other none) (ap (λ (xs : List ℕ). byte ∷ xs) is)

pub front_of : (bytes : List ℕ) → Front bytes
front_of [] = NoLine HasNoNewline-nil
front_of (byte ∷ bytes) = front_cons byte bytes (cases_eq byte 10) (front_of bytes)

-- the search behind a front without a newline
before : (bytes : List ℕ) (from k : ℕ) → from ≤ length bytes → HasNoNewline (take from bytes) → k < from → slice_index bytes k ≢ 10
before bytes from k within none below = λ is. none k (omega (arith, length-take from bytes)) (get_or-take from bytes k 0 below ∙ is)

index_behind : (bytes behind : List ℕ) (from k : ℕ) → behind ≡ drop from bytes → from ≤ k → slice_index behind (k - from) ≡ slice_index bytes k
index_behind bytes behind from k are above =
    let place : from + (k - from) ≡ k = omega arith in
    ap (λ (xs : List ℕ). slice_index xs (k - from)) are ∙ get_or-drop from bytes (k - from) 0 ∙ ap (slice_index bytes) place

not_yet : (bytes behind : List ℕ) (from end k : ℕ) → behind ≡ drop from bytes → from ≤ length bytes → HasNoNewline (take from bytes)
    → Nowhere (Passes is_newline behind) 0 end → k < from + end → slice_index bytes k ≢ 10
not_yet bytes behind from end k are within none nowhere below_end =
    elim (cases_lt k from) [
      | inl below ↦ before bytes from k within none below
      | inr above ↦ λ is. nowhere (k - from) (omega arith) (omega arith)
          (eq-eqb (slice_index behind (k - from)) 10 (index_behind bytes behind from k are above ∙ is))
    ]

pub no_newline-behind : (bytes behind : List ℕ) (from : ℕ) → behind ≡ drop from bytes → from ≤ length bytes → HasNoNewline (take from bytes)
    → Nowhere (Passes is_newline behind) 0 (length behind) → HasNoNewline bytes
no_newline-behind bytes behind from are within none nowhere k below_end =
    not_yet bytes behind from (length behind) k are within none nowhere (omega (arith, length-drop from bytes, ap length are))

pub newline-behind : (bytes behind : List ℕ) (from at : ℕ) → behind ≡ drop from bytes → from ≤ length bytes → HasNoNewline (take from bytes)
    → NoneBefore (Passes is_newline behind) 0 (length behind) at × Passes is_newline behind at → IsNewline bytes (from + at)
newline-behind bytes behind from at are within none found =
    let same : slice_index behind (from + at - from) ≡ slice_index bytes (from + at) = index_behind bytes behind from (from + at) are (omega arith) in
    let place : at ≡ from + at - from = omega arith in
    record {
      within = omega (arith, found.0.high, length-drop from bytes, ap length are);
      found = sym same ∙ ap (slice_index behind) (sym place) ∙ eqb-true (slice_index behind at) 10 found.1;
      first = λ k below_end. not_yet bytes behind from at k are within none found.0.before below_end;
    }
