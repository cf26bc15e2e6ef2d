-- Each class keeps its latest entries.
use Rattle.std.proofs.Common.{◌≡◌, inl, inr, ℕ, ◌+◌, ◌-◌, ◌≤◌, nat_lt, Bool, true, false, cond, List, [], ◌∷◌, ◌++◌, length, drop}
use Rattle.std.proofs.Common.{filter, count_by, map, refl, ap, ap₂, sym, ◌∙◌, arith, add-one}
use Rattle.std.proofs.lemmas.Bool.{cases_lt, cond_below, cond_above}
use Rattle.std.proofs.lemmas.List.{drop-append-le, length-drop, drop-drop, length_push, append-nil, map_push}
use Rattle.std.proofs.lemmas.List.Elements.{filter-append}
use Rattle.std.proofs.lemmas.List.FromFn.{map-range_with_len_more}
use Rattle.std.proofs.lemmas.List.Sums.{length-filter}
use Rattle.std.specs.List.{range_with_len}
use Rattle.bmc_base.specs.Counts.{raised}
use Rattle.circular_buffer.specs.Buffer.{keep_last}
use Rattle.event_log.specs.declared.entry.Class.{Class}
use Rattle.event_log.specs.declared.entry.Class.TheVariants.{Error, Info}
use Rattle.event_log.specs.declared.entry.LogEntry.{LogEntry}
use Rattle.event_log.specs.Kept.{class_eq, is_of, of_class, cap_of, info_cap, kept}
use Rattle.event_log.specs.Stands.{LogView, Stands, nth_id}
use Rattle.event_log.specs.Updates.{class_with, with_entry}

one_more : {X : Type 0} (k : ℕ) (x : X) (xs : List X) → drop (k + 1) (x ∷ xs) ≡ drop k xs
one_more k x xs = rw add-one refl

-- the last ones, of a list with one more before it
last_cons : {X : Type 0} (n : ℕ) (x : X) (xs : List X) → keep_last n (x ∷ xs) ≡ cond (nat_lt (length xs) n) (x ∷ keep_last n xs) (keep_last n xs)
last_cons n x xs = elim (cases_lt (length xs) n) [
  | inl h ↦
      let none : length (x ∷ xs) - n ≡ 0 = omega arith in
      let all : length xs - n ≡ 0 = omega arith in
      ap (λ k. drop k (x ∷ xs)) none ∙ (ap (λ k. x ∷ drop k xs) (sym all) ∙ cond_below (length xs) n (x ∷ keep_last n xs) (keep_last n xs) h)
  | inr h ↦
      let more : length (x ∷ xs) - n ≡ (length xs - n) + 1 = omega arith in
      cond_above (length xs) n (x ∷ keep_last n xs) (keep_last n xs) _ h (ap (λ k. drop k (x ∷ xs)) more ∙ one_more (length xs - n) x xs)
]

filter_cond : (p : LogEntry → Bool) (b : Bool) (xs ys : List LogEntry) → filter p (cond b xs ys) ≡ cond b (filter p xs) (filter p ys)
filter_cond p true xs ys = refl
filter_cond p false xs ys = refl

cond_same : {X : Type 0} (b : Bool) (x : X) → cond b x x ≡ x
cond_same true x = refl
cond_same false x = refl

-- an entry of the class, and one of the other
own : (n : ℕ) (p : LogEntry → Bool) (entry : LogEntry) (k later : List LogEntry) → p entry ≡ true → filter p k ≡ keep_last n (filter p later)
    → filter p (cond (nat_lt (count_by p later) n) (entry ∷ k) k) ≡ keep_last n (entry ∷ filter p later)
own n p entry k later is latest =
    filter_cond p (nat_lt (count_by p later) n) (entry ∷ k) k
    ∙ (ap (λ (b : Bool). cond (nat_lt (count_by p later) n) (cond b (entry ∷ filter p k) (filter p k)) (filter p k)) is
    ∙ (ap (λ (xs : List LogEntry). cond (nat_lt (count_by p later) n) (entry ∷ xs) xs) latest
    ∙ (ap (λ (m : ℕ). cond (nat_lt m n) (entry ∷ keep_last n (filter p later)) (keep_last n (filter p later))) (sym (length-filter p later))
    ∙ sym (last_cons n entry (filter p later)))))

other : (n : ℕ) (p : LogEntry → Bool) (entry : LogEntry) (k later : List LogEntry) (b : Bool) → p entry ≡ false → filter p k ≡ keep_last n (filter p later)
    → filter p (cond b (entry ∷ k) k) ≡ keep_last n (filter p later)
other n p entry k later b is latest =
    filter_cond p b (entry ∷ k) k ∙ (ap (λ (c : Bool). cond b (cond c (entry ∷ filter p k) (filter p k)) (filter p k)) is ∙ (cond_same b (filter p k) ∙ latest))

latest_step : (cap : ℕ) (class : Class) (entry : LogEntry) (of : Class) (later : List LogEntry) → entry.class ≡ of
    → of_class class (kept cap later) ≡ keep_last (cap_of cap class) (of_class class later)
    → of_class class (cond (nat_lt (count_by (is_of of) later) (cap_of cap of)) (entry ∷ kept cap later) (kept cap later))
    ≡ keep_last (cap_of cap class) (of_class class (entry ∷ later))
latest_step cap Error entry Error later same latest =
    own cap (is_of Error) entry (kept cap later) later (ap (class_eq Error) same) latest
    ∙ ap (λ (b : Bool). keep_last cap (cond b (entry ∷ of_class Error later) (of_class Error later))) (sym (ap (class_eq Error) same))
latest_step cap Error entry Info later same latest =
    other cap (is_of Error) entry (kept cap later) later _ (ap (class_eq Error) same) latest
    ∙ ap (λ (b : Bool). keep_last cap (cond b (entry ∷ of_class Error later) (of_class Error later))) (sym (ap (class_eq Error) same))
latest_step cap Info entry Error later same latest =
    other info_cap (is_of Info) entry (kept cap later) later _ (ap (class_eq Info) same) latest
    ∙ ap (λ (b : Bool). keep_last info_cap (cond b (entry ∷ of_class Info later) (of_class Info later))) (sym (ap (class_eq Info) same))
latest_step cap Info entry Info later same latest =
    own info_cap (is_of Info) entry (kept cap later) later (ap (class_eq Info) same) latest
    ∙ ap (λ (b : Bool). keep_last info_cap (cond b (entry ∷ of_class Info later) (of_class Info later))) (sym (ap (class_eq Info) same))

none_kept : (n : ℕ) → [] ≡ (let none : List LogEntry = keep_last n [] in none)
none_kept n = let none : 0 - n ≡ 0 = omega arith in sym (ap (λ k. drop {A = LogEntry} k []) none)

pub latest_kept : (cap : ℕ) (class : Class) (all : List LogEntry) → of_class class (kept cap all) ≡ keep_last (cap_of cap class) (of_class class all)
latest_kept cap class [] = none_kept (cap_of cap class)
latest_kept cap class (entry ∷ later) = latest_step cap class entry entry.class later refl (latest_kept cap class later)

-- the last ones of the last ones and one more
last_push : {X : Type 0} (n : ℕ) (xs : List X) (x : X) → 1 ≤ n → keep_last n (keep_last n xs ++ x ∷ []) ≡ keep_last n (xs ++ x ∷ [])
last_push n xs x h = elim (cases_lt n (length xs)) [
  | inl l ↦
      let k : length (keep_last n xs) ≡ n = omega (arith, length-drop (length xs - n) xs) in
      let a : length (keep_last n xs ++ x ∷ []) - n ≡ 1 = omega (arith, length_push (keep_last n xs) x) in
      let b : length (xs ++ x ∷ []) - n ≡ (length xs - n) + 1 = omega (arith, length_push xs x) in
      ap (λ j. drop j (keep_last n xs ++ x ∷ [])) a
      ∙ (drop-append-le 1 (keep_last n xs) (x ∷ []) (omega arith)
      ∙ (ap (λ (ys : List _). ys ++ x ∷ []) (drop-drop 1 (length xs - n) xs)
      ∙ (sym (drop-append-le ((length xs - n) + 1) xs (x ∷ []) (omega arith)) ∙ ap (λ j. drop j (xs ++ x ∷ [])) (sym b))))
  | inr l ↦
      let z : length xs - n ≡ 0 = omega arith in
      ap (λ j. keep_last n (drop j xs ++ x ∷ [])) z
]

-- a class after one more entry
with_by : (n : ℕ) (p : LogEntry → Bool) (is : Bool) (all : List LogEntry) (entry : LogEntry) → 1 ≤ n → p entry ≡ is
    → cond is (keep_last n (keep_last n (filter p all) ++ entry ∷ [])) (keep_last n (filter p all)) ≡ keep_last n (filter p (all ++ entry ∷ []))
with_by n p true all entry h same =
    last_push n (filter p all) entry h
    ∙ ap (keep_last n) (sym (filter-append p all (entry ∷ []) ∙ ap (λ (b : Bool). filter p all ++ cond b (entry ∷ []) []) same))
with_by n p false all entry h same =
    ap (keep_last n) (sym (filter-append p all (entry ∷ []) ∙ (ap (λ (b : Bool). filter p all ++ cond b (entry ∷ []) []) same ∙ append-nil (filter p all))))

class_more : (cap : ℕ) (class : Class) (all entries : List LogEntry) (entry : LogEntry) → 1 ≤ cap_of cap class → entries ≡ of_class class (kept cap all)
    → class_with class (cap_of cap class) entries entry ≡ of_class class (kept cap (all ++ entry ∷ []))
class_more cap class all entries entry h latest =
    ap (λ (xs : List LogEntry). class_with class (cap_of cap class) xs entry) (latest ∙ latest_kept cap class all)
    ∙ (with_by (cap_of cap class) (is_of class) (is_of class entry) all entry h refl ∙ sym (latest_kept cap class (all ++ entry ∷ [])))

-- the log with one more entry stands for one more
pub stands_more : (log : LogView) (all : List LogEntry) (entry : LogEntry) → 1 ≤ log.error_cap → entry.id ≡ raised log.last_id 1
    → Stands log all → Stands (with_entry log entry) (all ++ entry ∷ [])
stands_more log all entry h is stands =
    let next : entry.id ≡ nth_id (length all + 1) = grind (arith, is, stands.counted) in
    record {
      numbered =
          map_push (λ (e : LogEntry). e.id) all entry
          ∙ (ap₂ (λ (ids : List ℕ) (id : ℕ). ids ++ id ∷ []) stands.numbered next
          ∙ (sym (map-range_with_len_more nth_id 1 (length all) (length all + 1) (omega arith))
          ∙ ap (λ n. map nth_id (range_with_len 1 n)) (sym (length_push all entry))));
      errors_kept = class_more log.error_cap Error all log.errors entry h stands.errors_kept;
      infos_kept = class_more log.error_cap Info all log.infos entry (omega arith) stands.infos_kept;
      counted = next ∙ ap nth_id (sym (length_push all entry));
    }
