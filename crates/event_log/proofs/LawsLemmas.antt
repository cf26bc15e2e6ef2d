-- Entries by id, and those whose ids climb.
use Rattle.std.proofs.Common.{◌≡◌, ℕ, ◌+◌, ◌≤◌, ◌<◌, Bool, true, false, cond, List, [], ◌∷◌, ◌++◌, length, map}
use Rattle.std.proofs.Common.{filter, get_or, drop, refl, ap, sym, subst, ◌∙◌, arith}
use Rattle.std.proofs.lemmas.Bool.{leb-true, leb-false, eqb-true, ne_eqb, cond_both, true≢false}
use Rattle.std.specs.Prelude.{nat_le}
use Rattle.std.specs.List.{range_with_len}
use Rattle.bmc_base.specs.Counts.{last_count}
use Rattle.event_log.specs.declared.entry.Class.{Class}
use Rattle.event_log.specs.declared.entry.Class.TheVariants.{Error, Info}
use Rattle.event_log.specs.declared.entry.LogEntry.{LogEntry}
use Rattle.event_log.specs.Kept.{class_eq, is_of, of_class, kept}
use Rattle.event_log.specs.Laws.{IsAscending, has_id, IsById}
use Rattle.event_log.specs.Listed.{placed, by_id, listed}
use Rattle.event_log.specs.Stands.{AreNumbered, nth_id}
use Rattle.event_log.proofs.ListedLemmas.{AreFrom, from_more, from_both, from_placed, first_of_all, info_first}

-- each id is above this and above those before it
abbrev pub IsClimbing : ℕ → List LogEntry → Type 0
IsClimbing low [] = Unit {0}
IsClimbing low (entry ∷ later) = (low < entry.id) × IsClimbing entry.id later

climbing_from : (low new : ℕ) (entries : List LogEntry) → new ≤ low → IsClimbing low entries → IsClimbing new entries
climbing_from low new [] under climbs = tt
climbing_from low new (entry ∷ later) under climbs = (omega (arith, under, climbs.0), climbs.1)

-- numbered entries climb while no two ids are equal
climbing_numbered : (before : ℕ) (all : List LogEntry) → map (λ (entry : LogEntry). entry.id) all ≡ map nth_id (range_with_len (before + 1) (length all))
    → before + length all ≤ last_count → IsClimbing before all
climbing_numbered before [] numbered few = tt
climbing_numbered before (entry ∷ later) numbered few =
    let next : entry.id ≡ before + 1 = grind (arith, ap (λ (ids : List ℕ). get_or ids 0 0) numbered) in (
      omega (arith, next),
      subst (λ (id : ℕ). IsClimbing id later) (sym next)
          (climbing_numbered (before + 1) later (ap (drop 1) numbered) (omega (arith, few))),
    )

-- some of them climb too
climbing_kept : (cap low : ℕ) (all : List LogEntry) → IsClimbing low all → IsClimbing low (kept cap all)
climbing_kept cap low [] climbs = tt
climbing_kept cap low (entry ∷ later) climbs = kept_by _ (climbing_kept cap entry.id later climbs.1)
  where
    kept_by : (is : Bool) → IsClimbing entry.id (kept cap later) → IsClimbing low (cond is (entry ∷ kept cap later) (kept cap later))
    kept_by true rest = (climbs.0, rest)
    kept_by false rest = climbing_from entry.id low (kept cap later) (omega (arith, climbs.0)) rest

from_climbing : (low : ℕ) (entries : List LogEntry) → IsClimbing low entries → AreFrom (low + 1) entries
from_climbing low [] climbs = tt
from_climbing low (entry ∷ later) climbs =
    (omega (arith, climbs.0), from_more (entry.id + 1) (low + 1) later (omega (arith, climbs.0)) (from_climbing entry.id later climbs.1))

from_filter : (low : ℕ) (p : LogEntry → Bool) (entries : List LogEntry) → AreFrom low entries → AreFrom low (filter p entries)
from_filter low p [] from = tt
from_filter low p (entry ∷ later) from = filter_by (p entry) (from_filter low p later from.1)
  where
    filter_by : (is : Bool) → AreFrom low (filter p later) → AreFrom low (cond is (entry ∷ filter p later) (filter p later))
    filter_by true rest = (from.0, rest)
    filter_by false rest = rest

-- an entry before all others is listed first, whatever its class
first_listed : (class : Class) (entry : LogEntry) (errors infos later : List LogEntry) → AreFrom (entry.id + 1) errors → AreFrom (entry.id + 1) infos
    → by_id (errors ++ infos) ≡ later
    → by_id (cond (class_eq Error class) (entry ∷ errors) errors ++ cond (class_eq Info class) (entry ∷ infos) infos) ≡ entry ∷ later
first_listed Error entry errors infos later from more is =
    first_of_all entry (errors ++ infos) (from_both entry.id errors infos
    (from_more (entry.id + 1) entry.id errors (omega arith) from) (from_more (entry.id + 1) entry.id infos (omega arith) more))
    ∙ ap (λ (xs : List LogEntry). entry ∷ xs) is
first_listed Info entry errors infos later from more is =
    info_first (entry.id + 1) errors entry infos (omega arith) from (from_more (entry.id + 1) entry.id infos (omega arith) more)
    ∙ ap (λ (xs : List LogEntry). entry ∷ xs) is

climbing_listed : (low : ℕ) (entries : List LogEntry) → IsClimbing low entries → by_id (of_class Error entries ++ of_class Info entries) ≡ entries
climbing_listed low [] climbs = refl
climbing_listed low (entry ∷ later) climbs =
    let from : AreFrom (entry.id + 1) later = from_climbing entry.id later climbs.1 in
    first_listed entry.class entry (of_class Error later) (of_class Info later) later
    (from_filter (entry.id + 1) (is_of Error) later from) (from_filter (entry.id + 1) (is_of Info) later from)
    (climbing_listed entry.id later climbs.1)

pub listed_as_added : (error_cap : ℕ) (all : List LogEntry) → AreNumbered all → length all ≤ last_count → listed error_cap all ≡ kept error_cap all
listed_as_added error_cap all numbered few =
    let climbs : IsClimbing 0 all = climbing_numbered 0 all numbered (omega (arith, few)) in
    climbing_listed 0 (kept error_cap all) (climbing_kept error_cap 0 all climbs)

-- entries by id ascend
placed_ascending : (entry : LogEntry) (entries : List LogEntry) → IsAscending entries → IsAscending (placed entry entries)
placed_ascending entry [] ascends = (tt, tt)
placed_ascending entry (other ∷ others) ascends =
    cond_both (nat_le entry.id other.id) (entry ∷ other ∷ others) (other ∷ placed entry others) IsAscending
    (λ is.
    let under : entry.id ≤ other.id = leb-true entry.id other.id is in
    ((under, from_more other.id entry.id others under ascends.0), ascends))
    (λ is.
    let over : other.id < entry.id = leb-false entry.id other.id is in
    (from_placed other.id entry others (omega (arith, over)) ascends.0, placed_ascending entry others ascends.1))

by_id_ascending : (entries : List LogEntry) → IsAscending (by_id entries)
by_id_ascending [] = tt
by_id_ascending (entry ∷ later) = placed_ascending entry (by_id later) (by_id_ascending later)

-- an entry is placed before those that have its id
placed_same : (id : ℕ) (entry : LogEntry) (entries : List LogEntry) → filter (has_id id) (placed entry entries) ≡ filter (has_id id) (entry ∷ entries)
placed_same id entry [] = refl
placed_same id entry (other ∷ others) =
    cond_both (nat_le entry.id other.id) (entry ∷ other ∷ others) (other ∷ placed entry others)
    (λ xs. filter (has_id id) xs ≡ filter (has_id id) (entry ∷ other ∷ others)) (λ is. refl)
    (λ is. passed (has_id id entry) (has_id id other) (apart (leb-false entry.id other.id is))
    (filter (has_id id) (placed entry others)) (filter (has_id id) others) (placed_same id entry others))
  where
    apart : other.id < entry.id → has_id id entry ≡ true → has_id id other ≡ false
    apart over same = ne_eqb other.id id (λ equal. absurd (omega (arith, over, equal, eqb-true entry.id id same)))

    passed : (is other_is : Bool) → (is ≡ true → other_is ≡ false) → (same_placed same_rest : List LogEntry)
        → same_placed ≡ cond is (entry ∷ same_rest) same_rest
        → cond other_is (other ∷ same_placed) same_placed
        ≡ cond is (entry ∷ cond other_is (other ∷ same_rest) same_rest) (cond other_is (other ∷ same_rest) same_rest)
    passed true true never same_placed same_rest rest = absurd (true≢false (never refl))
    passed true false never same_placed same_rest rest = rest
    passed false true never same_placed same_rest rest = ap (λ (xs : List LogEntry). other ∷ xs) rest
    passed false false never same_placed same_rest rest = rest

by_id_same : (id : ℕ) (entries : List LogEntry) → filter (has_id id) (by_id entries) ≡ filter (has_id id) entries
by_id_same id [] = refl
by_id_same id (entry ∷ later) =
    placed_same id entry (by_id later)
    ∙ ap (λ (xs : List LogEntry). cond (has_id id entry) (entry ∷ xs) xs) (by_id_same id later)

pub are_by_id : (entries : List LogEntry) → IsById (by_id entries) entries
are_by_id entries = record { ascending = by_id_ascending entries; same = λ id. by_id_same id entries }
