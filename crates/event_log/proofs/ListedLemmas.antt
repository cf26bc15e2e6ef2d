-- The first entry by id, of errors and infos whose ids do not fall.
use Rattle.std.proofs.Common.{◌≡◌, ℕ, ◌+◌, ◌≤◌, ◌<◌, Bool, true, false, cond, List, [], ◌∷◌, ◌++◌, length, drop}
use Rattle.std.proofs.Common.{refl, ap, ap₂, sym, ◌∙◌, append_assoc, arith, Option, Some, None}
use Rattle.std.proofs.lemmas.Bool.{le-leb, lt-leb, leb-true, leb-false, cond-true, cond-false, true≢false, false≢true}
use Rattle.std.proofs.lemmas.List.{append-nil}
use Rattle.std.proofs.lemmas.Option.{MatchOption-at_some, MatchOption-at_none}
use Rattle.std.specs.Prelude.{nat_le, slice_get, option_map}
use Rattle.std.specs.List.{AllByRecursion}
use Rattle.event_log.specs.declared.entry.LogEntry.{LogEntry}
use Rattle.event_log.specs.Listed.{placed, by_id}
use Rattle.event_log.specs.Rising.{IsRising, is_error_first, Gives}
use Rattle.event_log.specs.Stands.{LogView, Lists}
use Rattle.event_log.specs.Updates.{entries_of}
use Rattle.event_log.proofs.RisingLemmas.{rising_from}

-- all ids are at least this
abbrev pub AreFrom : ℕ → List LogEntry → Type 0
AreFrom low entries = AllByRecursion (λ (entry : LogEntry). low ≤ entry.id) entries

pub from_more : (low new : ℕ) (entries : List LogEntry) → new ≤ low → AreFrom low entries → AreFrom new entries
from_more low new [] under from = tt
from_more low new (entry ∷ later) under from = (omega (arith, under, from.0), from_more low new later under from.1)

from_rising : (low high : ℕ) (entries : List LogEntry) → IsRising low entries high → AreFrom low entries
from_rising low high [] rises = tt
from_rising low high (entry ∷ later) rises = (rises.0, from_more entry.id low later rises.0 (from_rising entry.id high later rises.1))

pub from_both : (low : ℕ) (entries others : List LogEntry) → AreFrom low entries → AreFrom low others → AreFrom low (entries ++ others)
from_both low [] others from more = more
from_both low (entry ∷ later) others from more = (from.0, from_both low later others from.1 more)

-- an entry is placed before those with ids from its own on, and behind one with a smaller id
placed_first : (entry : LogEntry) (entries : List LogEntry) → AreFrom entry.id entries → placed entry entries ≡ entry ∷ entries
placed_first entry [] from = refl
placed_first entry (other ∷ others) from = cond-true _ (entry ∷ other ∷ others) (other ∷ placed entry others) (le-leb entry.id other.id from.0)

placed_later : (entry other : LogEntry) (others : List LogEntry) → other.id < entry.id → placed entry (other ∷ others) ≡ other ∷ placed entry others
placed_later entry other others under = cond-false _ (entry ∷ other ∷ others) (other ∷ placed entry others) (lt-leb entry.id other.id under)

pub from_placed : (low : ℕ) (entry : LogEntry) (entries : List LogEntry) → low ≤ entry.id → AreFrom low entries → AreFrom low (placed entry entries)
from_placed low entry [] over from = (over, tt)
from_placed low entry (other ∷ others) over from =
    placed_by (nat_le entry.id other.id) (from_placed low entry others over from.1)
  where
    placed_by : (is : Bool) → AreFrom low (placed entry others) → AreFrom low (cond is (entry ∷ other ∷ others) (other ∷ placed entry others))
    placed_by true rest = (over, (from.0, from.1))
    placed_by false rest = (from.0, rest)

from_by_id : (low : ℕ) (entries : List LogEntry) → AreFrom low entries → AreFrom low (by_id entries)
from_by_id low [] from = tt
from_by_id low (entry ∷ later) from = from_placed low entry (by_id later) from.0 (from_by_id low later from.1)

-- the first of all comes first
pub first_of_all : (entry : LogEntry) (entries : List LogEntry) → AreFrom entry.id entries → by_id (entry ∷ entries) ≡ entry ∷ by_id entries
first_of_all entry entries from = placed_first entry (by_id entries) (from_by_id entry.id entries from)

-- an info comes before errors with ids above its own
pub info_first : (low : ℕ) (errors : List LogEntry) (info : LogEntry) (infos : List LogEntry) → info.id < low → AreFrom low errors → AreFrom info.id infos
    → by_id (errors ++ info ∷ infos) ≡ info ∷ by_id (errors ++ infos)
info_first low [] info infos under from more = first_of_all info infos more
info_first low (error ∷ errors) info infos under from more =
    ap (placed error) (info_first low errors info infos under from.1 more)
    ∙ placed_later error info (by_id (errors ++ infos)) (omega (arith, under, from.0))

-- what the first by id leaves
pub gives_error : (high : ℕ) (errors infos : List LogEntry)
    → is_error_first (option_map (λ entry. entry.id) (slice_get errors 0)) (option_map (λ entry. entry.id) (slice_get infos 0)) ≡ true
    → IsRising 0 errors high → IsRising 0 infos high → Gives high errors infos (slice_get errors 0) (drop 1 errors) infos
gives_error high [] [] is rises more = record { errors_rise = rises; infos_rise = more; first = refl; fewer = tt }
gives_error high [] (info ∷ infos) is rises more = absurd (false≢true is)
gives_error high (error ∷ errors) [] is rises more = record {
  errors_rise = rising_from error.id 0 high errors rises.0 rises.1;
  infos_rise = more;
  first = first_of_all error (errors ++ []) (from_both error.id errors [] (from_rising error.id high errors rises.1) tt);
  fewer = omega arith;
}
gives_error high (error ∷ errors) (info ∷ infos) is rises more =
    let under : error.id ≤ info.id = leb-true error.id info.id is in
    record {
      errors_rise = rising_from error.id 0 high errors rises.0 rises.1;
      infos_rise = more;
      first = first_of_all error (errors ++ info ∷ infos) (from_both error.id errors (info ∷ infos) (from_rising error.id high errors rises.1)
          (from_rising error.id high (info ∷ infos) (under, more.1)));
      fewer = omega arith;
    }

pub gives_info : (high : ℕ) (errors infos : List LogEntry)
    → is_error_first (option_map (λ entry. entry.id) (slice_get errors 0)) (option_map (λ entry. entry.id) (slice_get infos 0)) ≡ false
    → IsRising 0 errors high → IsRising 0 infos high → Gives high errors infos (slice_get infos 0) errors (drop 1 infos)
gives_info high errors [] is rises more = absurd (true≢false is)
gives_info high [] (info ∷ infos) is rises more = record {
  errors_rise = rises;
  infos_rise = rising_from info.id 0 high infos more.0 more.1;
  first = first_of_all info infos (from_rising info.id high infos more.1);
  fewer = omega arith;
}
gives_info high (error ∷ errors) (info ∷ infos) is rises more = record {
  errors_rise = rises;
  infos_rise = rising_from info.id 0 high infos more.0 more.1;
  first = info_first error.id (error ∷ errors) info infos (leb-false error.id info.id is)
      (from_rising error.id high (error ∷ errors) (omega arith, rises.1)) (from_rising info.id high infos more.1);
  fewer = omega arith;
}

-- the same, of what was taken
pub takes_error : (high : ℕ) (errors infos : List LogEntry) (error info : Option ℕ) (is : Bool) (given : Option LogEntry) (left : List LogEntry)
    → error ≡ option_map (λ entry. entry.id) (slice_get errors 0) → info ≡ option_map (λ entry. entry.id) (slice_get infos 0)
    → is ≡ is_error_first error info → is ≡ true → given ≡ slice_get errors 0 → left ≡ drop 1 errors
    → IsRising 0 errors high → IsRising 0 infos high → Gives high errors infos given left infos
takes_error high errors infos error info is given left first other test yes_is taken rest rises more =
    rw (taken, rest) (gives_error high errors infos (sym (test ∙ ap₂ is_error_first first other) ∙ yes_is) rises more)

pub takes_info : (high : ℕ) (errors infos : List LogEntry) (error info : Option ℕ) (is : Bool) (given : Option LogEntry) (left : List LogEntry)
    → error ≡ option_map (λ entry. entry.id) (slice_get errors 0) → info ≡ option_map (λ entry. entry.id) (slice_get infos 0)
    → is ≡ is_error_first error info → is ≡ false → given ≡ slice_get infos 0 → left ≡ drop 1 infos
    → IsRising 0 errors high → IsRising 0 infos high → Gives high errors infos given errors left
takes_info high errors infos error info is given left first other test not_is taken rest rises more =
    rw (taken, rest) (gives_info high errors infos (sym (test ∙ ap₂ is_error_first first other) ∙ not_is) rises more)

-- the entries so far, and then what is left by id, are the entries of the log
pub record ListedSoFar (log : LogView) (so_far errors infos : List LogEntry) : Type 0 where
  pub all : so_far ++ by_id (errors ++ infos) ≡ entries_of log
  pub errors_rise : IsRising 0 errors log.last_id
  pub infos_rise : IsRising 0 infos log.last_id

pub so_far_more : (log : LogView) (so_far errors infos errors_left infos_left new : List LogEntry) (given : Option LogEntry) (entry : LogEntry)
    → ListedSoFar log so_far errors infos → Gives log.last_id errors infos given errors_left infos_left → given ≡ Some entry
    → new ≡ so_far ++ entry ∷ [] → ListedSoFar log new errors_left infos_left
so_far_more log so_far errors infos errors_left infos_left new given entry listed gives some pushed =
    let first : by_id (errors ++ infos) ≡ entry ∷ by_id (errors_left ++ infos_left) = MatchOption-at_some _ _ entry some gives.first in
    record {
      all = ap (λ (xs : List LogEntry). xs ++ by_id (errors_left ++ infos_left)) pushed
          ∙ (append_assoc so_far (entry ∷ []) (by_id (errors_left ++ infos_left)) ∙ (ap (λ (xs : List LogEntry). so_far ++ xs) (sym first) ∙ listed.all));
      errors_rise = gives.errors_rise;
      infos_rise = gives.infos_rise;
    }

pub so_far_fewer : (high : ℕ) (errors infos errors_left infos_left : List LogEntry) (given : Option LogEntry) (entry : LogEntry)
    → Gives high errors infos given errors_left infos_left → given ≡ Some entry → length errors_left + length infos_left < length errors + length infos
so_far_fewer high errors infos errors_left infos_left given entry gives some = MatchOption-at_some _ _ entry some gives.fewer

pub so_far_whole : (log : LogView) (so_far errors infos errors_left infos_left : List LogEntry) (given : Option LogEntry)
    → ListedSoFar log so_far errors infos → Gives log.last_id errors infos given errors_left infos_left → given ≡ None → so_far ≡ entries_of log
so_far_whole log so_far errors infos errors_left infos_left given listed gives none =
    let over : errors ++ infos ≡ [] = MatchOption-at_none _ _ none gives.first in
    sym (append-nil so_far) ∙ (ap (λ (xs : List LogEntry). so_far ++ by_id xs) (sym over) ∙ listed.all)

-- what a log lists is listed of the entries for which it stands
pub lists_all : (log : LogView) (entries : List LogEntry) → entries ≡ entries_of log → Lists log entries
lists_all log entries is all stands = is ∙ ap by_id (ap₂ (λ (xs ys : List LogEntry). xs ++ ys) stands.errors_kept stands.infos_kept)
