-- What a log remembers of all entries that were added to it.
use Rattle.std.specs.Prelude.{◌≡◌, ℕ, List, [], ◌∷◌, ◌++◌, length, map}
use Rattle.std.specs.List.{range_with_len}
use Rattle.bmc_base.specs.Counts.{raised}
use Rattle.event_log.specs.declared.entry.Class.TheVariants.{Error, Info}
use Rattle.event_log.specs.declared.entry.LogEntry.{LogEntry}
use Rattle.event_log.specs.Kept.{of_class, kept}
use Rattle.event_log.specs.Listed.{listed}

-- a log as it is seen: what it keeps of each class, how many errors it keeps, and the last id that it gave, or 0
pub record LogView : Type 0 where
  pub errors : List LogEntry
  pub infos : List LogEntry
  pub error_cap : ℕ
  pub last_id : ℕ

-- the id of the nth entry
abbrev pub nth_id : ℕ → ℕ
nth_id n = raised 0 n

-- the entries have the ids from the first on, and none is missing
abbrev pub AreNumbered : List LogEntry → Type 0
AreNumbered all = map (λ entry. entry.id) all ≡ map nth_id (range_with_len 1 (length all))

-- the log is as these entries make it, which are all that were added, the oldest first
pub record Stands (log : LogView) (all : List LogEntry) : Type 0 where
  pub numbered : AreNumbered all
  pub errors_kept : log.errors ≡ of_class Error (kept log.error_cap all)
  pub infos_kept : log.infos ≡ of_class Info (kept log.error_cap all)
  pub counted : log.last_id ≡ nth_id (length all)

-- where the old log stood for some entries, the new one stands for these and this one
abbrev pub Takes : LogView → LogView → LogEntry → Type 0
Takes old new entry = (all : List LogEntry) → Stands old all → Stands new (all ++ entry ∷ [])

-- where the log stands for some entries, these are those of them that are kept, in order
abbrev pub Lists : LogView → List LogEntry → Type 0
Lists log entries = (all : List LogEntry) → Stands log all → entries ≡ listed log.error_cap all
