-- What holds of the entries that are kept.
use Rattle.std.specs.Prelude.{◌≡◌, ℕ, ◌≤◌, ◌==◌, Bool, List, [], ◌∷◌, length, filter, ⊤}
use Rattle.std.specs.List.{AllByRecursion}
use Rattle.bmc_base.specs.Counts.{last_count}
use Rattle.circular_buffer.specs.Buffer.{keep_last}
use Rattle.event_log.specs.declared.entry.Class.{Class}
use Rattle.event_log.specs.declared.entry.LogEntry.{LogEntry}
use Rattle.event_log.specs.Kept.{of_class, cap_of, kept}
use Rattle.event_log.specs.Listed.{by_id, listed}
use Rattle.event_log.specs.Stands.{AreNumbered}

-- of each class the last ones are kept, as many as its cap
abbrev pub LatestAreKept : Type 0
LatestAreKept = (error_cap : ℕ) (class : Class) (all : List LogEntry)
    → of_class class (kept error_cap all) ≡ keep_last (cap_of error_cap class) (of_class class all)

-- no id is below one before it
abbrev pub IsAscending : List LogEntry → Type 0
IsAscending [] = ⊤
IsAscending (entry ∷ later) = AllByRecursion (λ other. entry.id ≤ other.id) later × IsAscending later

-- whether an entry has this id
abbrev pub has_id : ℕ → LogEntry → Bool
has_id id entry = entry.id == id

-- the first entries are the second ones by id: they ascend, and those of each id are in their order
pub record IsById (ordered entries : List LogEntry) : Type 0 where
  pub ascending : IsAscending ordered
  pub same : (id : ℕ) → filter (has_id id) ordered ≡ filter (has_id id) entries

abbrev pub AreById : Type 0
AreById = (entries : List LogEntry) → IsById (by_id entries) entries

-- as long as no two ids are equal, entries are listed in the order in which they were added
abbrev pub ListedAsAdded : Type 0
ListedAsAdded = (error_cap : ℕ) (all : List LogEntry) → AreNumbered all → length all ≤ last_count
    → listed error_cap all ≡ kept error_cap all
