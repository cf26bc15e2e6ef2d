-- The order in which a log lists its entries.
use Rattle.std.specs.Prelude.{ℕ, nat_le, if◌then◌else◌, List, [], ◌∷◌, ◌++◌}
use Rattle.event_log.specs.declared.entry.Class.TheVariants.{Error, Info}
use Rattle.event_log.specs.declared.entry.LogEntry.{LogEntry}
use Rattle.event_log.specs.Kept.{of_class, kept}

-- with an entry before the first one whose id is not below its own
abbrev pub placed : LogEntry → List LogEntry → List LogEntry
placed entry [] = entry ∷ []
placed entry (other ∷ others) = if nat_le entry.id other.id then entry ∷ other ∷ others else other ∷ placed entry others

-- by id; entries with equal ids stay in their order
abbrev pub by_id : List LogEntry → List LogEntry
by_id [] = []
by_id (entry ∷ entries) = placed entry (by_id entries)

-- the entries that are kept, by id, with errors before infos where ids are equal
abbrev pub listed : ℕ → List LogEntry → List LogEntry
listed error_cap all = by_id (of_class Error (kept error_cap all) ++ of_class Info (kept error_cap all))
