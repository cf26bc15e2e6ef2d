-- A log as it stands: without entries, with one more, and what it lists.
use Rattle.std.specs.Prelude.{ℕ, if◌then◌else◌, List, [], ◌∷◌, ◌++◌}
use Rattle.bmc_base.specs.Counts.{raised}
use Rattle.bmc_report.specs.declared.change.Change.{Change}
use Rattle.circular_buffer.specs.Buffer.{Buffer, buffer, keep_last}
use Rattle.event_log.specs.declared.entry.Class.{Class}
use Rattle.event_log.specs.declared.entry.Class.TheVariants.{Error, Info}
use Rattle.event_log.specs.declared.entry.LogEntry.{LogEntry}
use Rattle.event_log.specs.Kept.{is_of, info_cap}
use Rattle.event_log.specs.Listed.{by_id}
use Rattle.event_log.specs.Stands.{LogView}

-- a log of no entries
abbrev pub empty_log : ℕ → LogView
empty_log error_cap = record { errors = []; infos = []; error_cap = error_cap; last_id = 0 }

-- the next entry of a log
abbrev pub next_entry : LogView → Class → ℕ → Change → LogEntry
next_entry log class tick change = record { id = raised log.last_id 1; class = class; tick = tick; change = change }

-- so many entries of a class, with this one as the newest where it is of that class
abbrev pub class_with : Class → ℕ → List LogEntry → LogEntry → List LogEntry
class_with class cap entries entry = if is_of class entry then keep_last cap (entries ++ entry ∷ []) else entries

-- the same, in a buffer
abbrev pub buffer_with : Class → Buffer LogEntry → LogEntry → Buffer LogEntry
buffer_with class entries entry = buffer (class_with class entries.capacity entries.items entry) entries.capacity

-- the log with this entry
abbrev pub with_entry : LogView → LogEntry → LogView
with_entry log entry = record {
  errors = class_with Error log.error_cap log.errors entry;
  infos = class_with Info info_cap log.infos entry;
  error_cap = log.error_cap;
  last_id = entry.id;
}

-- the entries of both classes, in order
abbrev pub entries_of : LogView → List LogEntry
entries_of log = by_id (log.errors ++ log.infos)
