-- The log: which changes join it, and what it keeps.
use Rattle.std.specs.Prelude.{ℕ, ◌+◌, Bool, true, false, List, [], ◌∷◌, ◌++◌, length, Option, Some, None}
use Rattle.std.specs.List.{flat_map, fold}
use Rattle.bmc_report.specs.LogRows.{log_row}
use Rattle.bmc_report.specs.declared.change.Change.{Change}
use Rattle.bmc_report.specs.declared.change.Change.TheVariants as change
use Rattle.event_log.specs.Listed.{listed}
use Rattle.event_log.specs.Stands.{nth_id}
use Rattle.event_log.specs.declared.entry.Class.{Class}
use Rattle.event_log.specs.declared.entry.Class.TheVariants.{Error, Info}
use Rattle.event_log.specs.declared.entry.LogEntry.{LogEntry}
use Rattle.bmc_machine.specs.Changes.{changes}
use Rattle.bmc_machine.specs.Histories.{Step, Start, Configure, Plug, RefusedPlug, Unplug, Read, Lose, Tick, log_cap, tick_of}

-- what goes wrong is an error, and what is right again is an info
abbrev pub class_by : Bool → Class
class_by true = Error
class_by false = Info

-- The class of a change in the log: a board that goes or comes is an info; a sensor, an alarm and a zone are errors or infos; a refused plug is an
-- error. Live items, stale readings and duties are not logged.
abbrev pub class_of : Change → Option Class
class_of (change.Board gone name index place) = Some Info
class_of (change.Item gone kind name) = None
class_of (change.Stale name) = None
class_of (change.Failure failed name) = Some (class_by failed)
class_of (change.Alarm on name position high critical) = Some (class_by on)
class_of (change.Zone failsafe name) = Some (class_by failsafe)
class_of (change.Duty name duty) = None
class_of (change.PlugRefused place refusal) = Some Error

-- all entries with one more, if the change has a class: ids rise by one from 1
abbrev pub with_entry : ℕ → List LogEntry → Change → Option Class → List LogEntry
with_entry tick all change None = all
with_entry tick all change (Some class) = all ++ record { id = nth_id (length all + 1); class = class; tick = tick; change = change } ∷ []

abbrev pub with_change : ℕ → List LogEntry → Change → List LogEntry
with_change tick all change = with_entry tick all change (class_of change)

-- what a step has for the log: what it changed, and of a plug that was refused that it was
abbrev pub news : Step → List Change → List Change
news (Start options) changes = []
news (Configure config) changes = changes
news (Plug place bytes) changes = changes
news (RefusedPlug place bytes refusal) changes = change.PlugRefused place refusal ∷ []
news (Unplug place) changes = changes
news (Read name raw) changes = changes
news (Lose name) changes = changes
news Tick changes = changes

-- all entries of a history, the oldest first, each with the tick count after its step
unfoldable pub entries : List Step → List LogEntry
entries [] = []
entries (step ∷ past) = fold (with_change (tick_of (step ∷ past))) (entries past) (news step (changes past step))

-- the row of an entry
abbrev pub is_error : Class → Bool
is_error Error = true
is_error Info = false

abbrev pub entry_row : LogEntry → List ℕ
entry_row entry = log_row entry.id (is_error entry.class) entry.tick entry.change

-- the list of the entries that are kept, by id
unfoldable pub log_list : List Step → List ℕ
log_list past = flat_map entry_row (listed (log_cap past) (entries past))
