-- What joins the log of a core.
use Rattle.std.specs.Prelude.{◌≡◌, ⊤, ℕ, List, [], ◌∷◌, Option, Some, None, Result, Ok, Err}
use Rattle.std.specs.List.{fold}
use Rattle.bmc_base.specs.Places.{Place}
use Rattle.bmc_report.specs.declared.change.Change.{Change}
use Rattle.bmc_report.specs.declared.change.Change.TheVariants.{PlugRefused}
use Rattle.bmc_report.specs.declared.refusal.Refusal.{Refusal}
use Rattle.event_log.specs.Stands.{LogView, Stands as LogIsOf}
use Rattle.event_log.specs.Updates.{next_entry, with_entry}
use Rattle.event_log.specs.declared.entry.Class.{Class}
use Rattle.event_log.specs.declared.entry.LogEntry.{LogEntry}
use Rattle.bmc_machine.specs.Histories.{Step, Start, Configure, Plug, RefusedPlug, Unplug, Read, Lose, Tick}
use Rattle.bmc_machine.specs.Logs.{class_of, with_change}
use Rattle.bmc_core.specs.declared.fault.CoreFault.{CoreFault}
use Rattle.bmc_core.specs.declared.fault.CoreFault.TheVariants.{Refused, OutOfMemory}

-- a log with one more entry at a tick count, if the change has a class
abbrev pub noted_as : ℕ → LogView → Change → Option Class → LogView
noted_as tick log change None = log
noted_as tick log change (Some class) = with_entry log (next_entry log class tick change)

abbrev pub noted_change : ℕ → LogView → Change → LogView
noted_change tick log change = noted_as tick log change (class_of change)

-- a log with the entries of changes, in turn, all at one tick count
abbrev pub noted : ℕ → List Change → LogView → LogView
noted tick told log = fold (noted_change tick) log told

-- The log notes changes at a tick count: it is the log with their entries, and it stands for these behind all entries that it stood for.
pub record Logs (old : LogView) (tick : ℕ) (told : List Change) (new : LogView) : Type 0 where
  pub exact : new ≡ noted tick told old
  pub stands : (all : List LogEntry) → LogIsOf old all → LogIsOf new (fold (with_change tick) all told)

-- the place of a plug
abbrev pub plug_place : Step → Option Place
plug_place (Start options) = None
plug_place (Configure config) = None
plug_place (Plug place bytes) = Some place
plug_place (RefusedPlug place bytes refusal) = None
plug_place (Unplug place) = None
plug_place (Read name raw) = None
plug_place (Lose name) = None
plug_place Tick = None

-- that a plug at a place was refused; any other refusal is no change
abbrev pub refused_plug : Option Place → Refusal → List Change
refused_plug None refusal = []
refused_plug (Some place) refusal = PlugRefused place refusal ∷ []

-- what the log hears of an act that was tried, a plug at this place or no plug: what it changed, if it was done; that it was refused, if it is a plug
abbrev pub heard : Result ⊤ CoreFault → Option Place → List Change → List Change
heard (Ok done) plugged told = told
heard (Err (Refused refusal)) plugged told = refused_plug plugged refusal
heard (Err OutOfMemory) plugged told = []

-- a log after a step that was refused at a tick count: a refused plug is noted, and no other refusal is
abbrev pub log_refused : Step → Refusal → ℕ → LogView → LogView
log_refused step refusal tick log = noted tick (refused_plug (plug_place step) refusal) log
