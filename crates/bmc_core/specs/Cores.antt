-- What is seen of a core, and when it stands for a history.
use Rattle.std.specs.Prelude.{◌≡◌, ◌≤◌, List}
use Rattle.std.specs.List.{All}
use Rattle.ctl_face.specs.Seen.{Seen, unloaded}
use Rattle.event_log.specs.Stands.{LogView, Stands as LogIsOf}
use Rattle.bmc_machine.specs.Banks.{HasBank}
use Rattle.bmc_machine.specs.Histories.{Step, log_cap}
use Rattle.bmc_machine.specs.Logs.{entries}
use Rattle.bmc_core.specs.Logging.{noted}
use Rattle.bmc_core.specs.States.{StateView, StateStands, ticked_state}

-- a core as it is seen: its state, and its log
pub record CoreView : Type 0 where
  pub state : StateView
  pub log : LogView

-- a log stands for a history: its entries are those of the history, and it keeps as many errors as the run was started with, at least one
pub record LogStands (log : LogView) (past : List Step) : Type 0 where
  pub entries : LogIsOf log (entries past)
  pub cap : log.error_cap ≡ log_cap past
  pub some : 1 ≤ log.error_cap

-- a core stands for a history: its state and its log are what the history gives
pub record Stands (core : CoreView) (past : List Step) : Type 0 where
  pub state : StateStands core.state past
  pub log : LogStands core.log past

-- a bank from which each controller that may be live gets a box: there are enough of each kind, and none is loaded
pub record IsStated (bank : List Seen) : Type 0 where
  pub enough : HasBank bank
  pub free : All (λ (seen : Seen). seen ≡ unloaded seen.kind) bank

-- a core after a tick: its state has ticked, and what changed is noted in its log, at the tick count of then
abbrev pub ticked_core : CoreView → CoreView
ticked_core core =
    let then = ticked_state core.state in
    record { state = then; log = noted then.senses.ticks then.senses.watch.changes core.log }
