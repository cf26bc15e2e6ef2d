-- What is known of the bus and of the sensors, and when it stands for a history.
use Rattle.std.specs.Prelude.{ℕ, ◌≡◌, ⊤, false, List, [], ◌∷◌, Result, Ok, Err}
use Rattle.bmc_report.specs.declared.change.Change.{Change}
use Rattle.live_sensors.specs.Items.{has_sensor}
use Rattle.live_sensors.specs.Sensors.{LiveSensors, sensor_in, slot_of}
use Rattle.bmc_machine.specs.Histories.{Step, tick_of}
use Rattle.bmc_machine.specs.Lives.{sensor_now}
use Rattle.bmc_machine.specs.Changes.{changes}
use Rattle.bmc_watch.specs.Watches.{WatchView, WatchStands, IsSame}
use Rattle.bmc_watch.specs.Settling.{AreKept, live_left}
use Rattle.bmc_core.specs.declared.fault.CoreFault.{CoreFault}

-- what is known of the bus, with the last changes, the live sensors, and the tick count
pub record SensesView : Type 0 where
  pub watch : WatchView
  pub sensors : LiveSensors
  pub ticks : ℕ

-- each name has the sensor that the history gives it
abbrev pub SensorsStand : LiveSensors → List Step → Type 0
SensorsStand sensors past = (name : List ℕ) → sensor_in sensors name ≡ sensor_now past name

-- there are no last changes, or they are those of the last step
abbrev pub AreLast : List Change → List Step → Type 0
AreLast [] past = ⊤
AreLast (change ∷ more) [] = ⊥
AreLast (change ∷ more) (step ∷ past) = change ∷ more ≡ changes past step

-- this stands for a history: what is known of the bus, the sensors, the tick count and the last changes are what the history gives
pub record SensesStand (senses : SensesView) (past : List Step) : Type 0 where
  pub watch : WatchStands senses.watch past
  pub sensors : SensorsStand senses.sensors past
  pub ticks : senses.ticks ≡ tick_of past
  pub last : AreLast senses.watch.changes past

-- as it was, without the last changes
abbrev pub quiet_senses : SensesView → SensesView
quiet_senses senses = record senses { watch = record senses.watch { changes = [] } }

-- all is as it was that is seen
pub record AreUnchanged (old new : SensesView) : Type 0 where
  pub watch : IsSame old.watch new.watch
  pub sensors : AreKept old.sensors new.sensors
  pub ticks : new.ticks ≡ old.ticks

-- behind an event that was accepted, each name keeps its slot that is the name of no sensor that is gone, and of none that is new
abbrev pub KeepsSlots : Result ⊤ CoreFault → SensesView → SensesView → Type 0
KeepsSlots (Ok done) old new =
    (name : List ℕ) → has_sensor name (live_left old.watch new.watch) ≡ false → has_sensor name (live_left new.watch old.watch) ≡ false
    → slot_of new.sensors name ≡ slot_of old.sensors name
KeepsSlots (Err fault) old new = ⊤
