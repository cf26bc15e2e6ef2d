-- The state of a core: what is seen of it but for its log, and when it stands for a history.
use Rattle.std.specs.Prelude.{◌≡◌, Bool, List}
use Rattle.bmc_base.specs.Counts.{raised}
use Rattle.fan_zone.specs.Ticks.{ZonesView, ticked}
use Rattle.bmc_machine.specs.Banks.{HasBank}
use Rattle.bmc_machine.specs.Histories.{Step, is_strict}
use Rattle.bmc_machine.specs.Zones.{ZonesStand}
use Rattle.bmc_watch.specs.Panels.{panel_changes, panel_of}
use Rattle.bmc_core.specs.Senses.{SensesView, SensesStand, quiet_senses, AreUnchanged}

-- what is known of the bus and of the sensors, the zones over their bank of boxes, and whether duties are commanded in strict mode
pub record StateView : Type 0 where
  pub senses : SensesView
  pub zones : ZonesView
  pub strict : Bool

-- a state stands for a history: what it knows of the bus and the sensors, and its zones, are what the history gives
pub record StateStands (state : StateView) (past : List Step) : Type 0 where
  pub senses : SensesStand state.senses past
  pub zones : ZonesStand state.zones state.senses.sensors past
  pub strict : state.strict ≡ is_strict past

-- each state stands for a history, over a bank that is enough
pub record IsState (state : StateView) : Type 0 where
  pub past : List Step
  pub stands : StateStands state past
  pub enough : HasBank state.zones.bank

-- a state as it was, without the last changes
abbrev pub quiet : StateView → StateView
quiet state = record state { senses = quiet_senses state.senses }

-- all is as it was that is seen of a state
pub record IsUnchanged (old new : StateView) : Type 0 where
  pub senses : AreUnchanged old.senses new.senses
  pub zones : new.zones ≡ old.zones
  pub strict : new.strict ≡ old.strict

-- the zones after a tick
abbrev pub zones_ticked : StateView → ZonesView
zones_ticked state = ticked state.senses.sensors.slots (raised state.senses.ticks 1) state.strict state.zones

-- A state after a tick: the tick is counted, the zones have ticked, and the last changes are what zones and fans show otherwise than before.
abbrev pub ticked_state : StateView → StateView
ticked_state state =
    let told = panel_changes (panel_of state.zones.zone_rows state.zones.fan_rows) (zones_ticked state).zone_rows (zones_ticked state).fan_rows in
    record {
      senses = record state.senses { watch = record state.senses.watch { changes = told }; ticks = raised state.senses.ticks 1 };
      zones = zones_ticked state;
      strict = state.strict;
    }
