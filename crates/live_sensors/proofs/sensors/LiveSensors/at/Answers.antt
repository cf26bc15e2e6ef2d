use Rattle.std.proofs.Common.{◌≡◌, ◌∙◌, bytes_eq, Some, sym, ap, subst}
use Rattle.std.specs.Map.{lookup}
use Rattle.std.specs.Option.{option_copied}
use Rattle.live_sensors.specs.Sensors.{LiveSensors}
use Rattle.live_sensors.proofs.SlotsLemmas.{not_empty}
use Rattle.live_sensors.proofs.sensors.LiveSensors.at.Goals as goal

pub unreachable-requires : goal.unreachable-requires
unreachable-requires c =
    let name = c.requires.name in
    let has : lookup (bytes_eq name) c.self.inside.slots.entries ≡ Some c.args.slot =
    subst (λ (sensors : LiveSensors). lookup (bytes_eq name) sensors.names ≡ Some c.args.slot) (sym c.self.view_is) c.requires.has in
    not_empty _ c.self.inside.table.slots name c.args.slot c.self.invariant has (sym c.get.ensures ∙ ap option_copied c.in-None.is)
