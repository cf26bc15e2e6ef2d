use Rattle.std.proofs.Common.{sym, ◌∙◌}
use Rattle.ctl_face.specs.Seen.{unloaded}
use Rattle.ctl_face.specs.declared.kind.Kind.TheVariants.{Pid}
use Rattle.fan_zone.proofs.showing.thermal_output.Goals as goal

pub returns-then-is_some-clause-small : goal.returns-then-is_some-clause-small
returns-then-is_some-clause-small g c =
    λ x e. c.requires.small c.args.held.now.number (unloaded Pid) c.requires.seat.within x (sym c.output.ensures ∙ e)
