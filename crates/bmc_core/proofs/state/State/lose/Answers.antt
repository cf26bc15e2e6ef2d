-- A loss leaves the zones.
use Rattle.std.proofs.Common.{refl, subst}
use Rattle.bmc_machine.specs.Histories.{Lose}
use Rattle.bmc_core.specs.Acts.{StateApplies}
use Rattle.bmc_core.specs.States.{StateView}
use Rattle.bmc_core.proofs.StateLemmas.{state_next, sensed}
use Rattle.bmc_core.proofs.state.State.lose.Goals as goal

pub invariant_of-self : goal.invariant_of-self
invariant_of-self g c =
    let old : StateView = record { senses = c.self.inside.senses; zones = c.self.inside.zones; strict = c.self.inside.strict } in
    let new : StateView = record { senses = c.lose.new.self; zones = c.self.inside.zones; strict = c.self.inside.strict } in (
      state_next old new (Lose c.args.name.now) c.lose.result c.self.invariant.0
          (sensed old new (Lose c.args.name.now) c.lose.result refl refl refl c.lose.ensures.notes c.lose.ensures.names refl refl) c.self.invariant.0.enough,
      c.lose.ensures.health c.self.inside.zones.held c.self.invariant.1,
    )

pub returns : goal.returns
returns g c =
    let old : StateView = record { senses = c.self.inside.senses; zones = c.self.inside.zones; strict = c.self.inside.strict } in
    let new : StateView = record { senses = c.lose.new.self; zones = c.self.inside.zones; strict = c.self.inside.strict } in
    subst (λ (state : StateView). StateApplies state (Lose c.args.name.now) c.lose.result new) c.self.view_is
    (sensed old new (Lose c.args.name.now) c.lose.result refl refl refl c.lose.ensures.notes c.lose.ensures.names refl refl)
