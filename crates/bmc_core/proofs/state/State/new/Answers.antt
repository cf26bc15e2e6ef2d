-- Nothing has happened, and no zone is there.
use Rattle.bmc_core.proofs.BegunLemmas.{stands_begun, state_begun}
use Rattle.bmc_core.proofs.state.State.new.Goals as goal

pub invariant_of-result : goal.invariant_of-result
invariant_of-result g c =
    (state_begun c.args.strict c.in_ok-senses.senses _ c.in_ok-zones.zones c.in_ok-senses.ensures c.requires c.in_ok-zones.ensures, tt)

pub returns : goal.returns
returns g c = stands_begun c.args.strict c.in_ok-senses.senses _ c.in_ok-zones.zones c.in_ok-senses.ensures c.requires c.in_ok-zones.ensures
