use Rattle.std.proofs.Common.{refl}
use Rattle.found_set.specs.Events.{UnplugEvent}
use Rattle.found_set.proofs.SetsLemmas.{prepared}
use Rattle.found_set.proofs.set.FoundSet.prepare_unplug.Goals as goal

pub returns : goal.returns
returns g c =
    prepared c.args.self.now c.unstage.new.self c.stage_unplug.new.self (UnplugEvent c.args.place) _ c.facts_without-facts.result _ _
    c.unstage.ensures refl c.facts_without-facts.ensures.facts c.stage_unplug.ensures c.facts_without-facts.ensures.counted
