-- What was staged is taken over.
use Rattle.std.proofs.Common.{sym, ◌∙◌}
use Rattle.found_set.proofs.InsidesLemmas.{sound_after}
use Rattle.found_set.proofs.set.FoundSet.commit.Goals as goal

pub invariant_of-self : goal.invariant_of-self
invariant_of-self g c =
    let took = c.take_over-self-inside in
    sound_after c.self.inside c.in-Some.staged took.new.names took.new.rules took.new.rows took.result c.take.new.self c.self.invariant
    (sym c.take.ensures.value ∙ c.in-Some.is)
    took.ensures.names took.ensures.rules took.ensures.rows took.ensures.facts c.take.ensures.after
