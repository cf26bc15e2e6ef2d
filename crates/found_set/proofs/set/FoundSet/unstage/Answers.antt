use Rattle.found_set.proofs.InsidesLemmas.{bare}
use Rattle.found_set.proofs.set.FoundSet.unstage.Goals as goal

pub invariant_of-self : goal.invariant_of-self
invariant_of-self g c =
    record {
      few = c.self.invariant.few;
      named = c.self.invariant.named;
      by_place = c.self.invariant.by_place;
      facts = c.self.invariant.facts;
      next = bare _;
      room = bare _;
    }
