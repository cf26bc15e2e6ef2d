-- The facts are those of the configurations and the rows.
use Rattle.std.proofs.Common.{◌∙◌, ap}
use Rattle.found_set.specs.Found.{facts}
use Rattle.found_set.specs.Rows.{sights_of}
use Rattle.found_set.specs.Sets.{SetView}
use Rattle.found_set.proofs.set.FoundSet.facts.Goals as goal

pub returns-clause-current : goal.returns-clause-current
returns-clause-current g c = c.copied.ensures ∙ c.self.invariant.facts ∙ ap (λ (v : SetView). facts v.rules (sights_of v.rows)) c.self.view_is
