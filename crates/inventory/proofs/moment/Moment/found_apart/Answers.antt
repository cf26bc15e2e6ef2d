use Rattle.std.proofs.Common.{◌∙◌, not, ap₂}
use Rattle.std.proofs.Math.Bool.{beq}
use Rattle.found_set.specs.Marks.{is_marked}
use Rattle.inventory.specs.Differences.{Moment}
use Rattle.inventory.proofs.moment.Moment.found_apart.Goals as goal

pub returns : goal.returns
returns c = λ number small.
    c.found_apart.ensures number small
    ∙ ap₂ (λ (here there : Moment). not (beq (is_marked here.facts.found number) (is_marked there.facts.found number))) c.self.view_is c.after.view_is
