use Rattle.std.proofs.Common.{◌∙◌, ap}
use Rattle.std.specs.Prelude.{bytes_eq, position}
use Rattle.found_set.specs.Sets.{SetView}
use Rattle.found_set.specs.Found.{number_of}
use Rattle.found_set.proofs.NamedLemmas.{number_by_name}
use Rattle.found_set.proofs.set.FoundSet.number.Goals as goal

pub returns : goal.returns
returns g c =
    c.number.ensures ∙ ap (position (bytes_eq c.args.name.now)) c.self.invariant.named ∙ number_by_name c.args.name.now c.self.inside.rules.items
    ∙ ap (λ (v : SetView). number_of v.rules c.args.name.now) c.self.view_is
