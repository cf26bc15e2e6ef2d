-- The map's answer is the configuration's number.
use Rattle.std.proofs.Common.{◌∙◌}
use Rattle.cfg_json.proofs.ShelvesLemmas.{number_of_key}
use Rattle.cfg_json.proofs.shelf.Shelf.position.Goals as goal

pub returns : goal.returns
returns g c = rw (← c.self.view_is) (c.get_index_of.ensures.index ∙ number_of_key c.args.name.now c.self.inside.configs.entries c.self.invariant.0)
