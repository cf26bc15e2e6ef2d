-- The root buses, then what fixed channels open, then what moving ones do.
use Rattle.std.proofs.Common.{◌∙◌, ◌||◌, Bool, ap}
use Rattle.std.specs.List.{list_any}
use Rattle.found_set.specs.Buses.{leads_on, fixed_opens}
use Rattle.found_set.proofs.BusesLemmas.{reached_is}
use Rattle.found_set.proofs.reach.reach_of.Goals as goal

pub returns : goal.returns
returns g c = λ given bus h.
    c.open.ensures bus h
    ∙ ap (λ (t : Bool). t || list_any (leads_on c.args.first.now bus) c.args.rows.now) (c.open_rules.ensures bus h
    ∙ ap (λ (t : Bool). t || fixed_opens c.args.rules.now c.args.first.now bus) (c.roots-reach.ensures.roots bus h))
    ∙ reached_is c.args.rules.now c.args.rows.now c.args.first.now bus c.requires.few c.requires.count given
