use Rattle.std.proofs.Common.{◌∙◌, ◌++◌, ◌∷◌, [], Bool, List, Option, Some, cond, sym, ap}
use Rattle.std.proofs.lemmas.List.{append-nil}
use Rattle.bmc_base.specs.Places.{Place}
use Rattle.inventory.proofs.MomentsLemmas.{hit_one}
use Rattle.inventory.proofs.hits.push_hit.Goals as goal

pub returns-else-is_hit : goal.returns-else-is_hit
returns-else-is_hit c =
    let places = c.args.places.now.items in
    let entry = c.args.entry.now in
    λ reach marked. sym (ap (λ (hits : List (Option Place)). places ++ hits) (hit_one reach c.args.number entry
    ∙ ap (λ (sees : Bool). cond sees (Some entry.place ∷ []) []) (sym (c.is_hit.ensures reach marked) ∙ c.if-is_hit.false)) ∙ append-nil places)
