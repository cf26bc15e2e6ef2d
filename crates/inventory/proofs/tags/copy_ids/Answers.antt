use Rattle.std.proofs.Common.{◌≡◌, ◌∙◌, [], Option, List, ap, subst}
use Rattle.std.specs.Option.{unwrap_or}
use Rattle.std.specs.Result.{IfOk}
use Rattle.cfg_json.specs.declared.item.ItemId.{ItemId}
use Rattle.inventory.proofs.TagsLemmas.{found_as}
use Rattle.inventory.proofs.tags.copy_ids.Goals as goal

pub returns-in-Some : goal.returns-in-Some
returns-in-Some c =
    let is = ap (λ (found : Option (List ItemId)). unwrap_or found []) (c.in-Some.ensures.value ∙ found_as c.args.tags.now.entries c.args.tag.now) in
    subst (λ (list : List ItemId). IfOk c.copied.result (λ ids. ids ≡ list)) is c.copied.ensures

pub returns-in-None : goal.returns-in-None
returns-in-None c =
    c.none.ensures ∙ ap (λ (found : Option (List ItemId)). unwrap_or found []) (c.in-None.ensures.value ∙ found_as c.args.tags.now.entries c.args.tag.now)
