use Rattle.std.proofs.Common.{◌≡◌, ◌<◌, ◌≤◌, ◌&&◌, Bool, List, length, take, subst, sym, arith}
use Rattle.std.specs.List.{flat_map}
use Rattle.std.proofs.lemmas.List.{length-map, take_all}
use Rattle.indexmap.specs.IndexMap.{keys}
use Rattle.cfg_json.specs.declared.item.ItemId.{ItemId}
use Rattle.inventory.specs.Bearers.{ids_in, ids_over, touched}
use Rattle.inventory.specs.Leads.{compared, is_held, AreTold}
use Rattle.inventory.specs.declared.tag.Tag.{Tag}
use Rattle.inventory.proofs.BoardLemmas.{and_first, and_second}
use Rattle.inventory.proofs.LeadTagsLemmas.{none_told, some_at, told_alike, told_more}
use Rattle.inventory.proofs.TagsLemmas.{over_rest}
use Rattle.inventory.proofs.TouchedLemmas.{compared_touched}
use Rattle.inventory.proofs.leads.Leads.find.Goals as goal

pub loop-i-init : goal.loop-i-init
loop-i-init c order =
    let tags = c.args.tags.now.entries in
    none_told (ids_in tags) (ids_over c.args.notes.now.over.entries tags) c.args.self.now

pub loop-i-preserved : goal.loop-i-preserved
loop-i-preserved c order =
    let over = c.args.notes.now.over.entries in
    let here : Tag → List ItemId = ids_in c.args.tags.now.entries in
    let there : Tag → List ItemId = ids_over over c.args.tags.now.entries in
    let tags = keys c.args.notes.now.over in
    let i = c.loop-i.i in
    let within : i < length tags = omega (arith, length-map over (λ (entry : Tag × List ItemId). entry.0)) in
    let at = some_at tags i within in
    told_more here there (compared here there) tags i at.0 c.args.self.now c.loop-i.self c.add_tag.new.self at.1 (c.loop-i.invariant order)
    (c.in_ok-add_tag.ensures order at.0 at.1)

pub returns : goal.returns
returns c order =
    let over = c.args.notes.now.over.entries in
    let kept = c.args.tags.now.entries in
    let here : Tag → List ItemId = ids_in kept in
    let there : Tag → List ItemId = ids_over over kept in
    let tags = keys c.args.notes.now.over in
    let past : length tags ≤ c.loop-i.i = omega (arith, length-map over (λ (entry : Tag × List ItemId). entry.0)) in
    let all : take c.loop-i.i tags ≡ tags = take_all c.loop-i.i tags past in
    let stays : Tag → Bool = λ tag. is_held here tag.name && is_held there tag.name in
    told_alike here there (flat_map (compared here there) tags) (touched tags) c.args.self.now c.loop-i.self
    (compared_touched here there tags (λ tag none. over_rest over kept tag none) stays (λ tag is. (and_first _ _ is, and_second _ _ is)))
    (compared_touched there here tags (λ tag none. sym (over_rest over kept tag none)) stays (λ tag is. (and_second _ _ is, and_first _ _ is)))
    (subst (λ (tags : List Tag). AreTold here there (flat_map (compared here there) tags) c.args.self.now c.loop-i.self) all (c.loop-i.invariant order))
