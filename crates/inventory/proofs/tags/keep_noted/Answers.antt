use Rattle.std.proofs.Common.{◌≡◌, ◌∙◌, List, None, sym, ap, arith}
use Rattle.std.specs.Map.{lookup}
use Rattle.cfg_json.specs.declared.item.ItemId.{ItemId}
use Rattle.inventory.specs.Bearers.{tag_eq, ids_over}
use Rattle.inventory.specs.declared.tag.Tag.{Tag}
use Rattle.inventory.proofs.TagsLemmas.{found_as, moved}
use Rattle.inventory.proofs.tags.keep_noted.Goals as goal

pub loop-preserved : goal.loop-preserved
loop-preserved c =
    let over = c.pop.new.self.entries in
    let tag = c.in-Some.tag in
    let free : lookup (tag_eq tag) over ≡ None = sym (found_as over tag) ∙ c.in-Some.ensures.updates.1 in
    record {
      ids = λ each.
          moved over c.loop.tags.entries c.keep_ids.new.tags.entries tag c.in-Some.ids free c.keep_ids.ensures.ids each
          ∙ ap (λ (over : List (Tag × List ItemId)). ids_over over c.loop.tags.entries each) (sym c.in-Some.ensures.entries) ∙ c.loop.invariant.ids each;
      left = omega (arith, c.in-Some.ensures.len);
      room = omega (arith, c.in-Some.ensures.len);
    }
