use Rattle.std.proofs.Common.{◌≡◌, ◌∙◌, List, Option, Some, slice_get, sym, ap}
use Rattle.std.specs.Option.{unwrap_or}
use Rattle.std.specs.Map.{lookup}
use Rattle.cfg_json.specs.declared.item.ItemId.{ItemId}
use Rattle.inventory.specs.Bearers.{ids_in, ids_over, tag_eq}
use Rattle.inventory.specs.declared.tag.Tag.{Tag}
use Rattle.inventory.proofs.LeadTagsLemmas.{firsts_at, key_at}
use Rattle.inventory.proofs.TagsLemmas.{found_as}
use Rattle.inventory.proofs.leads.lead_at.Goals as goal

pub returns : goal.returns
returns c tag at tags firsts =
    let notes = c.args.notes.now in
    let over = notes.over.entries in
    let key = c.in-Some.field-0-0.now in
    let ids = c.in-Some.ids.now in
    let its : lookup (tag_eq key) over ≡ Some ids = sym (found_as over key) ∙ c.in-Some.ensures.value in
    record {
      before = c.first_at-before.ensures (slice_get (ids_in tags tag) 0)
          (ap (λ (firsts : List (Option ItemId)). slice_get firsts c.args.number) c.deref.ensures.value
          ∙ firsts_at notes tags c.args.number tag key ids firsts at c.in-Some.ensures.entry);
      after = c.first.ensures
          ∙ ap (λ (found : Option (List ItemId)). slice_get (unwrap_or found (ids_in tags key)) 0) (sym its)
          ∙ ap (λ (tag : Tag). slice_get (ids_over over tags tag) 0) (key_at over c.args.number tag key ids at c.in-Some.ensures.entry);
    }
