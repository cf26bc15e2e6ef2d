use Rattle.std.proofs.Common.{◌≡◌, ◌∙◌, ◌++◌, List, Option, inr, sym, ap₂, arith, option_map}
use Rattle.std.specs.Prelude.{option_to_list}
use Rattle.std.specs.List.{All}
use Rattle.std.proofs.lemmas.Grind.{common_steps}
use Rattle.std.proofs.lemmas.List.Elements.{All-same}
use Rattle.fru_area.specs.declared.field.Field.{Field}
use Rattle.cfg_json.specs.Configs.{Config, IsValidExpose}
use Rattle.cfg_json.specs.declared.expose.Expose.{Expose}
use Rattle.cfg_json.specs.declared.item.Item.{Item}
use Rattle.inventory.specs.Items.{entry_fields, exposes_of}
use Rattle.inventory.specs.Naming.{named_among, named_items}
use Rattle.inventory.proofs.ComingLemmas.{is_shown}
use Rattle.inventory.proofs.coming.show_board.Goals as goal

pub returns-in_ok-push : goal.returns-in_ok-push
returns-in_ok-push g c =
    let all : List Config = c.args.shelf.now ++ option_to_list (option_map (λ config. config.now) c.args.plus) in
    let board = c.args.board.now in
    let fields_at = entry_fields c.args.moment.now.entries in
    let items : c.append_named.new.items.items ≡ named_items all fields_at board =
    c.in_ok-append_named.ensures
    ∙ ap₂ (λ (front : List Item) (more : List Item). front ++ more) c.new-items.ensures.items
    (ap₂ (λ (fields : Option (List Field)) (exposes : List Expose). named_among board fields exposes) c.record_at.ensures
    c.exposes_at-exposes.ensures.value) in
    let valid : All IsValidExpose (exposes_of all board.key.config) =
    All-same IsValidExpose (exposes_of all board.key.config) c.exposes_at-exposes.result.now (sym c.exposes_at-exposes.ensures.value)
    c.exposes_at-exposes.ensures.valid in
    let shown = c.new.result in
    let shown_items : shown.items.items ≡ named_items all fields_at board = c.new.ensures.items ∙ items in
    inr (
      shown,
      c.new.ensures.key,
      shown_items,
      is_shown all fields_at board shown c.new.ensures.key shown_items (grind (arith, common_steps)) valid,
      c.in_ok-push.ensures.items,
    )
