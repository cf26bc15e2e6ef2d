use Rattle.std.proofs.Common.{◌∙◌, [], List, Option, option_map, ap}
use Rattle.std.specs.Option.{unwrap_or}
use Rattle.cfg_json.specs.Configs.{Config}
use Rattle.fru_rows.specs.Idle.{busy}
use Rattle.inventory.specs.Items.{entry_fields, exposes_of}
use Rattle.bmc_core.proofs.BoardItemsLemmas.{within_exposes}
use Rattle.bmc_core.proofs.board_list.push_board.Goals as goal

pub push_items-requires : goal.push_items-requires
push_items-requires g c =
    let watch = c.args.watch.now in
    let board = c.args.board.now in
    within_exposes watch.configs (entry_fields (busy watch.entries)) board c.exposes.result.now c.deref.result.now
    (c.exposes.ensures.value ∙ ap (λ (config : Option Config). unwrap_or (option_map (λ (config : Config). config.exposes) config) []) c.in-Some.ensures
    ∙ ap (λ (configs : List Config). exposes_of configs board.key.config) c.configs.ensures)
    (c.deref.ensures.value ∙ c.in_ok-items.ensures)
