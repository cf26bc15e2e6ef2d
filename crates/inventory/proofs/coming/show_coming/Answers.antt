use Rattle.std.proofs.Common.{◌∙◌, ◌++◌, List, option_map, sym, subst}
use Rattle.std.specs.Prelude.{option_to_list}
use Rattle.cfg_json.specs.Configs.{Config}
use Rattle.inventory.specs.Follows.{kept_with}
use Rattle.inventory.specs.Orders.{AreByKey}
use Rattle.inventory.proofs.ComingLemmas.{named_by_key}
use Rattle.inventory.proofs.coming.show_coming.Goals as goal

pub show_boards-requires : goal.show_boards-requires
show_boards-requires g c =
    let all : List Config = c.args.shelf.now ++ option_to_list (option_map (λ config. config.now) c.args.plus) in
    subst AreByKey (sym (c.deref.ensures.value ∙ c.in_ok-boards.ensures))
    (named_by_key all (kept_with c.args.keep.now.kept c.args.keys.now) c.args.keys.now c.requires)
