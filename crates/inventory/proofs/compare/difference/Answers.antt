use Rattle.std.proofs.Common.{◌∙◌, ◌++◌, Option, option_map, ap, sym, true≢false}
use Rattle.cfg_json.specs.Configs.{Config}
use Rattle.inventory.specs.Moments.{plus_keys}
use Rattle.inventory.proofs.DifferencesLemmas.{from_none, gone_all, come_all}
use Rattle.inventory.proofs.compare.difference.Goals as goal

-- each configuration is marked
pub push_shelf-requires-clause-marks : goal.push_shelf-requires-clause-marks
push_shelf-requires-clause-marks g c = λ number small none. absurd (true≢false (sym (c.all-marks.ensures number small) ∙ none))

pub returns : goal.returns
returns g c =
    let plus : Option Config = option_map (λ config. config.now) c.args.plus in
    let configs = c.args.shelf.now in
    λ found reach found_after reach_after marked marked_after. (
      gone_all configs found reach found_after reach_after c.args.before.now c.args.after.now plus c.into_difference.result.gone_boards
          (c.into_difference.ensures.gone ∙ c.push_plus.ensures.gone
          ∙ from_none _ _ _ (c.in_ok-push_shelf.ensures.gone found reach found_after reach_after marked marked_after) c.new-comparison.ensures.gone),
      come_all configs found reach found_after reach_after c.args.before.now c.args.after.now plus c.push_shelf.new.comparison.difference.new_boards
          c.into_difference.result.new_boards
          (from_none _ _ _ (c.in_ok-push_shelf.ensures.come found reach found_after reach_after marked marked_after) c.new-comparison.ensures.come)
          (c.into_difference.ensures.new ∙ c.in_ok-push_plus.ensures.come found_after reach_after marked_after
          ∙ ap (λ n. c.push_shelf.new.comparison.difference.new_boards ++ plus_keys found_after reach_after c.args.after.now n plus) c.len.ensures.value),
    )
