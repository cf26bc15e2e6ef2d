-- What is counted is cut off far above the limits.
use Rattle.std.proofs.Common.{◌∙◌, ◌++◌, ◌+◌, ◌-◌, ◌^◌, List, length, min, ap, ap₂, arith, option_map, option_to_list}
use Rattle.cfg_json.specs.Configs.{Config}
use Rattle.inventory.specs.declared.board.BoardKey.{BoardKey}
use Rattle.inventory.specs.Limits.{fans_of, pids_of, sensors_of, steps_of, totals_after, zones_of}
use Rattle.inventory.proofs.LimitsLemmas.{cut_off, gives_whole}
use Rattle.inventory.proofs.limits.Totals.after.Goals as goal

pub returns : goal.returns
returns g c =
    let all : List Config = c.args.shelf.now ++ option_to_list (option_map (λ config. config.now) c.args.plus) in
    let gone = c.args.difference.now.gone_boards in
    let new = c.args.difference.now.new_boards in
    let sensors : List BoardKey → _ = λ keys. min (sensors_of all keys) (2 ^ 64 - 1) in
    let zones : List BoardKey → _ = λ keys. min (zones_of all keys) (2 ^ 64 - 1) in
    let fans : List BoardKey → _ = λ keys. min (fans_of all keys) (2 ^ 64 - 1) in
    let pids : List BoardKey → _ = λ keys. min (pids_of all keys) (2 ^ 64 - 1) in
    let steps : List BoardKey → _ = λ keys. min (steps_of all keys) (2 ^ 64 - 1) in
    gives_whole
    (record {
      boards = c.replaced.result;
      sensors = c.replaced-2.result;
      zones = c.replaced-3.result;
      fans = c.replaced-4.result;
      pids = c.replaced-5.result;
      steps = c.replaced-6.result;
    })
    (totals_after all c.args.self gone new)
    (c.replaced.ensures
    ∙ ap₂ (λ (gone new : List BoardKey). min (c.args.self.boards - length gone + length new) (2 ^ 64 - 1)) c.as_slice-gone_keys.ensures
    c.as_slice-new_keys.ensures)
    (c.replaced-2.ensures
    ∙ cut_off c.args.self.sensors (sensors_of all gone) (sensors_of all new) c.sum_counts-gone.result.sensors c.sum_counts-new.result.sensors (omega arith)
    (c.sum_counts-gone.ensures.sensors ∙ ap sensors c.as_slice-gone_keys.ensures) (c.sum_counts-new.ensures.sensors ∙ ap sensors c.as_slice-new_keys.ensures))
    (c.replaced-3.ensures
    ∙ cut_off c.args.self.zones (zones_of all gone) (zones_of all new) c.sum_counts-gone.result.zones c.sum_counts-new.result.zones (omega arith)
    (c.sum_counts-gone.ensures.zones ∙ ap zones c.as_slice-gone_keys.ensures) (c.sum_counts-new.ensures.zones ∙ ap zones c.as_slice-new_keys.ensures))
    (c.replaced-4.ensures
    ∙ cut_off c.args.self.fans (fans_of all gone) (fans_of all new) c.sum_counts-gone.result.fans c.sum_counts-new.result.fans (omega arith)
    (c.sum_counts-gone.ensures.fans ∙ ap fans c.as_slice-gone_keys.ensures) (c.sum_counts-new.ensures.fans ∙ ap fans c.as_slice-new_keys.ensures))
    (c.replaced-5.ensures
    ∙ cut_off c.args.self.pids (pids_of all gone) (pids_of all new) c.sum_counts-gone.result.pids c.sum_counts-new.result.pids (omega arith)
    (c.sum_counts-gone.ensures.pids ∙ ap pids c.as_slice-gone_keys.ensures) (c.sum_counts-new.ensures.pids ∙ ap pids c.as_slice-new_keys.ensures))
    (c.replaced-6.ensures
    ∙ cut_off c.args.self.steps (steps_of all gone) (steps_of all new) c.sum_counts-gone.result.steps c.sum_counts-new.result.steps (omega arith)
    (c.sum_counts-gone.ensures.steps ∙ ap steps c.as_slice-gone_keys.ensures) (c.sum_counts-new.ensures.steps ∙ ap steps c.as_slice-new_keys.ensures))
    c.checked.result c.checked.ensures
