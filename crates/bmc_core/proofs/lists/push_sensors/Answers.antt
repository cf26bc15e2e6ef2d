use Rattle.std.proofs.Common.{◌∙◌, ◌++◌, ℕ, List, ap, string_bytes}
use Rattle.std.specs.List.{flat_map}
use Rattle.std.proofs.lemmas.List.{take_all}
use Rattle.inventory.specs.declared.shown.Shown.{Shown}
use Rattle.bmc_core.specs.Lists.{row_if_live}
use Rattle.bmc_core.proofs.RowsLemmas.{all_shown}
use Rattle.bmc_core.proofs.lists.push_sensors.Goals as goal

pub returns : goal.returns
returns g c =
    let boards = c.shown-boards.result.now in
    c.loop-board.invariant
    ∙ ap (λ (rows : List ℕ). string_bytes c.args.text.now ++ rows)
    (ap (flat_map (λ (board : Shown). flat_map (row_if_live c.args.watch.now c.args.sensors.now c.args.tick) board.items.items))
    (take_all c.loop-board.board-index boards c.loop-board-test.false)
    ∙ all_shown c.args.watch.now c.args.sensors.now c.args.tick boards c.shown-boards.ensures.live)
