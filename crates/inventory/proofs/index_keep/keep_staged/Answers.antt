use Rattle.std.proofs.Common.{arith, length, ◌≡◌}
use Rattle.inventory.proofs.KeepingLemmas.{few_now}
use Rattle.inventory.proofs.index_keep.keep_staged.Goals as goal

pub returns-clause-few : goal.returns-clause-few
returns-clause-few c =
    let many : length c.keep_boards.new.lists ≡ length c.args.lists.now = omega arith in
    λ number. few_now c.args.keys.now c.args.lists.now c.keep_boards.new.lists number many (c.requires.room number) (c.keep_boards.ensures number)
