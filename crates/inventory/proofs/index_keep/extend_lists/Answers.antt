use Rattle.std.proofs.Common.{arith, length, ◌≡◌}
use Rattle.inventory.proofs.KeepingLemmas.{few_now}
use Rattle.inventory.proofs.index_keep.extend_lists.Goals as goal

pub returns-clause-few : goal.returns-clause-few
returns-clause-few c =
    let many : length c.keep_boards.new.lists ≡ length c.reserve_lists.new.lists = omega arith in
    let old : length c.reserve_lists.new.lists ≡ length c.args.lists.now = omega arith in
    λ number. few_now c.args.keys.now c.reserve_lists.new.lists c.keep_boards.new.lists number many
    (λ within. c.in_ok-reserve_lists.ensures.ready number (omega arith)) (c.keep_boards.ensures number)
