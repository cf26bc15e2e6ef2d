-- After a legal history boards ascend by configuration and place, and what they expose by board and expose.
use Rattle.std.proofs.Common.{List}
use Rattle.std.specs.Prelude.{length}
use Rattle.inventory.specs.Orders.{AreByKey, AreById, HaveOwnIds}
use Rattle.inventory.proofs.IdsLemmas.{board_list_ascends, items_ascend, ascending_ids}
use Rattle.bmc_machine.specs.Boards.{boards, board_keys, fields_at}
use Rattle.bmc_machine.specs.Histories.{Step, standing}
use Rattle.bmc_machine.specs.Indexes.{kept, boards_now, items_now}
use Rattle.bmc_machine.specs.Refusals.{IsLegal}
use Rattle.bmc_machine.proofs.MeetingLemmas.{boards_ascend}

pub boards_by_key : (past : List Step) → IsLegal past → AreByKey (boards_now past)
unfolding boards_now board_keys
boards_by_key past legal =
    board_list_ascends (kept past) (boards (standing past)) (length (standing past).configs) (λ number. boards_ascend past number legal)

pub items_by_id : (past : List Step) → IsLegal past → AreById (items_now past)
unfolding items_now
items_by_id past legal = items_ascend (standing past).configs (fields_at (standing past).frus) (boards_now past) (boards_by_key past legal)

-- so no two items have one id
pub ids_differ : (past : List Step) → IsLegal past → HaveOwnIds (items_now past)
ids_differ past legal = ascending_ids (items_now past) (items_by_id past legal)
