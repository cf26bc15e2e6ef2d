use Rattle.std.proofs.Common.{arith, get_or, ◌<◌}
use Rattle.indexmap.specs.IndexSet.{spare}
use Rattle.inventory.proofs.KeepingLemmas.{from_ok, kept_set, room_is, room_set}
use Rattle.inventory.proofs.index_keep.keep_board.Goals as goal

pub returns-clause-kept : goal.returns-clause-kept
returns-clause-kept c =
    let some = c.index-lists-number.result in
    let room : 0 < spare (get_or c.args.lists.now c.args.number some) =
    omega (arith, c.requires.room, room_is c.args.lists.now c.args.number some c.insert_full.new.self c.requires.within) in
    kept_set c.args.lists.now c.args.number some c.insert_full.new.self c.requires.within c.args.place
    (from_ok c.insert_full.result (c.insert_full.ensures.succeeds room) c.insert_full.ensures.keys)

pub returns-clause-room : goal.returns-clause-room
returns-clause-room c =
    room_set c.args.lists.now c.args.number c.index-lists-number.result c.insert_full.new.self c.requires.within c.insert_full.ensures.spare
