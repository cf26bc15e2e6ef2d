use Rattle.std.proofs.Common.{arith, length, ◌<◌}
use Rattle.std.proofs.lemmas.List.{length-map}
use Rattle.inventory.specs.Keeping.{keys_of, room_of}
use Rattle.inventory.proofs.KeepingLemmas.{room_left, room_more, kept_more}
use Rattle.inventory.proofs.index_keep.keep_boards.Goals as goal

pub keep_board-requires-clause-room : goal.keep_board-requires-clause-room
keep_board-requires-clause-room c =
    let key = c.key-item.result in
    let listed : key.config < length c.args.lists.now = search arith in
    room_left c.args.keys.now c.loop-key.key-index key c.loop-key-test.true c.key-item.is (room_of c.loop-key.lists key.config)
    (c.loop-key.invariant.room key.config listed)

pub loop-key-preserved : goal.loop-key-preserved
loop-key-preserved c =
    let key = c.key-item.result in
    let listed : key.config < length c.args.lists.now = search arith in
    let listed_now : key.config < length (keys_of c.loop-key.lists) = omega (arith, listed, length-map c.loop-key.lists (λ list. list.keys)) in
    record {
      many = omega arith;
      kept =
          λ number. kept_more c.args.keys.now c.loop-key.key-index key c.loop-key-test.true c.key-item.is (keys_of c.loop-key.lists)
          (keys_of c.keep_board.new.lists)
          (keys_of c.args.lists.now) listed_now c.keep_board.ensures.kept number (c.loop-key.invariant.kept number);
      room = λ number within. room_more c.args.keys.now c.loop-key.key-index key c.loop-key-test.true c.key-item.is number (room_of c.loop-key.lists number)
          (room_of c.keep_board.new.lists number) (c.loop-key.invariant.room number within) (c.keep_board.ensures.room number);
    }
