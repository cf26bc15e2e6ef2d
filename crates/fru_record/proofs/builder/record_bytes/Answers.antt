use Rattle.std.proofs.Common.{◌++◌}
use Rattle.std.specs.Str.{IsUtf8}
use Rattle.std.proofs.lemmas.List.Elements.{All-append}
use Rattle.fru_record.specs.Parts.{chassis_texts, board_texts}
use Rattle.fru_record.proofs.LayoutsLemmas.{record_bytes-written}
use Rattle.fru_record.proofs.builder.record_bytes.Goals as goal

pub returns-clause-written : goal.returns-clause-written
returns-clause-written c =
    record_bytes-written c.args.parts.now c.args.layout _ _ _ _ _ c.requires c.in_ok-bytes.ensures.items c.in_ok-push_header.ensures
    c.in_ok-push_chassis.ensures.written c.in_ok-push_board.ensures.written c.in_ok-push_product.ensures.written

pub returns-clause-utf8 : goal.returns-clause-utf8
returns-clause-utf8 c =
    let chassis = chassis_texts c.args.parts.now.chassis in
    let board = board_texts c.args.parts.now.board in
    All-append IsUtf8 (chassis ++ board) _ (All-append IsUtf8 chassis board c.in_ok-push_chassis.ensures.utf8 c.in_ok-push_board.ensures.utf8)
    c.in_ok-push_product.ensures.utf8
