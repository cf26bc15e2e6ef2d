use Rattle.std.proofs.Common.{sym, subst}
use Rattle.cfg_json.specs.declared.item.ControlItem.{ControlItem}
use Rattle.fan_zone.specs.Sets.{Seating}
use Rattle.fan_zone.specs.Seats.{IsReady}
use Rattle.fan_zone.proofs.SeatLoop.{ready_at, counted_at}
use Rattle.fan_zone.proofs.seats.seat_item.Goals as goal

pub seat_control-requires-clause-ready : goal.seat_control-requires-clause-ready
seat_control-requires-clause-ready g c =
    let s : Seating = record { held = c.args.next.now.items; taken = c.args.taken.now.items; bank = c.args.bank.now } in
    let id = c.args.item.now.id in
    subst (λ (item : ControlItem). IsReady c.args.old.now s (record { id = id; item = item })) (sym c.get.ensures)
    (ready_at (IsReady c.args.old.now s) id c.args.item.now.part c.in-Control.control c.in-Control.is c.requires.ready)

pub seat_control-requires-clause-taken : goal.seat_control-requires-clause-taken
seat_control-requires-clause-taken g c =
    counted_at c.args.old.now c.args.item.now.id c.args.item.now.part c.in-Control.control _ _ c.in-Control.is c.requires.taken
