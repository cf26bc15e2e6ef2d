use Rattle.std.proofs.Common.{ap, sym, ◌∙◌, subst, arith, [], ◌∷◌, Bor}
use Rattle.std.specs.List.{All}
use Rattle.cfg_json.specs.declared.item.Item.{Item}
use Rattle.fan_zone.specs.Live.{controls}
use Rattle.fan_zone.specs.Sets.{Seating, seat_all}
use Rattle.fan_zone.specs.Seats.{IsReady}
use Rattle.fan_zone.proofs.SeatLoop.{asks, seats_more}
use Rattle.fan_zone.proofs.seats.seat_live.Goals as goal

pub seat_item-requires-clause-ready : goal.seat_item-requires-clause-ready
seat_item-requires-clause-ready g c =
    let now : Seating = record { held = c.loop-item.next.items; taken = c.loop-item.taken.items; bank = c.loop-item.bank } in
    let all = asks c.args.rows.now c.args.sensors.now c.args.old.now c.args.live.now _ now _ _ c.loop-item.item-index c.item-item.result
    c.loop-item.invariant.0 c.loop-item-test.true in
    subst (λ (i : Item). All (IsReady c.args.old.now now) (controls (i ∷ []))) (sym (ap (λ (ref : Bor Item). ref.now) c.item-item.is)) all.ready

pub loop-item-preserved : goal.loop-item-preserved
loop-item-preserved g c =
    let rows = c.args.rows.now in
    let sensors = c.args.sensors.now in
    let old = c.args.old.now in
    let now : Seating = record { held = c.loop-item.next.items; taken = c.loop-item.taken.items; bank = c.loop-item.bank } in
    let after : Seating = record { held = c.seat_item.new.next.items; taken = c.seat_item.new.taken.items; bank = c.seat_item.new.bank } in (
      seats_more rows sensors old c.args.live.now _ now after _ _ _ _ c.loop-item.item-index c.item-item.result c.loop-item.invariant.0 c.loop-item-test.true
          (c.seat_item.ensures.seating ∙ ap (λ (i : Bor Item). seat_all rows sensors old now (controls (i.now ∷ []))) c.item-item.is)
          c.seat_item.ensures.room_next
          c.seat_item.ensures.room_taken,
      omega (arith, c.loop-item.invariant.1, c.seat_item.ensures.room_next),
      omega (arith, c.loop-item.invariant.2, c.seat_item.ensures.room_taken),
    )
