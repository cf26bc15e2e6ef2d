use Rattle.std.proofs.Common.{◌≤◌}
use Rattle.std.specs.Vec.{vec_capacity}
use Rattle.fan_zone.proofs.SeatLoop.{Seats}
use Rattle.fan_zone.proofs.seats.seat_live.Given as goal

abbrev pub invariant-loop-item : goal.invariant-loop-item
invariant-loop-item g l =
    Seats l.rows l.sensors l.old l.live (record { held = l.fn.next.items; taken = l.fn.taken.items; bank = l.fn.bank })
    (record { held = l.next.items; taken = l.taken.items; bank = l.bank }) (vec_capacity l.next) (vec_capacity l.taken) l.item-index
    × (vec_capacity l.fn.next ≤ vec_capacity l.next)
    × (vec_capacity l.fn.taken ≤ vec_capacity l.taken)
