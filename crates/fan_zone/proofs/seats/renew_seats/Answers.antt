use Rattle.std.proofs.Common.{◌≡◌, ◌++◌, ◌∙◌, sym, ap, arith, length, List, ℕ}
use Rattle.std.specs.List.{count_by}
use Rattle.fan_zone.specs.declared.held.Held.{Held}
use Rattle.fan_zone.specs.Live.{controls, items_of}
use Rattle.fan_zone.specs.Seats.{is_new}
use Rattle.fan_zone.specs.Sets.{kept_numbers}
use Rattle.fan_zone.proofs.Keeping.{kept_or_new}
use Rattle.fan_zone.proofs.seats.renew_seats.Goals as goal

pub seat_live-requires-clause-taken : goal.seat_live-requires-clause-taken
seat_live-requires-clause-taken g c =
    let old = c.deref.result.now in
    let cs = controls (items_of c.args.live.now) in
    let e : c.keep_all.new.taken.items ≡ kept_numbers old cs = c.keep_all.ensures.items
    ∙ ap (λ (l : List ℕ). l ++ kept_numbers old cs) c.requires.taken_empty in
    let same = ap (λ (held : List Held). count_by (is_new held) cs) (c.deref-4.ensures.value ∙ sym c.deref.ensures.value) in
    omega (arith, same, ap length e, kept_or_new old cs, c.requires.taken_room, c.keep_all.ensures.room)
