use Rattle.std.proofs.Common.{◌≡◌, ◌∙◌, get_or, Some, option_map, sym, ap}
use Rattle.fan_zone.specs.declared.held.Held.{Held}
use Rattle.fan_zone.specs.Live.{id_eq}
use Rattle.fan_zone.specs.Sets.{seat_of}
use Rattle.fan_zone.proofs.FindRows.{find_held_at}
use Rattle.fan_zone.proofs.resolve.kept_seat.Goals as goal

pub returns-then-same_id : goal.returns-then-same_id
returns-then-same_id c =
    let old = c.args.old.now in
    let held : Held = c.index-old-at.result in
    let there : get_or old c.args.cursor.now held ≡ held = sym c.index-old-at.is in
    let same = ap (λ (one : Held). id_eq one.id c.args.id.now) there ∙ sym c.same_id.ensures ∙ c.if-same_id.true in
    let found = find_held_at c.args.id.now old c.args.cursor.now held c.requires c.if-at-old.true same in
    ap Some c.seat_of.ensures ∙ sym (ap (option_map seat_of) (found ∙ ap Some there))
