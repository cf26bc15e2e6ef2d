use Rattle.std.proofs.Common.{◌≡◌, ap, sym, ◌∙◌, subst, arith, length, map, List, []}
use Rattle.std.proofs.lemmas.Bool.{true≢false}
use Rattle.fan_zone.specs.declared.rows.ZoneRow.{ZoneRow}
use Rattle.fan_zone.specs.Ticks.{ZonesView, view_of}
use Rattle.fan_zone.specs.Live.{LiveControl, controls, fans, items_of}
use Rattle.fan_zone.specs.Sound.{IsSound}
use Rattle.fan_zone.specs.Seats.{IsRoomy}
use Rattle.fan_zone.specs.SetRows.{fan_plan_of}
use Rattle.fan_zone.specs.Sets.{cleared, kept_numbers, seating}
use Rattle.fan_zone.specs.Settings.{CanSet, set_to}
use Rattle.fan_zone.specs.IsSets.{IsSet}
use Rattle.fan_zone.proofs.SetMeaning.{set_means}
use Rattle.fan_zone.proofs.SetLaw.{roomy_start}
use Rattle.fan_zone.proofs.SetView.{Renews, set_is, length_renewed, seats_by}
use Rattle.fan_zone.proofs.NewSound.{set_sound}
use Rattle.fan_zone.proofs.zones.Zones.set.Goals as goal

pub renew_seats-requires-clause-roomy : goal.renew_seats-requires-clause-roomy
renew_seats-requires-clause-roomy g c =
    let i = c.self.inside in
    let live = items_of c.args.live.now in
    let old = view_of i.bank i.held.items i.zone_plans.items i.zone_rows.items i.fan_plans.items i.fan_rows.items in
    let taken = kept_numbers i.held.items in
    subst (λ (cs : List LiveControl). IsRoomy i.held.items (seating [] (taken cs) (cleared (taken cs) i.bank)) cs)
    (sym c.controllers_of-controllers.ensures)
    (roomy_start old live c.self.invariant.0 (subst (λ (v : ZonesView). CanSet v live) (sym c.self.view_is) c.requires))

pub invariant_of-self : goal.invariant_of-self
invariant_of-self g c =
    let i = c.self.inside in
    let live = items_of c.args.live.now in
    let sensors = c.args.sensors.now in
    let old = view_of i.bank i.held.items i.zone_plans.items i.zone_rows.items i.fan_plans.items i.fan_rows.items in
    let new = view_of c.renew_seats.new.bank c.renew_seats.new.held.items c.renew_zones.new.plans.items c.renew_zones.new.rows.items
    c.renew_fans.new.plans.items c.renew_fans.new.rows.items in
    let same = c.controllers_of-controllers.ensures in
    let seats = λ (rows : List ZoneRow) (cs : List LiveControl). seats_by rows sensors i.held.items i.bank cs in
    let controllers = controls (items_of c.controllers_of-controllers.result.now) in
    let renews : Renews live sensors old new = record {
      zone_plans = c.renew_zones.ensures.plans;
      zone_rows = c.renew_zones.ensures.rows;
      fan_plans = c.renew_fans.ensures.plans ∙ ap (λ (cs : List LiveControl). map (fan_plan_of cs) (fans live)) same;
      fan_rows = c.renew_fans.ensures.rows;
      bank = c.renew_seats.ensures.bank ∙ (ap (λ (rows : List ZoneRow). (seats rows controllers).bank) c.deref-2.ensures.value
          ∙ ap (λ (cs : List LiveControl). (seats c.renew_zones.new.rows.items cs).bank) same);
      held = c.renew_seats.ensures.held ∙ (ap (λ (rows : List ZoneRow). (seats rows controllers).held) c.deref-2.ensures.value
          ∙ ap (λ (cs : List LiveControl). (seats c.renew_zones.new.rows.items cs).held) same);
    } in
    let can = subst (λ (v : ZonesView). CanSet v live) (sym c.self.view_is) c.requires in
    let boxes : length c.renew_seats.new.bank ≡ length i.bank = ap length c.renew_seats.ensures.bank
    ∙ length_renewed c.deref-2.result.now sensors i.held.items i.bank
    (items_of c.controllers_of-controllers.result.now) in
    let held = c.self.invariant.1 in
    let taken = c.self.invariant.2 in
    let zone_plans = c.self.invariant.3 in
    let zone_rows = c.self.invariant.4 in
    let fan_plans = c.self.invariant.5 in
    let fan_rows = c.self.invariant.6 in (
      subst IsSound (sym (set_is live sensors old new renews)) (set_sound live sensors old c.self.invariant.0 can),
      record {
        empty = c.renew_seats.ensures.next_empty;
        now = omega (arith, held.next, boxes, c.renew_seats.ensures.held_room);
        next = omega (arith, held.now, boxes, c.renew_seats.ensures.next_room);
      },
      record {
        empty = c.renew_seats.ensures.taken_empty;
        now = omega (arith, taken.now, boxes, c.renew_seats.ensures.taken_room);
        next = omega (arith, taken.now, boxes, c.renew_seats.ensures.taken_room);
      },
      record {
        empty = c.renew_zones.ensures.plans_empty;
        now = omega (arith, zone_plans.next, c.renew_zones.ensures.plans_room);
        next = omega (arith, zone_plans.now, c.renew_zones.ensures.spare_plans);
      },
      record {
        empty = c.renew_zones.ensures.rows_empty;
        now = omega (arith, zone_rows.next, c.renew_zones.ensures.rows_room);
        next = omega (arith, zone_rows.now, c.renew_zones.ensures.spare_rows);
      },
      record {
        empty = c.renew_fans.ensures.plans_empty;
        now = omega (arith, fan_plans.now, c.renew_fans.ensures.plans_room);
        next = omega (arith, fan_plans.next, c.renew_fans.ensures.spare_plans);
      },
      record {
        empty = c.renew_fans.ensures.rows_empty;
        now = omega (arith, fan_rows.now, c.renew_fans.ensures.rows_room);
        next = omega (arith, fan_rows.next, c.renew_fans.ensures.spare_rows);
      },
      λ e. absurd (true≢false e),
      λ e. absurd (true≢false (sym e)),
    )

pub returns : goal.returns
returns g c =
    let i = c.self.inside in
    let live = items_of c.args.live.now in
    let sensors = c.args.sensors.now in
    let old = view_of i.bank i.held.items i.zone_plans.items i.zone_rows.items i.fan_plans.items i.fan_rows.items in
    let new = view_of c.renew_seats.new.bank c.renew_seats.new.held.items c.renew_zones.new.plans.items c.renew_zones.new.rows.items
    c.renew_fans.new.plans.items c.renew_fans.new.rows.items in
    let same = c.controllers_of-controllers.ensures in
    let seats = λ (rows : List ZoneRow) (cs : List LiveControl). seats_by rows sensors i.held.items i.bank cs in
    let controllers = controls (items_of c.controllers_of-controllers.result.now) in
    let renews : Renews live sensors old new = record {
      zone_plans = c.renew_zones.ensures.plans;
      zone_rows = c.renew_zones.ensures.rows;
      fan_plans = c.renew_fans.ensures.plans ∙ ap (λ (cs : List LiveControl). map (fan_plan_of cs) (fans live)) same;
      fan_rows = c.renew_fans.ensures.rows;
      bank = c.renew_seats.ensures.bank ∙ (ap (λ (rows : List ZoneRow). (seats rows controllers).bank) c.deref-2.ensures.value
          ∙ ap (λ (cs : List LiveControl). (seats c.renew_zones.new.rows.items cs).bank) same);
      held = c.renew_seats.ensures.held ∙ (ap (λ (rows : List ZoneRow). (seats rows controllers).held) c.deref-2.ensures.value
          ∙ ap (λ (cs : List LiveControl). (seats c.renew_zones.new.rows.items cs).held) same);
    } in
    let exact = set_is live sensors old new renews ∙ ap (set_to live sensors) c.self.view_is in
    let can = subst (λ (v : ZonesView). CanSet v live) (sym c.self.view_is) c.requires in
    let means : IsSet old live sensors new = subst (IsSet old live sensors) (sym (set_is live sensors old new renews))
    (set_means live sensors old c.self.invariant.0 can) in
    record { means = subst (λ (v : ZonesView). IsSet v live sensors new) c.self.view_is means; exact = exact }
