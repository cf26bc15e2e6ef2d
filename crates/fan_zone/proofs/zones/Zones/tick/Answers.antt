use Rattle.std.proofs.Common.{arith, false, not, ◌&&◌, ◌≡◌, ap, sym, ◌∙◌, subst, List, length, map}
use Rattle.std.specs.Vec.{with_items}
use Rattle.std.proofs.lemmas.Bool.{and_parts, not-true}
use Rattle.std.proofs.lemmas.List.{with_items_is}
use Rattle.fan_zone.specs.Ticks.{ZonesView, ticked, aged, view_of}
use Rattle.fan_zone.specs.Failsafe.{IsFailsafe}
use Rattle.fan_zone.specs.Sound.{AreSpare, IsSound, AreSeated, number_of, IsTyped, HasSmallSetpoint, AreSmallRows}
use Rattle.fan_zone.specs.declared.rows.ZonePlan.{ZonePlan}
use Rattle.fan_zone.specs.declared.rows.ZoneRow.{ZoneRow}
use Rattle.fan_zone.specs.declared.held.Held.{Held}
use Rattle.fan_zone.specs.IsTicks.{StepsOwnBoxes}
use Rattle.fan_zone.proofs.OwnBoxes.{spare_pass, ticked_own}
use Rattle.fan_zone.proofs.TickLaw.{Calls, calls_tick}
use Rattle.fan_zone.proofs.SoundLaw.{sound_aged, typed_pass, length-pass}
use Rattle.std.specs.List.{All}
use Rattle.ctl_face.specs.Seen.{Seen}
use Rattle.fan_zone.specs.Passes.{pass, thermal_sample, fan_sample}
use Rattle.fan_zone.specs.Rows.{numbered, zone_row}
use Rattle.fan_zone.specs.Steady.{AreShown, has_bad_input_now, is_due, steady_row}
use Rattle.fan_zone.proofs.SteadyLemmas.{rows_steady, steady_after, steady_twice, shown_when_steady, none_due}
use Rattle.fan_zone.proofs.FailsafeLaw.{ticked_failsafe}
use Rattle.fan_zone.proofs.zones.Zones.tick.Goals as goal

pub returns : goal.returns
returns g c =
    let i = c.self.inside in
    let slots = c.args.sensors.now.slots in
    let now = c.args.now in
    let strict = c.args.strict in
    let old : ZonesView = record {
      bank = i.bank;
      held = i.held.items;
      zone_plans = i.zone_plans.items;
      zone_rows = i.zone_rows.items;
      fan_plans =
          i.fan_plans.items;
      fan_rows = i.fan_rows.items;
    } in
    let rows_is : (with_items i.zone_rows c.show_zones.new.rows).items ≡ c.show_zones.new.rows =
    with_items_is i.zone_rows c.show_zones.new.rows (c.show_zones.auto.rows ∙ c.deref_mut.ensures.len) in
    let fans_is : (with_items i.fan_rows c.show_fans.new.fans).items ≡ c.show_fans.new.fans =
    with_items_is i.fan_rows c.show_fans.new.fans (c.show_fans.auto.fans ∙ c.deref_mut-2.ensures.len) in
    let held_is : (with_items i.held c.grow_ages.new.held).items ≡ c.grow_ages.new.held =
    with_items_is i.held c.grow_ages.new.held (c.grow_ages.auto.held ∙ c.deref_mut-3.ensures.len) in
    let calls : Calls slots now strict old c.step_thermals.new.bank (with_items i.zone_rows c.show_zones.new.rows).items c.step_fans.new.bank
    (with_items i.fan_rows c.show_fans.new.fans).items (with_items i.held c.grow_ages.new.held).items =
    record {
      thermals = cc (c.step_thermals.ensures.state, c.deref.ensures.value);
      zones = cc (rows_is, c.show_zones.ensures.rows, c.deref-2.ensures.value, c.deref-3.ensures.value, c.deref_mut.ensures.value);
      fans_step = cc (c.step_fans.ensures.state, c.deref-4.ensures.value, c.deref-5.ensures.value);
      fans_shown = cc (
        fans_is,
        c.show_fans.ensures,
        c.deref-6.ensures.value,
        c.deref-7.ensures.value,
        c.deref-8.ensures.value,
        c.deref-9.ensures.value,
        c.deref_mut-2.ensures.value,
      );
      ages = cc (held_is, c.grow_ages.ensures, c.deref_mut-3.ensures.value);
    } in
    let new : ZonesView = record {
      bank = c.step_fans.new.bank;
      held = (with_items i.held c.grow_ages.new.held).items;
      zone_plans =
          i.zone_plans.items;
      zone_rows = (with_items i.zone_rows c.show_zones.new.rows).items;
      fan_plans = i.fan_plans.items;
      fan_rows =
          (with_items i.fan_rows c.show_fans.new.fans).items;
    } in
    let is = calls_tick slots now strict old _ _ _ _ _ calls in
    record {
      ticked = is ∙ ap (ticked slots now strict) c.self.view_is;
      failsafe = subst (IsFailsafe slots now strict) (sym is) (ticked_failsafe slots now strict old c.self.invariant.0.zones c.self.invariant.0.fans);
      steps = subst (λ (v : ZonesView). StepsOwnBoxes slots now v new) c.self.view_is
          (subst (StepsOwnBoxes slots now old) (sym is) (ticked_own slots now strict old c.self.invariant.0));
    }

pub invariant_of-self : goal.invariant_of-self
invariant_of-self g c =
    let i = c.self.inside in
    let old : ZonesView = record {
      bank = i.bank;
      held = i.held.items;
      zone_plans = i.zone_plans.items;
      zone_rows = i.zone_rows.items;
      fan_plans =
          i.fan_plans.items;
      fan_rows = i.fan_rows.items;
    } in
    let rows = (with_items i.zone_rows c.show_zones.new.rows).items in
    let fans = (with_items i.fan_rows c.show_fans.new.fans).items in
    let held = (with_items i.held c.grow_ages.new.held).items in
    let rows_is : rows ≡ c.show_zones.new.rows =
    with_items_is i.zone_rows c.show_zones.new.rows (c.show_zones.auto.rows ∙ c.deref_mut.ensures.len) in
    let fans_is : fans ≡ c.show_fans.new.fans =
    with_items_is i.fan_rows c.show_fans.new.fans (c.show_fans.auto.fans ∙ c.deref_mut-2.ensures.len) in
    let held_is : held ≡ c.grow_ages.new.held =
    with_items_is i.held c.grow_ages.new.held (c.grow_ages.auto.held ∙ c.deref_mut-3.ensures.len) in
    let ages : held ≡ map aged old.held = cc (held_is, c.grow_ages.ensures, c.deref_mut-3.ensures.value) in
    let seats : AreSeated c.step_fans.new.bank old.held = subst (λ (h : List Held). AreSeated c.step_fans.new.bank h) c.deref-4.ensures.value
    c.step_fans.ensures.seats in
    let zones : length rows ≡ length old.zone_rows = ap length rows_is ∙ (c.show_zones.auto.rows ∙ ap length c.deref_mut.ensures.value) in
    let fan : length fans ≡ length old.fan_rows = ap length fans_is ∙ (c.show_fans.auto.fans ∙ ap length c.deref_mut-2.ensures.value) in
    let typed_thermal : All IsTyped c.step_thermals.new.bank = subst (λ (b : List Seen). All IsTyped b) (sym c.step_thermals.ensures.state)
    (typed_pass (thermal_sample c.args.sensors.now.slots c.args.now) c.deref.result.now i.bank c.self.invariant.0.typed) in
    let typed : All IsTyped c.step_fans.new.bank = subst (λ (b : List Seen). All IsTyped b) (sym c.step_fans.ensures.state)
    (typed_pass (fan_sample c.args.sensors.now.slots c.args.now c.deref-5.result.now) c.deref-4.result.now c.step_thermals.new.bank typed_thermal) in
    let thermal_pass : c.step_thermals.new.bank ≡ pass (thermal_sample c.args.sensors.now.slots c.args.now) old.held i.bank =
    cc (c.step_thermals.ensures.state, c.deref.ensures.value) in
    let fan_pass : c.step_fans.new.bank ≡ pass (fan_sample c.args.sensors.now.slots c.args.now c.deref-5.result.now) old.held c.step_thermals.new.bank =
    cc (c.step_fans.ensures.state, c.deref-4.ensures.value) in
    let spare_thermal : AreSpare c.step_thermals.new.bank (map number_of old.held) = subst (λ (b : List Seen). AreSpare b (map number_of old.held))
    (sym thermal_pass) (spare_pass (thermal_sample c.args.sensors.now.slots c.args.now) old.held i.bank c.self.invariant.0.spare) in
    let spare : AreSpare c.step_fans.new.bank (map number_of old.held) = subst (λ (b : List Seen). AreSpare b (map number_of old.held)) (sym fan_pass)
    (spare_pass (fan_sample c.args.sensors.now.slots c.args.now c.deref-5.result.now) old.held c.step_thermals.new.bank spare_thermal) in
    let family = λ (h : List Held). IsSound (record {
      bank = c.step_fans.new.bank;
      held = h;
      zone_plans = old.zone_plans;
      zone_rows = rows;
      fan_plans =
          old.fan_plans;
      fan_rows = fans;
    }) in
    let sound =
    subst family (sym ages) (sound_aged old c.step_fans.new.bank rows fans c.self.invariant.0 seats c.step_fans.ensures.small typed spare zones fan) in
    let boxes : length c.step_fans.new.bank ≡ length i.bank =
    ap length c.step_fans.ensures.state ∙ (length-pass (fan_sample c.args.sensors.now.slots c.args.now c.deref-5.result.now) c.deref-4.result.now
    c.step_thermals.new.bank
    ∙ (ap length c.step_thermals.ensures.state ∙ length-pass (thermal_sample c.args.sensors.now.slots c.args.now) c.deref.result.now i.bank)) in
    let next = c.self.invariant.1 in
    let taken = c.self.invariant.2 in (
      sound,
      record { empty = next.empty; now = omega (arith, next.now, boxes); next = omega (arith, next.next, boxes) },
      record { empty = taken.empty; now = omega (arith, taken.now, boxes); next = omega (arith, taken.next, boxes) },
      c.self.invariant.3,
      c.self.invariant.4,
      c.self.invariant.5,
      c.self.invariant.6,
      λ e. ap is_due (sym c.deref-10.ensures.value) ∙ (sym c.is_some_due-self-inside.ensures ∙ e),
      λ good.
          let slots = c.args.sensors.now.slots in
          let now = c.args.now in
          let thermal = c.step_thermals.new.bank in
          let bad : has_bad_input_now slots now old.held ≡ false =
          subst (λ (v : ZonesView). has_bad_input_now slots now v.held ≡ false) (sym c.self.view_is) (c.requires.good good) in
          let shown : rows ≡ numbered (zone_row slots now old.zone_plans old.held thermal) 0 old.zone_rows =
          cc (rows_is, c.show_zones.ensures.rows, c.deref-2.ensures.value, c.deref-3.ensures.value, c.deref_mut.ensures.value) in
          let seated : AreSeated thermal old.held = subst (λ (h : List Held). AreSeated thermal h) c.deref.ensures.value c.step_thermals.ensures.seats in
          let before : rows ≡ numbered (steady_row old.zone_plans old.held thermal) 0 rows = steady_twice old.zone_plans old.held thermal rows old.zone_rows
          (shown ∙ rows_steady slots now old.zone_plans old.held thermal old.zone_rows bad) in
          let after = steady_after slots now c.deref-5.result.now old.held thermal c.self.invariant.0.apart (λ k d lt. (seated k d lt).within)
          old.zone_plans rows before in
          let passed = pass (fan_sample slots now c.deref-5.result.now) old.held thermal in
          record {
            rows_are = subst (λ (b : List Seen). rows ≡ numbered (steady_row old.zone_plans held b) 0 rows) (sym fan_pass)
                (subst (λ (h : List Held). rows ≡ numbered (steady_row old.zone_plans h passed) 0 rows) (sym ages) after);
            small = subst AreSmallRows (sym rows_is) c.show_zones.ensures.small;
          },
    )

pub step_thermals-requires-clause-setpoints : goal.step_thermals-requires-clause-setpoints
step_thermals-requires-clause-setpoints g c = subst (λ (h : List Held). All HasSmallSetpoint h) (sym c.deref.ensures.value) c.self.invariant.0.setpoints

pub step_thermals-requires-clause-good : goal.step_thermals-requires-clause-good
step_thermals-requires-clause-good g c = λ good.
    let slots = c.args.sensors.now.slots in
    let now = c.args.now in
    subst (λ (held : List Held). has_bad_input_now slots now held ≡ false) (sym c.deref.ensures.value)
    (subst (λ (view : ZonesView). has_bad_input_now slots now view.held ≡ false) (sym c.self.view_is) (c.requires.good good))

pub step_fans-requires-clause-rows : goal.step_fans-requires-clause-rows
step_fans-requires-clause-rows g c =
    let rows_is : (with_items c.self.inside.zone_rows c.show_zones.new.rows).items ≡ c.show_zones.new.rows =
    with_items_is c.self.inside.zone_rows c.show_zones.new.rows (c.show_zones.auto.rows ∙ c.deref_mut.ensures.len) in
    subst (λ (r : List ZoneRow). AreSmallRows r) (sym (c.deref-5.ensures.value ∙ rows_is)) c.show_zones.ensures.small

pub step_fans-requires-clause-good : goal.step_fans-requires-clause-good
step_fans-requires-clause-good g c = λ good.
    let slots = c.args.sensors.now.slots in
    let now = c.args.now in
    subst (λ (held : List Held). has_bad_input_now slots now held ≡ false) (sym c.deref-4.ensures.value)
    (subst (λ (view : ZonesView). has_bad_input_now slots now view.held ≡ false) (sym c.self.view_is) (c.requires.good good))

pub show_zones-requires-clause-stay : goal.show_zones-requires-clause-stay
show_zones-requires-clause-stay g c e =
    let i = c.self.inside in
    let slots = c.args.sensors.now.slots in
    let now = c.args.now in
    let old = view_of i.bank i.held.items i.zone_plans.items i.zone_rows.items i.fan_plans.items i.fan_rows.items in
    let parts = and_parts (c.args.good && i.steady) (not i.due) e in
    let more = and_parts c.args.good i.steady parts.0 in
    let bad : has_bad_input_now slots now old.held ≡ false =
    subst (λ (v : ZonesView). has_bad_input_now slots now v.held ≡ false) (sym c.self.view_is) (c.requires.good more.0) in
    let none : old.bank ≡ c.step_thermals.new.bank = none_due slots now old.held old.bank (c.self.invariant.7 (not-true i.due parts.1))
    ∙ (ap (λ (h : List Held). pass (thermal_sample slots now) h old.bank) (sym c.deref.ensures.value) ∙ sym c.step_thermals.ensures.state) in
    subst (λ (rows : List ZoneRow). AreShown slots now c.deref-2.result.now c.deref-3.result.now c.step_thermals.new.bank rows) (sym c.deref_mut.ensures.value)
    (subst (λ (plans : List ZonePlan). AreShown slots now plans c.deref-3.result.now c.step_thermals.new.bank old.zone_rows) (sym c.deref-2.ensures.value)
    (subst (λ (held : List Held). AreShown slots now old.zone_plans held c.step_thermals.new.bank old.zone_rows) (sym c.deref-3.ensures.value)
    (subst (λ (bank : List Seen). AreShown slots now old.zone_plans old.held bank old.zone_rows) none
    (shown_when_steady slots now old (c.self.invariant.8 more.1) bad))))
