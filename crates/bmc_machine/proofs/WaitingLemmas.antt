-- Steps that are no ticks. One that leaves the live items that act in zones, and the slots of their inputs, leaves zones, controllers and fans as they
-- are; and no step but a tick changes what zones and fans show.
use Rattle.std.proofs.Common.{◌≡◌, ℕ, ◌%◌, bytes_eq, List, [], ◌∷◌, ◌++◌, map, filter, Bool, true, false, cond}
use Rattle.std.proofs.Common.{Option, Some, None, unwrap_or, refl, sym, ap, ap₂}
use Rattle.std.proofs.Common.{◌∙◌, subst, flat_map}
use Rattle.std.specs.Map.{lookup}
use Rattle.std.specs.List.{AllByRecursion}
use Rattle.std.proofs.Math.Bool.{beq}
use Rattle.std.proofs.lemmas.Cmp.{int_eq_equiv}
use Rattle.bmc_base.specs.declared.milli.Milli.{Milli}
use Rattle.bmc_report.specs.declared.change.Change.{Change}
use Rattle.bmc_report.specs.declared.change.Change.TheVariants.{Zone, Duty}
use Rattle.ctl_face.specs.Kinds.{kind_of}
use Rattle.ctl_face.specs.declared.state.CtlState.{CtlState}
use Rattle.cfg_json.specs.declared.item.Item.{Item}
use Rattle.live_sensors.specs.Sensors.{LiveSensors, slot_of}
use Rattle.fan_zone.specs.declared.held.Held.{Held}
use Rattle.fan_zone.specs.declared.rows.ZoneRow.{ZoneRow}
use Rattle.fan_zone.specs.declared.rows.FanRow.{FanRow}
use Rattle.fan_zone.specs.IsSets.{Paired}
use Rattle.fan_zone.specs.Live.{LiveControl, LiveZone, LiveFan, acts, controls, zones, fans}
use Rattle.fan_zone.specs.Sets.{held_of, role_of, seat_of, zone_of}
use Rattle.fan_zone.specs.SetRows.{fan_plan_of, plan_of}
use Rattle.fan_zone.specs.Ticks.{ZonesView}
use Rattle.bmc_machine.specs.Histories.{Step, is_idle_step, is_tick}
use Rattle.bmc_machine.specs.Indexes.{live_now}
use Rattle.bmc_machine.specs.Lives.{has_id}
use Rattle.bmc_machine.specs.Turns.{zone_now, fan_now}
use Rattle.bmc_machine.specs.Zones.{Holds, ZonesStand}
use Rattle.bmc_machine.specs.Changes.{mode_change, changes_of_zone, duty_change, changes_of_fan, changes_of_zones}
use Rattle.fan_zone.proofs.ActsLemmas.{controls_acting, fans_acting, zones_acting}
use Rattle.inventory.proofs.ListLemmas.{all_any, all_weaker}
use Rattle.bmc_machine.proofs.FoundLemmas.{controls_have_ids, zones_have_ids, fans_have_ids}
use Rattle.bmc_machine.proofs.IdleLemmas.{live_same}
use Rattle.bmc_machine.proofs.NameLemmas.{all_both}
use Rattle.bmc_machine.proofs.SinceLemmas.{age_waits, state_waits, zone_waits, fan_waits}

-- ---- lists

pub map_alike : {X Y : Type 0} (image other : X → Y) (xs : List X) → AllByRecursion (λ (x : X). image x ≡ other x) xs → map image xs ≡ map other xs
map_alike image other [] alike = refl
map_alike {X} {Y} image other (x ∷ xs) alike = ap₂ (λ (y : Y) (ys : List Y). y ∷ ys) alike.0 (map_alike image other xs alike.1)

-- what holds of pairs whose first has a fact
pub paired_with : {A B : Type 0} (Fact : A → Type 0) (R S : A → B → Type 0) (xs : List A) (ys : List B)
    → ((x : A) (y : B) → Fact x → R x y → S x y) → AllByRecursion Fact xs → Paired R xs ys → Paired S xs ys
paired_with Fact R S [] [] next facts paired = tt
paired_with Fact R S [] (y ∷ ys) next facts paired = paired
paired_with Fact R S (x ∷ xs) [] next facts paired = paired
paired_with Fact R S (x ∷ xs) (y ∷ ys) next facts paired =
    (next x y facts.0 paired.0, paired_with Fact R S xs ys next facts.1 paired.1)

-- ---- a step that leaves what acts in zones

-- the inputs of a controller have the slots that they had
abbrev pub KeepsInputs : LiveSensors → LiveSensors → LiveControl → Type 0
KeepsInputs sensors now control = map (slot_of sensors) control.item.inputs ≡ map (slot_of now) control.item.inputs

module _ (view : ZonesView) (sensors sensors_now : LiveSensors) (step : Step) (past : List Step) (still : is_tick step ≡ false) where
  -- a controller that is held reads its sensors by the same slots
  same_names : (control : LiveControl) (held : Held) → KeepsInputs sensors sensors_now control
      → held_of view.zone_rows sensors control (seat_of held) ≡ held_of view.zone_rows sensors_now control (seat_of held)
  same_names control held keeps =
      ap (λ (inputs : List (Option ℕ)). record {
        id = control.id;
        role = role_of control.item.setting;
        zone = unwrap_or (zone_of view.zone_rows control.item.zone) 0;
        inputs = inputs;
        number = held.number;
        age = held.age;
      }) keeps

  holds_on : (control : LiveControl) (held : Held) → KeepsInputs sensors sensors_now control × (has_id (live_now past) control.id ≡ true)
      → Holds view.zone_rows sensors view.bank past control held → Holds view.zone_rows sensors_now view.bank (step ∷ past) control held
  holds_on control held (keeps, lived) holds = record {
    names = holds.names ∙ same_names control held keeps;
    age = holds.age ∙ ap (λ (age : ℕ). age % 10) (sym (age_waits step past still control.id lived));
    box =
        holds.box
        ∙ ap (λ (state : CtlState). record { kind = kind_of control.item.setting; setting = Some control.item.setting; state = state })
        (sym (state_waits step past still control lived));
  }

  stands_on : filter (λ (item : Item). acts item.part) (live_now (step ∷ past)) ≡ filter (λ (item : Item). acts item.part) (live_now past)
      → AllByRecursion (KeepsInputs sensors sensors_now) (controls (live_now past)) → ZonesStand view sensors past
      → ZonesStand view sensors_now (step ∷ past)
  stands_on kept keep stands =
      let live = live_now past in
      let then = live_now (step ∷ past) in
      let same_zones : zones live ≡ zones then = sym (zones_acting live) ∙ ap zones (sym kept) ∙ zones_acting then in
      let same_fans : fans live ≡ fans then = sym (fans_acting live) ∙ ap fans (sym kept) ∙ fans_acting then in
      let same_controls : controls live ≡ controls then = sym (controls_acting live) ∙ ap controls (sym kept) ∙ controls_acting then in
      record {
        zone_plans = stands.zone_plans ∙ ap (map plan_of) same_zones;
        zone_rows =
            stands.zone_rows
            ∙ map_alike (zone_now past) (zone_now (step ∷ past)) (zones live)
            (all_weaker _ _ (λ (zone : LiveZone) lived. sym (zone_waits step past still zone lived)) (zones live) (zones_have_ids live))
            ∙ ap (map (zone_now (step ∷ past))) same_zones;
        fan_plans =
            stands.fan_plans ∙ ap₂ (λ (controls : List LiveControl) (fans : List LiveFan). map (fan_plan_of controls) fans) same_controls same_fans;
        fan_rows =
            stands.fan_rows
            ∙ map_alike (fan_now past) (fan_now (step ∷ past)) (fans live)
            (all_weaker _ _ (λ (fan : LiveFan) lived. sym (fan_waits step past still fan lived)) (fans live) (fans_have_ids live))
            ∙ ap (map (fan_now (step ∷ past))) same_fans;
        held =
            subst (λ (controls : List LiveControl). Paired (Holds view.zone_rows sensors_now view.bank (step ∷ past)) controls view.held) same_controls
            (paired_with (λ (control : LiveControl). KeepsInputs sensors sensors_now control × (has_id live control.id ≡ true)) _ _ (controls live)
            view.held holds_on
            (all_both (KeepsInputs sensors sensors_now) (λ (control : LiveControl). has_id live control.id ≡ true) (controls live) keep
            (controls_have_ids live))
            stands.held);
        apart = stands.apart;
        others = stands.others;
      }

pub zones_stay : (view : ZonesView) (sensors sensors_now : LiveSensors) (step : Step) (past : List Step) → is_tick step ≡ false
    → filter (λ (item : Item). acts item.part) (live_now (step ∷ past)) ≡ filter (λ (item : Item). acts item.part) (live_now past)
    → AllByRecursion (KeepsInputs sensors sensors_now) (controls (live_now past)) → ZonesStand view sensors past → ZonesStand view sensors_now (step ∷ past)
zones_stay view sensors sensors_now step past still kept keep stands = stands_on view sensors sensors_now step past still kept keep stands

-- ---- an idle step

pub zones_wait : (view : ZonesView) (sensors sensors_now : LiveSensors) (step : Step) (past : List Step) → is_idle_step step ≡ true
    → is_tick step ≡ false → sensors_now.names ≡ sensors.names → ZonesStand view sensors past → ZonesStand view sensors_now (step ∷ past)
zones_wait view sensors sensors_now step past idle still names stands =
    zones_stay view sensors sensors_now step past still (ap (filter (λ (item : Item). acts item.part)) (live_same step past idle))
    (all_any (KeepsInputs sensors sensors_now)
    (λ (control : LiveControl). ap (λ (names : List (List ℕ × ℕ)). map (λ (name : List ℕ). lookup (bytes_eq name) names) control.item.inputs) (sym names))
    (controls (live_now past)))
    stands

-- ---- no change is told

same_bool : (b : Bool) → beq b b ≡ true
same_bool true = refl
same_bool false = refl

no_mode_change : (name : List ℕ) (was is : Bool) → is ≡ was → mode_change name was is ≡ []
no_mode_change name was is same =
    ap (mode_change name was) same ∙ ap (λ (alike : Bool). cond alike [] (Zone was name ∷ [])) (same_bool was)

no_duty_change : (name : List ℕ) (was is : Option Milli) → is ≡ was → duty_change name was is ≡ []
no_duty_change name was is same = ap (duty_change name was) same ∙ by was
  where
    by : (duty : Option Milli) → duty_change name duty duty ≡ []
    by None = refl
    by (Some duty) = ap (λ (alike : Bool). cond alike [] (Duty name duty ∷ [])) (int_eq_equiv.refl duty.0)

-- where nothing is told of each, nothing is told of all
none_told : {X : Type 0} (told : X → List Change) (xs : List X) → ((x : X) → told x ≡ []) → flat_map told xs ≡ []
none_told told [] none = refl
none_told told (x ∷ xs) none = ap₂ (λ (first later : List Change). first ++ later) (none x) (none_told told xs none)

module _ (past : List Step) (step : Step) (still : is_tick step ≡ false) where
  no_zone_change : (zone : LiveZone) → changes_of_zone past step zone ≡ []
  no_zone_change zone = by (has_id (live_now past) zone.id) refl
    where
      by : (lived : Bool) → has_id (live_now past) zone.id ≡ lived
          → cond lived (mode_change zone.name (zone_now past zone).failsafe (zone_now (step ∷ past) zone).failsafe) [] ≡ []
      by true lived = no_mode_change zone.name _ _ (ap (λ (row : ZoneRow). row.failsafe) (zone_waits step past still zone lived))
      by false absent = refl

  no_fan_change : (fan : LiveFan) → changes_of_fan past step fan ≡ []
  no_fan_change fan = by (has_id (live_now past) fan.id) refl
    where
      by : (lived : Bool) → has_id (live_now past) fan.id ≡ lived
          → cond lived (duty_change fan.name (fan_now past fan).duty (fan_now (step ∷ past) fan).duty) [] ≡ []
      by true lived = no_duty_change fan.name _ _ (ap (λ (row : FanRow). row.duty) (fan_waits step past still fan lived))
      by false absent = refl

  pub no_zone_changes : changes_of_zones past step ≡ []
  no_zone_changes =
      ap₂ (λ (zones_told fans_told : List Change). zones_told ++ fans_told)
      (none_told (changes_of_zone past step) (zones (live_now (step ∷ past))) no_zone_change)
      (none_told (changes_of_fan past step) (fans (live_now (step ∷ past))) no_fan_change)
