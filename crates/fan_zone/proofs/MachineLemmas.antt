-- The machine of the tests: what `set` asks for.
use Rattle.std.proofs.Common.{◌≡◌, ℕ, ◌+◌, ◌≤◌, ℤ, pos, Bool, true, false, cond, List, [], ◌∷◌, length, map, Option, refl, ap, sym, ◌∙◌, subst, arith}
use Rattle.std.proofs.lemmas.Bool.{true≢false}
use Rattle.std.proofs.lemmas.Int.{ints}
use Rattle.std.proofs.lemmas.Map.Keys.{IsDistinct-cons}
use Rattle.std.specs.List.{All, AllByRecursion, IsDistinct, count_by}
use Rattle.sensor_core.specs.Sensors.{Sensor}
use Rattle.ctl_face.specs.declared.kind.Kind.{Kind}
use Rattle.ctl_face.specs.declared.kind.Kind.TheVariants.{Pid as PidKind, Stepwise as StepKind}
use Rattle.ctl_face.specs.declared.setting.PidClass.{PidClass}
use Rattle.ctl_face.specs.declared.setting.PidClass.TheVariants.{Fan, Temp, Margin}
use Rattle.ctl_face.specs.Kinds.{kind_eq}
use Rattle.ctl_face.specs.Ranges.{IsMicro, IsMilli, IsValid, IsValidRow}
use Rattle.cfg_json.specs.Configs.{IsValidZone}
use Rattle.cfg_json.specs.declared.item.Item.{Item}
use Rattle.cfg_json.specs.declared.item.ItemId.{ItemId}
use Rattle.fan_zone.specs.Boxes.{kinds_of}
use Rattle.live_sensors.specs.Sensors.{LiveSensors}
use Rattle.fan_zone.specs.IsSets.{IsSet}
use Rattle.fan_zone.specs.IsTicks.{StepsOwnBoxes}
use Rattle.fan_zone.specs.Laws.{AreLoaded, KeepsSetting}
use Rattle.fan_zone.specs.Live.{LiveControl, LiveZone, controls, fan_id, fans, id_eq, id_of, zone_id, zones}
use Rattle.fan_zone.specs.Sound.{HaveOwnIds}
use Rattle.fan_zone.specs.Machine.{boxes, machine, pid_of, stairs, fan_pid, temp_pid, margin_pid, row_of, Stays}
use Rattle.fan_zone.specs.Seats.{IsValidControl, is_control_of}
use Rattle.fan_zone.specs.Settings.{CanSet, HasSameSetting, HasZone}
use Rattle.fan_zone.specs.Ticks.{ZonesView, no_zones, ticked}
use Rattle.fan_zone.proofs.Numbered.{all_cons}
use Rattle.fan_zone.proofs.Pigeons.{count_cons}
use Rattle.fan_zone.proofs.SettingsLaw.{settings_stay}

none : {A : Type 0} (P : A → Type 0) → All P []
none P k d lt = absurd (omega arith)

all2 : {A : Type 0} (P : A → Type 0) (a b : A) → P a → P b → All P (a ∷ b ∷ [])
all2 P a b x y = all_cons P a (b ∷ []) x (all_cons P b [] y (none P))

all5 : {A : Type 0} (P : A → Type 0) (a b c d e : A) → P a → P b → P c → P d → P e → All P (a ∷ b ∷ c ∷ d ∷ e ∷ [])
all5 P a b c d e u v x y z =
    all_cons P a (b ∷ c ∷ d ∷ e ∷ []) u (all_cons P b (c ∷ d ∷ e ∷ []) v (all_cons P c (d ∷ e ∷ []) x (all2 P d e y z)))

-- a count that computes
abbrev counted : {A : Type 0} → (A → Bool) → List A → ℕ
counted p [] = 0
counted p (x ∷ xs) = cond (p x) 1 0 + counted p xs

counts : {A : Type 0} (p : A → Bool) (xs : List A) → count_by p xs ≡ counted p xs
counts p [] = refl
counts p (x ∷ xs) = count_cons p x xs ∙ ap (λ n. cond (p x) 1 0 + n) (counts p xs)

-- the settings are valid
pid_valid : (class : PidClass) (setpoint p ff_gain : ℤ) → IsMilli setpoint → IsMicro p → IsMicro ff_gain → IsValid (pid_of class setpoint p ff_gain)
pid_valid class setpoint p ff_gain small_setpoint small_p small_gain = record {
  setpoint = small_setpoint;
  p = small_p;
  i = (omega (arith, ints), omega (arith, ints));
  d = (omega (arith, ints), omega (arith, ints));
  ff_gain = small_gain;
  ff_off = (omega (arith, ints), omega (arith, ints));
  i_min = (omega (arith, ints), omega (arith, ints));
  i_max = (omega (arith, ints), omega (arith, ints));
  out_min = (omega (arith, ints), omega (arith, ints));
  out_max = (omega (arith, ints), omega (arith, ints));
  slew_neg = (omega (arith, ints), omega (arith, ints));
  slew_pos = (omega (arith, ints), omega (arith, ints));
  integrals = omega (arith, ints);
  outputs = omega (arith, ints);
  percent = λ fan. (omega (arith, ints), omega (arith, ints));
}

fan_valid : IsValid fan_pid
fan_valid = pid_valid Fan _ _ _ (omega (arith, ints), omega (arith, ints)) (omega (arith, ints), omega (arith, ints)) (omega (arith, ints), omega (arith, ints))

temp_valid : IsValid temp_pid
temp_valid = pid_valid Temp _ _ _ (omega (arith, ints), omega (arith, ints)) (omega (arith, ints), omega (arith, ints))
    (omega (arith, ints), omega (arith, ints))

margin_valid : IsValid margin_pid
margin_valid = pid_valid Margin _ _ _ (omega (arith, ints), omega (arith, ints)) (omega (arith, ints), omega (arith, ints))
    (omega (arith, ints), omega (arith, ints))

stairs_valid : IsValid stairs
stairs_valid = record {
  some_rows = omega arith;
  few_rows = omega arith;
  rows = all2 IsValidRow (row_of (pos 20000) (pos 10000)) (row_of (pos 40000) (pos 50000))
      ((omega (arith, ints), omega (arith, ints)), (omega (arith, ints), omega (arith, ints)))
      ((omega (arith, ints), omega (arith, ints)), (omega (arith, ints), omega (arith, ints)));
  positive = (omega (arith, ints), omega (arith, ints));
  negative = (omega (arith, ints), omega (arith, ints));
}

-- there are as many controllers of each kind as boxes
room : (first : ℕ) (kind : Kind) → count_by (is_control_of kind) (controls (machine first)) ≤ count_by (λ (each : Kind). kind_eq each kind) (kinds_of boxes)
room first PidKind =
    let controls_are : count_by (is_control_of PidKind) (controls (machine first)) ≡ 4 = counts (is_control_of PidKind) (controls (machine first)) in
    let boxes_are : count_by (λ (each : Kind). kind_eq each PidKind) (kinds_of boxes) ≡ 4 = counts (λ (each : Kind). kind_eq each PidKind) (kinds_of boxes) in
    omega (arith, controls_are, boxes_are)
room first StepKind =
    let controls_are : count_by (is_control_of StepKind) (controls (machine first)) ≡ 1 = counts (is_control_of StepKind) (controls (machine first)) in
    let boxes_are : count_by (λ (each : Kind). kind_eq each StepKind) (kinds_of boxes) ≡ 1 = counts (λ (each : Kind). kind_eq each StepKind) (kinds_of boxes) in
    omega (arith, controls_are, boxes_are)

-- what `set` asks for, where controllers have ids of their own, and those that were there have their settings
can_set : (first : ℕ) (view : ZonesView) → kinds_of view.bank ≡ kinds_of boxes → HaveOwnIds id_of (controls (machine first))
    → HaveOwnIds zone_id (zones (machine first)) → HaveOwnIds fan_id (fans (machine first))
    → All (HasSameSetting view) (controls (machine first)) → CanSet view (machine first)
can_set first view kinds ids zone_ids fan_ids same = record {
  few = subst (λ (each : List Kind). 5 ≤ length each) (sym kinds) (omega arith);
  room = λ kind.
      subst (λ (each : List Kind). count_by (is_control_of kind) (controls (machine first)) ≤ count_by (λ (one : Kind). kind_eq one kind) each) (sym kinds)
      (room first kind);
  few_zones = omega arith;
  few_fans = omega arith;
  ids = ids;
  zone_ids = zone_ids;
  fan_ids = fan_ids;
  valid = all5 IsValidControl _ _ _ _ _
      (record { setting = fan_valid; inputs = omega arith })
      (record { setting = temp_valid; inputs = omega arith })
      (record { setting = stairs_valid; inputs = omega arith })
      (record { setting = margin_valid; inputs = omega arith })
      (record { setting = fan_valid; inputs = omega arith });
  settings = all2 (λ (zone : LiveZone). IsValidZone zone.setting) _ _
      (record { min_thermal = (omega (arith, ints), omega (arith, ints)); failsafe = (omega (arith, ints), omega (arith, ints)) })
      (record { min_thermal = (omega (arith, ints), omega (arith, ints)); failsafe = (omega (arith, ints), omega (arith, ints)) });
  placed = all5 (HasZone (machine first)) _ _ _ _ _ refl refl refl refl refl;
  same = same;
}

nothing : IsDistinct id_eq []
unfolding IsDistinct
nothing = tt

lone : (id : ItemId) → IsDistinct id_eq (id ∷ [])
lone id = IsDistinct-cons id_eq id [] tt nothing

first_ids : IsDistinct id_eq (map id_of (controls (machine 0)))
first_ids =
    IsDistinct-cons id_eq _ _ (refl, (refl, (refl, (refl, tt)))) (IsDistinct-cons id_eq _ _ (refl, (refl, (refl, tt)))
    (IsDistinct-cons id_eq _ _ (refl, (refl, tt)) (IsDistinct-cons id_eq _ _ (refl, tt) (lone _))))

next_ids : IsDistinct id_eq (map id_of (controls (machine 100)))
next_ids =
    IsDistinct-cons id_eq _ _ (refl, (refl, (refl, (refl, tt)))) (IsDistinct-cons id_eq _ _ (refl, (refl, (refl, tt)))
    (IsDistinct-cons id_eq _ _ (refl, (refl, tt)) (IsDistinct-cons id_eq _ _ (refl, tt) (lone _))))

two_ids : (one two : ItemId) → id_eq one two ≡ false → IsDistinct id_eq (one ∷ two ∷ [])
two_ids one two differ = IsDistinct-cons id_eq one (two ∷ []) (differ, tt) (lone two)

first_zone_ids : HaveOwnIds zone_id (zones (machine 0))
first_zone_ids = two_ids _ _ refl

next_zone_ids : HaveOwnIds zone_id (zones (machine 100))
next_zone_ids = two_ids _ _ refl

first_fan_ids : HaveOwnIds fan_id (fans (machine 0))
first_fan_ids = IsDistinct-cons id_eq _ _ (refl, (refl, tt)) (two_ids _ _ refl)

next_fan_ids : HaveOwnIds fan_id (fans (machine 100))
next_fan_ids = IsDistinct-cons id_eq _ _ (refl, (refl, tt)) (two_ids _ _ refl)

pub can_set_first : CanSet (no_zones boxes) (machine 0)
can_set_first =
    can_set 0 (no_zones boxes) refl first_ids first_zone_ids first_fan_ids
    (all5 (HasSameSetting (no_zones boxes)) _ _ _ _ _ (λ held e. absurd (cc)) (λ held e. absurd (cc)) (λ held e. absurd (cc)) (λ held e. absurd (cc))
    (λ held e. absurd (cc)))

-- controllers whose ids are new have no other setting than before
new_one : (control : LiveControl) (olds : List LiveControl) → AllByRecursion (λ (old : LiveControl). id_eq old.id control.id ≡ false) olds
    → KeepsSetting olds control
new_one control [] all = none (λ (old : LiveControl). id_eq old.id control.id ≡ true → old.item.setting ≡ control.item.setting)
new_one control (old ∷ olds) (one, more) =
    all_cons (λ (old : LiveControl). id_eq old.id control.id ≡ true → old.item.setting ≡ control.item.setting) old olds
    (λ same. absurd (true≢false (sym same ∙ one))) (new_one control olds more)

new_all : (olds cs : List LiveControl) → AllByRecursion (λ (c : LiveControl). AllByRecursion (λ (old : LiveControl). id_eq old.id c.id ≡ false) olds) cs
    → All (KeepsSetting olds) cs
new_all olds [] all = none (KeepsSetting olds)
new_all olds (c ∷ cs) (one, more) = all_cons (KeepsSetting olds) c cs (new_one c olds one) (new_all olds cs more)

all_new : All (KeepsSetting (controls (machine 0))) (controls (machine 100))
all_new =
    new_all (controls (machine 0)) (controls (machine 100)) (
      (refl, (refl, (refl, (refl, (refl, tt))))),
      (
        (refl, (refl, (refl, (refl, (refl, tt))))),
        (
          (refl, (refl, (refl, (refl, (refl, tt))))),
          ((refl, (refl, (refl, (refl, (refl, tt))))), ((refl, (refl, (refl, (refl, (refl, tt))))), tt)),
        ),
      ),
    )

pub can_set_next : (view : ZonesView) → Stays (machine 0) view → CanSet view (machine 100)
can_set_next view s =
    can_set 100 view s.kinds next_ids next_zone_ids next_fan_ids (settings_stay.next view (machine 0) (machine 100) s.loaded all_new)

-- the controllers of the first machine keep their settings
every : {A : Type 0} (P : A → Type 0) (xs : List A) → AllByRecursion P xs → All P xs
every P [] all = none P
every P (x ∷ xs) (one, more) = all_cons P x xs one (every P xs more)

kept_all : (olds cs : List LiveControl)
    → AllByRecursion (λ (c : LiveControl). AllByRecursion (λ (old : LiveControl). id_eq old.id c.id ≡ true → old.item.setting ≡ c.item.setting) olds) cs
    → All (KeepsSetting olds) cs
kept_all olds [] all = none (KeepsSetting olds)
kept_all olds (c ∷ cs) (one, more) =
    all_cons (KeepsSetting olds) c cs (every (λ (old : LiveControl). id_eq old.id c.id ≡ true → old.item.setting ≡ c.item.setting) olds one)
    (kept_all olds cs more)

other : {A : Type 0} → false ≡ true → A
other same = absurd (true≢false (sym same))

all_kept : All (KeepsSetting (controls (machine 0))) (controls (machine 0))
all_kept =
    kept_all (controls (machine 0)) (controls (machine 0)) (
      ((λ same. refl), (other, (other, (other, (other, tt))))),
      (
        (other, ((λ same. refl), (other, (other, (other, tt))))),
        (
          (other, (other, ((λ same. refl), (other, (other, tt))))),
          ((other, (other, (other, ((λ same. refl), (other, tt))))), ((other, (other, (other, (other, ((λ same. refl), tt))))), tt)),
        ),
      ),
    )

pub can_set_again : (view : ZonesView) → Stays (machine 0) view → CanSet view (machine 0)
can_set_again view s =
    can_set 0 view s.kinds first_ids first_zone_ids first_fan_ids (settings_stay.next view (machine 0) (machine 0) s.loaded all_kept)

pub stays_again : (view new : ZonesView) (sensors : LiveSensors) → Stays (machine 0) view → IsSet view (machine 0) sensors new → Stays (machine 0) new
stays_again view new sensors s is = record {
  loaded = settings_stay.by_set view new (machine 0) sensors is (can_set_again view s).same;
  kinds = is.kinds ∙ s.kinds;
}

pub stays_set : (view : ZonesView) (sensors : LiveSensors) → IsSet (no_zones boxes) (machine 0) sensors view → Stays (machine 0) view
stays_set view sensors is = record {
  loaded = settings_stay.by_set (no_zones boxes) view (machine 0) sensors is can_set_first.same;
  kinds = is.kinds;
}

pub stays_tick : (live : List Item) (slots : List (Option Sensor)) (now : ℕ) (strict : Bool) (view new : ZonesView) → new ≡ ticked slots now strict view
    → StepsOwnBoxes slots now view new → Stays live view → Stays live new
stays_tick live slots now strict view new is steps s = record {
  loaded = subst (AreLoaded live) (sym is) (settings_stay.by_tick slots now strict view live s.loaded);
  kinds = steps.kinds ∙ s.kinds;
}
