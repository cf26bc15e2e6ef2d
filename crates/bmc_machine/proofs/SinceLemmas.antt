-- What an item has come to since it became live last, one step on.
use Rattle.std.proofs.Common.{◌≡◌, List, [], ◌∷◌, Bool, true, false, cond, None, refl, ap, ap₂, ◌∙◌}
use Rattle.ctl_face.specs.Steps.{blank}
use Rattle.ctl_face.specs.declared.state.CtlState.{CtlState}
use Rattle.cfg_json.specs.declared.item.ItemId.{ItemId}
use Rattle.fan_zone.specs.declared.rows.ZoneRow.{ZoneRow}
use Rattle.fan_zone.specs.declared.rows.FanRow.{FanRow}
use Rattle.fan_zone.specs.Live.{LiveControl, LiveZone, LiveFan}
use Rattle.bmc_machine.specs.Histories.{Step, is_tick}
use Rattle.bmc_machine.specs.Indexes.{live_now}
use Rattle.bmc_machine.specs.Lives.{has_id}
use Rattle.bmc_machine.specs.Turns.{turned, since, is_thermal, age_of, thermal_state, fan_state, state_now, zone_now, fan_now}

pub since_next : {A : Type 0} (start : A) (turn : List Step → A → A) (id : ItemId) (step : Step) (past : List Step)
    → since start turn id (step ∷ past) ≡ cond (has_id (live_now past) id) (turned turn past step (since start turn id past)) start
unfolding since
since_next start turn id step past = refl

module _ {A : Type 0} (start : A) (turn : List Step → A → A) (id : ItemId) (step : Step) (past : List Step) where
  -- where it was live before the step, the step is in its run
  pub since_live : has_id (live_now past) id ≡ true → since start turn id (step ∷ past) ≡ turned turn past step (since start turn id past)
  since_live lived =
      since_next start turn id step past ∙ ap (λ (b : Bool). cond b (turned turn past step (since start turn id past)) start) lived

  -- where it was not, its run begins
  pub since_new : has_id (live_now past) id ≡ false → since start turn id (step ∷ past) ≡ start
  since_new absent =
      since_next start turn id step past ∙ ap (λ (b : Bool). cond b (turned turn past step (since start turn id past)) start) absent

  -- between ticks it waits
  pub since_waits : is_tick step ≡ false → has_id (live_now past) id ≡ true → since start turn id (step ∷ past) ≡ since start turn id past
  since_waits still lived =
      since_live lived ∙ ap (λ (b : Bool). cond b (turn past (since start turn id past)) (since start turn id past)) still

-- what holds at the start and stays with each turn holds always
pub since_has : {A : Type 0} (P : A → Type 0) (start : A) (turn : List Step → A → A) (id : ItemId) → P start
    → ((before : List Step) (value : A) → P value → P (turn before value)) → (past : List Step) → P (since start turn id past)
unfolding since
since_has P start turn id here next [] = here
since_has P start turn id here next (step ∷ past) =
    by (has_id (live_now past) id) (is_tick step) (since_has P start turn id here next past)
  where
    by : (lived ticks : Bool) → P (since start turn id past)
        → P (cond lived (cond ticks (turn past (since start turn id past)) (since start turn id past)) start)
    by true true rest = next past (since start turn id past) rest
    by true false rest = rest
    by false ticks rest = here

-- ---- zones and fans have their names

pub zone_name : (past : List Step) (zone : LiveZone) → (zone_now past zone).name ≡ zone.name
zone_name past zone = since_has (λ (row : ZoneRow). row.name ≡ zone.name) _ _ zone.id refl (λ before row is. refl) past

pub fan_name : (past : List Step) (fan : LiveFan) → (fan_now past fan).name ≡ fan.name
fan_name past fan = since_has (λ (row : FanRow). row.name ≡ fan.name) _ _ fan.id refl (λ before row is. refl) past

-- ---- at a step that is no tick

module _ (step : Step) (past : List Step) (still : is_tick step ≡ false) where
  pub age_waits : (id : ItemId) → has_id (live_now past) id ≡ true → age_of id (step ∷ past) ≡ age_of id past
  age_waits id lived = since_waits _ _ id step past still lived

  pub thermal_state_waits : (control : LiveControl) → has_id (live_now past) control.id ≡ true
      → thermal_state control (step ∷ past) ≡ thermal_state control past
  thermal_state_waits control lived = since_waits _ _ control.id step past still lived

  pub fan_state_waits : (control : LiveControl) → has_id (live_now past) control.id ≡ true → fan_state control (step ∷ past) ≡ fan_state control past
  fan_state_waits control lived = since_waits _ _ control.id step past still lived

  pub state_waits : (control : LiveControl) → has_id (live_now past) control.id ≡ true → state_now control (step ∷ past) ≡ state_now control past
  state_waits control lived =
      ap₂ (λ (thermal fan : CtlState). cond (is_thermal control) thermal fan) (thermal_state_waits control lived) (fan_state_waits control lived)

  pub zone_waits : (zone : LiveZone) → has_id (live_now past) zone.id ≡ true → zone_now (step ∷ past) zone ≡ zone_now past zone
  zone_waits zone lived = since_waits _ _ zone.id step past still lived

  pub fan_waits : (fan : LiveFan) → has_id (live_now past) fan.id ≡ true → fan_now (step ∷ past) fan ≡ fan_now past fan
  fan_waits fan lived = since_waits _ _ fan.id step past still lived

-- ---- what became live with a step

module _ (step : Step) (past : List Step) where
  pub age_new : (id : ItemId) → has_id (live_now past) id ≡ false → age_of id (step ∷ past) ≡ 0
  age_new id absent = since_new _ _ id step past absent

  pub thermal_state_new : (control : LiveControl) → has_id (live_now past) control.id ≡ false → thermal_state control (step ∷ past) ≡ blank
  thermal_state_new control absent = since_new _ _ control.id step past absent

  pub fan_state_new : (control : LiveControl) → has_id (live_now past) control.id ≡ false → fan_state control (step ∷ past) ≡ blank
  fan_state_new control absent = since_new _ _ control.id step past absent

  pub state_new : (control : LiveControl) → has_id (live_now past) control.id ≡ false → state_now control (step ∷ past) ≡ blank
  state_new control absent =
      ap₂ (λ (thermal fan : CtlState). cond (is_thermal control) thermal fan) (thermal_state_new control absent) (fan_state_new control absent)
      ∙ one (is_thermal control)
    where
      one : (thermal : Bool) → cond thermal blank blank ≡ blank
      one true = refl
      one false = refl

  pub zone_new : (zone : LiveZone) → has_id (live_now past) zone.id ≡ false
      → zone_now (step ∷ past) zone ≡ record { name = zone.name; failsafe = false; setpoint = None }
  zone_new zone absent = since_new _ _ zone.id step past absent

  pub fan_new : (fan : LiveFan) → has_id (live_now past) fan.id ≡ false → fan_now (step ∷ past) fan ≡ record { name = fan.name; duty = None }
  fan_new fan absent = since_new _ _ fan.id step past absent
