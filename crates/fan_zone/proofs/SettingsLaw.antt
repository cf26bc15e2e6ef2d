-- Each controller is loaded with its setting.
use Rattle.std.proofs.Common.{◌≡◌, ℕ, Bool, true, false, if◌then◌else◌, List, [], ◌∷◌, map, slice_index_or, Option, Some, None}
use Rattle.std.proofs.Common.{refl, ap, sym, ◌∙◌, arith}
use Rattle.std.proofs.lemmas.Option.{none-some, same_Some}
use Rattle.std.specs.List.{All}
use Rattle.ctl_face.specs.declared.sample.Sample.{Sample}
use Rattle.ctl_face.specs.Seen.{Seen}
use Rattle.fan_zone.specs.Boxes.{box_at}
use Rattle.fan_zone.specs.Live.{LiveControl, controls, id_eq}
use Rattle.fan_zone.specs.declared.held.Held.{Held}
use Rattle.fan_zone.specs.declared.held.Seat.{Seat}
use Rattle.fan_zone.specs.declared.rows.ZoneRow.{ZoneRow}
use Rattle.live_sensors.specs.Sensors.{LiveSensors}
use Rattle.fan_zone.specs.Passes.{pass, step_box, thermal_sample, fan_sample}
use Rattle.fan_zone.specs.Sets.{find_held, kept_seat}
use Rattle.fan_zone.specs.Settings.{HasSameSetting}
use Rattle.fan_zone.specs.IsSets.{Paired, Sits}
use Rattle.fan_zone.specs.Laws.{IsLoaded, KeepsSetting, SettingsStay}
use Rattle.fan_zone.specs.Ticks.{ZonesView, aged, thermal_bank, bank_after, zone_rows_after}
use Rattle.fan_zone.proofs.Numbered.{all_tail}
use Rattle.fan_zone.proofs.PassSteps.{setting_set}
use Rattle.fan_zone.proofs.SetLaw.{kept_found}

-- one that sits is loaded
loaded_by : (rows : List ZoneRow) (sensors : LiveSensors) (old : ZonesView) (bank : List Seen) (control : LiveControl) (held : Held) (o : Option Seat)
    → kept_seat old.held control.id ≡ o → HasSameSetting old control → Sits rows sensors old.held old.bank bank control held
    → (box_at bank held.number).setting ≡ Some control.item.setting
loaded_by rows sensors old bank control held None e same sits = ap (λ (seen : Seen). seen.setting) (sits.fresh e).1
loaded_by rows sensors old bank control held (Some seat) e same sits =
    let kept = sits.kept seat e in
    let there = kept_found (find_held control.id old.held) seat e in
    let number : held.number ≡ there.0.number = ap (λ (s : Seat). s.number) (kept.0 ∙ sym there.2) in
    ap (λ (seen : Seen). seen.setting) (kept.1 ∙ ap (box_at old.bank) number) ∙ same there.0 there.1

loaded_all : (rows : List ZoneRow) (sensors : LiveSensors) (old : ZonesView) (bank : List Seen) (cs : List LiveControl) (hs : List Held)
    → All (HasSameSetting old) cs → Paired (Sits rows sensors old.held old.bank bank) cs hs → Paired (IsLoaded bank) cs hs
loaded_all rows sensors old bank [] [] same sit = tt
loaded_all rows sensors old bank [] (h ∷ hs) same sit = sit
loaded_all rows sensors old bank (c ∷ cs) [] same sit = sit
loaded_all rows sensors old bank (c ∷ cs) (h ∷ hs) same sit = (
  record {
    id = ap (λ (one : Held). one.id) sit.0.record_is;
    setting = loaded_by rows sensors old bank c h (kept_seat old.held c.id) refl (same 0 c (omega arith)) sit.0;
  },
  loaded_all rows sensors old bank cs hs (all_tail (HasSameSetting old) c cs same) sit.1,
)

-- a pass leaves the settings of all boxes
setting_step : (bank : List Seen) (n m : ℕ) (sample : Option Sample) → (box_at (step_box bank n sample) m).setting ≡ (box_at bank m).setting
setting_step bank n m None = refl
setting_step bank n m (Some sample) = setting_set bank n m sample

setting_pass : (f : Held → Option Sample) (held : List Held) (bank : List Seen) (m : ℕ)
    → (box_at (pass f held bank) m).setting ≡ (box_at bank m).setting
setting_pass f [] bank m = refl
setting_pass f (one ∷ more) bank m = setting_pass f more (step_box bank one.number (f one)) m ∙ setting_step bank one.number m (f one)

loaded_aged : (bank next : List Seen) (cs : List LiveControl) (hs : List Held) → ((m : ℕ) → (box_at next m).setting ≡ (box_at bank m).setting)
    → Paired (IsLoaded bank) cs hs → Paired (IsLoaded next) cs (map aged hs)
loaded_aged bank next [] [] stay loaded = tt
loaded_aged bank next [] (h ∷ hs) stay loaded = loaded
loaded_aged bank next (c ∷ cs) [] stay loaded = loaded
loaded_aged bank next (c ∷ cs) (h ∷ hs) stay loaded =
    (record { id = loaded.0.id; setting = stay h.number ∙ loaded.0.setting }, loaded_aged bank next cs hs stay loaded.1)

-- one that is found has the setting of the controller with its id
found_by : (bank : List Seen) (control c : LiveControl) (h : Held) (hs : List Held) (held : Held) (b : Bool) → id_eq h.id control.id ≡ b
    → (if b then Some h else find_held control.id hs) ≡ Some held → IsLoaded bank c h
    → (id_eq c.id control.id ≡ true → c.item.setting ≡ control.item.setting)
    → (find_held control.id hs ≡ Some held → (box_at bank held.number).setting ≡ Some control.item.setting)
    → (box_at bank held.number).setting ≡ Some control.item.setting
found_by bank control c h hs held false test e loaded keeps rest = rest e
found_by bank control c h hs held true test e loaded keeps rest =
    let here : (box_at bank held.number).setting ≡ Some c.item.setting =
    ap (λ (one : Held). (box_at bank one.number).setting) (sym (same_Some h held e)) ∙ loaded.setting in
    here ∙ ap Some (keeps (ap (λ id. id_eq id control.id) (sym loaded.id) ∙ test))

found : (bank : List Seen) (control : LiveControl) (cs : List LiveControl) (hs : List Held) → KeepsSetting cs control → Paired (IsLoaded bank) cs hs
    → (held : Held) → find_held control.id hs ≡ Some held → (box_at bank held.number).setting ≡ Some control.item.setting
found bank control [] [] keeps loaded held e = absurd (none-some held e)
found bank control [] (h ∷ hs) keeps loaded held e = absurd loaded
found bank control (c ∷ cs) [] keeps loaded held e = absurd loaded
found bank control (c ∷ cs) (h ∷ hs) keeps loaded held e =
    let rest = all_tail (λ (old : LiveControl). id_eq old.id control.id ≡ true → old.item.setting ≡ control.item.setting) c cs keeps in
    found_by bank control c h hs held (id_eq h.id control.id) refl e loaded.0 (keeps 0 c (omega arith))
    (λ r. found bank control cs hs rest loaded.1 held r)

pub settings_stay : SettingsStay
settings_stay = record {
  by_set = λ old new live sensors is same. loaded_all new.zone_rows sensors old new.bank (controls live) new.held same is.sit;
  by_tick = λ slots now strict view live loaded.
      let thermal = thermal_sample slots now in
      let fan = fan_sample slots now (zone_rows_after slots now view) in
      loaded_aged view.bank (bank_after slots now view) (controls live) view.held (λ m.
      setting_pass fan view.held (thermal_bank slots now view) m ∙ setting_pass thermal view.held view.bank m) loaded;
  next = λ view live after loaded keeps k d lt.
      found view.bank (slice_index_or (controls after) k d) (controls live) view.held (keeps k d lt) loaded;
}
