-- `set` does what it means.
use Rattle.std.proofs.Common.{◌≡◌, ℕ, zero, suc, ◌+◌, Bool, true, false, if◌then◌else◌, List, [], ◌∷◌, map, refl, ap, sym, ◌∙◌, subst, arith}
use Rattle.std.proofs.lemmas.Bool.{true≢false}
use Rattle.ctl_face.specs.Seen.{Seen, unloaded}
use Rattle.fan_zone.specs.Live.{controls}
use Rattle.fan_zone.specs.Boxes.{box_at}
use Rattle.cfg_json.specs.declared.item.Item.{Item}
use Rattle.fan_zone.specs.declared.held.Held.{Held}
use Rattle.live_sensors.specs.Sensors.{LiveSensors}
use Rattle.fan_zone.specs.Rows.{numbered}
use Rattle.fan_zone.specs.Ticks.{ZonesView}
use Rattle.fan_zone.specs.Sets.{kept_numbers, is_taken, cleared_box}
use Rattle.fan_zone.specs.Settings.{CanSet, before, set_to, zone_rows_of, seating_of}
use Rattle.fan_zone.specs.IsSets.{IsSet, Sits, Paired}
use Rattle.fan_zone.specs.Sound.{IsSound, number_of}
use Rattle.fan_zone.proofs.Sitting.{Untouched, sat_all, kinds_all}
use Rattle.fan_zone.proofs.Apart.{apart_set}
use Rattle.fan_zone.proofs.SetLaw.{roomy_start, noted, box_from, kinds_cleared}

-- a box that nobody kept is unloaded
unloaded_from : (taken : List ℕ) (n : ℕ) (bank : List Seen) (m : ℕ) → is_taken taken (n + m) ≡ false → box_at (numbered (cleared_box taken) n bank) m
    ≡ unloaded (box_at bank m).kind
unloaded_from taken n [] m not = refl
unloaded_from taken n (b ∷ bank) zero not =
    let none : n ≡ n + 0 = omega arith in
    ap (λ (t : Bool). if t then b else unloaded b.kind) (ap (is_taken taken) none ∙ not)
unloaded_from taken n (b ∷ bank) (suc m) not =
    let next : suc n + m ≡ n + suc m = omega arith in
    unloaded_from taken (suc n) bank m (ap (is_taken taken) next ∙ not)

false_by : (b : Bool) → ((b ≡ true) → ⊥) → b ≡ false
false_by true h = absurd (h refl)
false_by false h = refl

pub set_means : (live : List Item) (sensors : LiveSensors) (old : ZonesView) → IsSound old → CanSet old live → IsSet old live sensors (set_to live sensors old)
set_means live sensors old s can =
    let cs = controls live in
    let rows = zone_rows_of old live in
    let taken = kept_numbers old.held cs in
    let start = before old.held old.bank live in
    let zero_more = λ (n : ℕ). let e : 0 + n ≡ n = omega arith in e in
    let untouched : Untouched taken old.bank start = record {
      taken = λ number is. is;
      still = λ number is. box_from taken 0 old.bank number (ap (is_taken taken) (zero_more number) ∙ is);
    } in
    let sat = sat_all rows sensors old.held taken old.bank start cs (roomy_start old live s can) untouched (noted old.held cs) in
    let held : (seating_of old live sensors).held ≡ sat.more = sat.held in
    record {
      zone_plans = refl;
      zone_rows = refl;
      fan_plans = refl;
      fan_rows = refl;
      sit = subst (λ (h : List Held). Paired (Sits rows sensors old.held old.bank (seating_of old live sensors).bank) cs h) (sym held) sat.sit;
      apart = apart_set live sensors old s can;
      others = λ number not.
          let gone : is_taken (map number_of sat.more) number ≡ false = ap (λ (h : List Held). is_taken (map number_of h) number) (sym held) ∙ not in
          let untaken : is_taken taken number ≡ false = false_by (is_taken taken number) (λ is. true≢false (sym (sat.kept number is) ∙ gone)) in
          sat.other number gone ∙ unloaded_from taken 0 old.bank number (ap (is_taken taken) (zero_more number) ∙ untaken);
      kinds = kinds_all rows sensors old.held start cs ∙ kinds_cleared taken 0 old.bank;
    }
