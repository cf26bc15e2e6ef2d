-- A tick keeps what is true of all zones.
use Rattle.std.proofs.Common.{refl, ap, ◌≡◌, ℕ, zero, suc, ◌<◌, List, [], ◌∷◌, length, map, Option, Some, None, sym, ◌∙◌, subst, arith}
use Rattle.std.specs.List.{All, IsDistinct}
use Rattle.cfg_json.specs.declared.item.ItemId.{ItemId}
use Rattle.fan_zone.specs.Live.{id_eq}
use Rattle.std.proofs.lemmas.List.{length-set}
use Rattle.std.proofs.lemmas.Option.{none-some}
use Rattle.ctl_face.specs.declared.sample.Sample.{Sample}
use Rattle.fan_zone.specs.Passes.{pass, step_box}
use Rattle.ctl_face.specs.Seen.{Seen, stepped}
use Rattle.fan_zone.specs.Boxes.{box_at}
use Rattle.fan_zone.specs.declared.held.Held.{Held}
use Rattle.fan_zone.specs.declared.rows.ZoneRow.{ZoneRow}
use Rattle.fan_zone.specs.declared.rows.FanRow.{FanRow}
use Rattle.fan_zone.specs.Ticks.{ZonesView, aged}
use Rattle.fan_zone.specs.Sound.{IsSound, IsSeated, AreSeated, AreSmall, AreInZones, HasSmallSetpoint, AreSpare, IsTyped, Differ, number_of, held_id}
use Rattle.fan_zone.proofs.Numbered.{all_map, all_set, all_tail}

in_zones_still : (rows next : List ZoneRow) (held : List Held) → length next ≡ length rows → AreInZones rows held → AreInZones next held
in_zones_still rows next held same all = λ k d lt. omega (arith, same, all k d lt)

numbers_aged : (held : List Held) → map number_of (map aged held) ≡ map number_of held
numbers_aged [] = refl
numbers_aged (one ∷ more) = ap (λ (l : List ℕ). one.number ∷ l) (numbers_aged more)

ids_aged : (held : List Held) → map held_id (map aged held) ≡ map held_id held
ids_aged [] = refl
ids_aged (one ∷ more) = ap (λ (l : List ItemId). one.id ∷ l) (ids_aged more)

seated_aged : (bank : List Seen) (held : List Held) → AreSeated bank held → AreSeated bank (map aged held)
seated_aged bank held seats = all_map aged (IsSeated bank) held (λ k d lt. let s = seats k d lt in record { within = s.within; loaded = s.loaded })

pub sound_aged : (old : ZonesView) (bank : List Seen) (rows : List ZoneRow) (fans : List FanRow) → IsSound old → AreSeated bank old.held → AreSmall bank
    → All IsTyped bank → AreSpare bank (map number_of old.held) → length rows ≡ length old.zone_rows → length fans ≡ length old.fan_rows
    → IsSound (record { bank = bank; held = map aged old.held; zone_plans = old.zone_plans; zone_rows = rows; fan_plans = old.fan_plans; fan_rows = fans })
sound_aged old bank rows fans s seats small typed spare zones fan = record {
  seats = seated_aged bank old.held seats;
  outputs = small;
  typed = typed;
  setpoints = all_map aged HasSmallSetpoint old.held s.setpoints;
  apart = subst Differ (sym (numbers_aged old.held)) s.apart;
  spare = subst (AreSpare bank) (sym (numbers_aged old.held)) spare;
  zones = all_map aged (λ (h : Held). h.zone < length rows) old.held (in_zones_still old.zone_rows rows old.held zones s.zones);
  plans = s.plans ∙ sym zones;
  lows = s.lows;
  fans = s.fans ∙ sym fan;
  few_zones = omega (arith, s.few_zones, zones);
  few_fans = omega (arith, s.few_fans, fan);
  held_ids = subst (IsDistinct id_eq) (sym (ids_aged old.held)) s.held_ids;
  zone_ids = s.zone_ids;
  fan_ids = s.fan_ids;
}

pub typed_at : (bank : List Seen) (n : ℕ) → All IsTyped bank → IsTyped (box_at bank n)
typed_at [] n all = λ x e. absurd (none-some x e)
typed_at (b ∷ bank) zero all = all 0 b (omega arith)
typed_at (b ∷ bank) (suc n) all = typed_at bank n (all_tail IsTyped b bank all)

typed_step : (bank : List Seen) (n : ℕ) (sample : Option Sample) → All IsTyped bank → All IsTyped (step_box bank n sample)
typed_step bank n None all = all
typed_step bank n (Some sample) all = all_set IsTyped bank n (stepped (box_at bank n) sample) all (typed_at bank n all)

-- a pass leaves each box of the kind of its setting
pub typed_pass : (sample : Held → Option Sample) (held : List Held) (bank : List Seen) → All IsTyped bank → All IsTyped (pass sample held bank)
typed_pass sample [] bank all = all
typed_pass sample (one ∷ more) bank all = typed_pass sample more (step_box bank one.number (sample one)) (typed_step bank one.number (sample one) all)

length-step : (bank : List Seen) (n : ℕ) (sample : Option Sample) → length (step_box bank n sample) ≡ length bank
length-step bank n None = refl
length-step bank n (Some sample) = length-set bank n (stepped (box_at bank n) sample)

pub length-pass : (sample : Held → Option Sample) (held : List Held) (bank : List Seen) → length (pass sample held bank) ≡ length bank
length-pass sample [] bank = refl
length-pass sample (one ∷ more) bank = length-pass sample more (step_box bank one.number (sample one)) ∙ length-step bank one.number (sample one)
