-- Each controller steps its own box.
use Rattle.std.proofs.Common.{◌≡◌, ◌≢◌, ℕ, zero, suc, ◌<◌, Bool, true, false, nat_eq, List, [], ◌∷◌, length, set, Option, Some, None, slice_get, refl, ap}
use Rattle.std.proofs.Common.{sym, ◌∙◌, subst, arith}
use Rattle.std.proofs.lemmas.Bool.{true≢false}
use Rattle.std.proofs.lemmas.List.{length-set, get_or-set_same, get_or-set_other}
use Rattle.std.proofs.lemmas.Option.{none-some, same_Some}
use Rattle.std.specs.List.{All}
use Rattle.ctl_face.specs.declared.kind.Kind.{Kind}
use Rattle.ctl_face.specs.declared.kind.Kind.TheVariants.{Pid}
use Rattle.ctl_face.specs.declared.sample.Sample.{Sample}
use Rattle.ctl_face.specs.Seen.{Seen, stepped, unloaded}
use Rattle.fan_zone.specs.Boxes.{box_at, kinds_of}
use Rattle.fan_zone.specs.declared.held.Held.{Held}
use Rattle.sensor_core.specs.Sensors.{Sensor}
use Rattle.fan_zone.specs.Passes.{pass, step_box, thermal_sample, fan_sample}
use Rattle.fan_zone.specs.Sets.{is_taken}
use Rattle.fan_zone.specs.Sound.{AreSpare, IsSound, Differ}
use Rattle.fan_zone.specs.Ticks.{ZonesView, ticked, thermal_bank, zone_rows_after}
use Rattle.fan_zone.specs.IsTicks.{stepped_by, StepsOwnBoxes}
use Rattle.fan_zone.proofs.Numbered.{all_tail}
use Rattle.fan_zone.proofs.SoundLaw.{length-pass}
use Rattle.fan_zone.proofs.SetLaw.{itself, or_left, or_more}
use Rattle.fan_zone.proofs.Sitting.{numbers, or_false, other_number}

step_other : (bank : List Seen) (n m : ℕ) (sample : Option Sample) → m ≢ n → box_at (step_box bank n sample) m ≡ box_at bank m
step_other bank n m None apart = refl
step_other bank n m (Some sample) apart = get_or-set_other bank n m (stepped (box_at bank n) sample) (unloaded Pid) apart

step_own : (bank : List Seen) (n : ℕ) (sample : Option Sample) → n < length bank → box_at (step_box bank n sample) n ≡ stepped_by sample (box_at bank n)
step_own bank n None lt = refl
step_own bank n (Some sample) lt = get_or-set_same bank n (stepped (box_at bank n) sample) (unloaded Pid) lt

length_step : (bank : List Seen) (n : ℕ) (sample : Option Sample) → length (step_box bank n sample) ≡ length bank
length_step bank n None = refl
length_step bank n (Some sample) = length-set bank n (stepped (box_at bank n) sample)

-- a box of no controller is not touched
pub pass_other : (f : Held → Option Sample) (held : List Held) (bank : List Seen) (m : ℕ) → is_taken (numbers held) m ≡ false → box_at (pass f held bank) m
    ≡ box_at bank m
pass_other f [] bank m not = refl
pass_other f (one ∷ more) bank m not =
    let o = or_false (nat_eq one.number m) (is_taken (numbers more) m) not in
    pass_other f more (step_box bank one.number (f one)) m o.1 ∙ step_other bank one.number m (f one) (other_number one.number m o.0)

among : (held : List Held) (n : ℕ) (one : Held) → slice_get held n ≡ Some one → is_taken (numbers held) one.number ≡ true
among [] n one e = absurd (none-some one e)
among (h ∷ held) zero one e = or_left (nat_eq h.number one.number) (is_taken (numbers held) one.number)
    (ap (λ (x : Held). nat_eq x.number one.number) (same_Some h one e) ∙ itself one.number)
among (h ∷ held) (suc n) one e = or_more (nat_eq h.number one.number) (is_taken (numbers held) one.number) (among held n one e)

pub pass_own : (f : Held → Option Sample) (held : List Held) (bank : List Seen) (n : ℕ) (one : Held) → Differ (numbers held)
    → All (λ (h : Held). h.number < length bank) held → slice_get held n ≡ Some one
    → box_at (pass f held bank) one.number ≡ stepped_by (f one) (box_at bank one.number)
pass_own f [] bank n one d all e = absurd (none-some one e)
pass_own f (h ∷ more) bank zero one d all e =
    let here : box_at (pass f (h ∷ more) bank) h.number ≡ stepped_by (f h) (box_at bank h.number) =
    pass_other f more (step_box bank h.number (f h)) h.number d.0 ∙ step_own bank h.number (f h) (all 0 h (omega arith)) in
    subst (λ (x : Held). box_at (pass f (h ∷ more) bank) x.number ≡ stepped_by (f x) (box_at bank x.number)) (same_Some h one e) here
pass_own f (h ∷ more) bank (suc n) one d all e =
    let next = step_box bank h.number (f h) in
    let apart : one.number ≢ h.number = λ same. true≢false (sym (among more n one e) ∙ (ap (is_taken (numbers more)) same ∙ d.0)) in
    pass_own f more next n one d.1 (λ k z lt. omega (
      arith,
      length_step bank h.number (f h),
      all_tail (λ (x : Held). x.number < length bank) h more all k z
          lt,
    )) e
    ∙ ap (stepped_by (f one)) (step_other bank h.number one.number (f h) apart)

-- kinds stay
kinds_set : (bank : List Seen) (n : ℕ) (sample : Sample) → kinds_of (set bank n (stepped (box_at bank n) sample)) ≡ kinds_of bank
kinds_set [] n sample = refl
kinds_set (b ∷ bank) zero sample = refl
kinds_set (b ∷ bank) (suc n) sample = ap (λ (kinds : List Kind). b.kind ∷ kinds) (kinds_set bank n sample)

kinds_step : (bank : List Seen) (n : ℕ) (sample : Option Sample) → kinds_of (step_box bank n sample) ≡ kinds_of bank
kinds_step bank n None = refl
kinds_step bank n (Some sample) = kinds_set bank n sample

kinds_pass : (f : Held → Option Sample) (held : List Held) (bank : List Seen) → kinds_of (pass f held bank) ≡ kinds_of bank
kinds_pass f [] bank = refl
kinds_pass f (one ∷ more) bank = kinds_pass f more (step_box bank one.number (f one)) ∙ kinds_step bank one.number (f one)

pub ticked_own : (slots : List (Option Sensor)) (now : ℕ) (strict : Bool) (old : ZonesView) → IsSound old
    → StepsOwnBoxes slots now old (ticked slots now strict old)
ticked_own slots now strict old s =
    let thermal = thermal_sample slots now in
    let bank = thermal_bank slots now old in
    let fan = fan_sample slots now (zone_rows_after slots now old) in
    record {
      own = λ n one e.
          pass_own fan old.held bank n one s.apart (λ k z lt. omega (arith, (s.seats k z lt).within, length-pass thermal old.held old.bank)) e
          ∙ ap (stepped_by (fan one)) (pass_own thermal old.held old.bank n one s.apart (λ k z lt. (s.seats k z lt).within) e);
      kinds = kinds_pass fan old.held bank ∙ kinds_pass thermal old.held old.bank;
      others = λ number not. pass_other fan old.held bank number not ∙ pass_other thermal old.held old.bank number not;
    }

-- a pass leaves the boxes of no controller unloaded
pub spare_pass : (f : Held → Option Sample) (held : List Held) (bank : List Seen) → AreSpare bank (numbers held) → AreSpare (pass f held bank) (numbers held)
spare_pass f held bank spare number not =
    subst (λ (b : Seen). b ≡ unloaded b.kind) (sym (pass_other f held bank number not)) (spare number not)
