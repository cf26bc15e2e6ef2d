-- A pass, one controller on.
use Rattle.std.proofs.Common.{◌≡◌, ℕ, zero, suc, ◌+◌, ◌<◌, ◌≤◌, List, [], ◌∷◌, length, drop, set, get_or, slice_index_or, Option, Some, None, IsSome}
use Rattle.std.proofs.Common.{refl, ap, sym, ◌∙◌, subst, arith}
use Rattle.std.proofs.lemmas.List.{at_drop_more, at_drop_all, length-set}
use Rattle.ctl_face.specs.declared.sample.Sample.{Sample}
use Rattle.ctl_face.specs.declared.setting.Setting.{Setting}
use Rattle.ctl_face.specs.Seen.{Seen, stepped}
use Rattle.fan_zone.specs.Boxes.{box_at}
use Rattle.fan_zone.specs.declared.held.Held.{Held}
use Rattle.fan_zone.specs.Passes.{step_box, pass}
use Rattle.fan_zone.proofs.Numbered.{all_set}
use Rattle.fan_zone.specs.Sound.{AreSeated, AreSmall, HasSmallOutput}

-- a step leaves the settings of all boxes
pub setting_set : (bank : List Seen) (n m : ℕ) (sample : Sample) → (box_at (set bank n (stepped (box_at bank n) sample)) m).setting ≡ (box_at bank m).setting
setting_set [] n m sample = refl
setting_set (b ∷ bank) zero zero sample = refl
setting_set (b ∷ bank) zero (suc m) sample = refl
setting_set (b ∷ bank) (suc n) zero sample = refl
setting_set (b ∷ bank) (suc n) (suc m) sample = setting_set bank n m sample

pub seated_more : (bank : List Seen) (held : List Held) (n : ℕ) (sample : Option Sample) → AreSeated bank held → AreSeated (step_box bank n sample) held
seated_more bank held n None seats = seats
seated_more bank held n (Some sample) seats = λ k d lt.
    let one = slice_index_or held k d in
    let s = seats k d lt in
    record {
      within = omega (arith, s.within, length-set bank n (stepped (box_at bank n) sample));
      loaded = subst (λ (o : Option Setting). IsSome o) (sym (setting_set bank n one.number sample)) s.loaded;
    }

-- what the loop keeps: the controllers before n have had their step
pub record Passed (sample : Held → Option Sample) (held : List Held) (start bank : List Seen) (n : ℕ) : Type 0 where
  pub seats : AreSeated bank held
  pub small : AreSmall bank
  pub rest : pass sample (drop n held) bank ≡ pass sample held start

pub passed_more : (sample : Held → Option Sample) (held : List Held) (start bank next : List Seen) (n : ℕ) (one : Held) → Passed sample held start bank n
    → n < length held
    → one ≡ get_or held n one → next ≡ step_box bank one.number (sample one) → AreSmall next → Passed sample held start next (n + 1)
passed_more sample held start bank next n one p lt at is small =
    let rest = λ (left : List Held). pass sample left bank in
    let here : rest (drop n held) ≡ rest (one ∷ drop (n + 1) held) =
    at_drop_more rest held n one lt ∙ ap (λ (h : Held). rest (h ∷ drop (n + 1) held)) (sym at) in
    record {
      seats = subst (λ (b : List Seen). AreSeated b held) (sym is) (seated_more bank held one.number (sample one) p.seats);
      small = small;
      rest = ap (λ (b : List Seen). pass sample (drop (n + 1) held) b) is ∙ (sym here ∙ p.rest);
    }

pub passed_end : (sample : Held → Option Sample) (held : List Held) (start bank : List Seen) (n : ℕ) → Passed sample held start bank n → length held ≤ n
    → bank ≡ pass sample held start
passed_end sample held start bank n p le = sym (at_drop_all (λ (left : List Held). pass sample left bank) held n le) ∙ p.rest

-- a step leaves all outputs in range
pub small_set : (bank : List Seen) (n : ℕ) (x : Seen) → AreSmall bank → HasSmallOutput x → AreSmall (set bank n x)
small_set bank n x all here = all_set HasSmallOutput bank n x all here
