-- The first free box.
use Rattle.std.proofs.Common.{◌≡◌, ℕ, suc, ◌+◌, ◌<◌, Bool, true, false, not, ◌&&◌, if◌then◌else◌, List, [], ◌∷◌, length, Some, refl, ap, sym, ◌∙◌, arith}
use Rattle.std.proofs.lemmas.Option.{same_Some, none-some}
use Rattle.std.proofs.lemmas.Bool.{true≢false}
use Rattle.ctl_face.specs.declared.kind.Kind.{Kind}
use Rattle.ctl_face.specs.Seen.{Seen}
use Rattle.ctl_face.specs.Kinds.{kind_eq}
use Rattle.fan_zone.specs.Boxes.{box_at}
use Rattle.fan_zone.proofs.EqualLemmas.{kind_same}
use Rattle.fan_zone.specs.Sets.{free, is_taken}

pub record IsFree (kind : Kind) (taken : List ℕ) (bank : List Seen) (start number : ℕ) : Type 0 where
  pub place : ℕ
  pub at : number ≡ start + place
  pub within : place < length bank
  pub kind_is : (box_at bank place).kind ≡ kind
  pub untaken : is_taken taken number ≡ false

both : (a b : Bool) → a && b ≡ true → (a ≡ true) × (b ≡ true)
both true b e = (refl, e)
both false b e = absurd (true≢false (sym e))

not_true : (a : Bool) → not a ≡ true → a ≡ false
not_true true e = absurd (true≢false (sym e))
not_true false e = refl

free_head : (kind : Kind) (taken : List ℕ) (n : ℕ) (seen : Seen) (more : List Seen) (number : ℕ) (b : Bool)
    → kind_eq seen.kind kind && not (is_taken taken n) ≡ b → (if b then Some n else free kind taken (suc n) more) ≡ Some number
    → ((free kind taken (suc n) more ≡ Some number) → IsFree kind taken more (suc n) number) → IsFree kind taken (seen ∷ more) n number
free_head kind taken n seen more number true test e rest =
    let k = both (kind_eq seen.kind kind) (not (is_taken taken n)) test in
    let same : n ≡ number = same_Some n number e in
    record {
      place = 0;
      at = omega (arith, same);
      within = omega arith;
      kind_is = kind_same seen.kind kind k.0;
      untaken =
          ap (is_taken taken) (sym same) ∙ not_true (is_taken taken n) k.1;
    }
free_head kind taken n seen more number false test e rest =
    let f = rest e in
    record { place = suc f.place; at = omega (arith, f.at); within = omega (arith, f.within); kind_is = f.kind_is; untaken = f.untaken }

pub free_is : (kind : Kind) (taken : List ℕ) (n : ℕ) (bank : List Seen) (number : ℕ) → free kind taken n bank ≡ Some number → IsFree kind taken bank n number
free_is kind taken n [] number e = absurd (none-some number e)
free_is kind taken n (seen ∷ more) number e =
    free_head kind taken n seen more number (kind_eq seen.kind kind && not (is_taken taken n)) refl e (λ r. free_is kind taken (suc n) more number r)

-- what is free in the whole bank
pub record IsFreeBox (kind : Kind) (taken : List ℕ) (bank : List Seen) (number : ℕ) : Type 0 where
  pub within : number < length bank
  pub kind_is : (box_at bank number).kind ≡ kind
  pub untaken : is_taken taken number ≡ false

pub free_box : (kind : Kind) (taken : List ℕ) (bank : List Seen) (number : ℕ) → free kind taken 0 bank ≡ Some number → IsFreeBox kind taken bank number
free_box kind taken bank number e =
    let f = free_is kind taken 0 bank number e in
    let same : f.place ≡ number = omega (arith, f.at) in
    record { within = omega (arith, f.within, same); kind_is = ap (λ (n : ℕ). (box_at bank n).kind) (sym same) ∙ f.kind_is; untaken = f.untaken }
