-- A free box that is loaded: what it leaves as it was.
use Rattle.std.proofs.Common.{◌≡◌, ◌≢◌, ℕ, zero, suc, ◌<◌, Bool, true, false, ◌||◌, nat_eq, List, [], ◌∷◌, ◌++◌, length, set, Some, IsSome, refl, ap}
use Rattle.std.proofs.Common.{sym, ◌∙◌, subst, arith}
use Rattle.std.proofs.lemmas.Bool.{true≢false}
use Rattle.std.proofs.lemmas.Bool.Decides.{nat_tests}
use Rattle.std.proofs.lemmas.List.{length-set, get_or-set_same, get_or-set_other}
use Rattle.std.proofs.lemmas.List.Folds.{list_any-append}
use Rattle.std.proofs.lemmas.Option.{none-some, same_Some}
use Rattle.std.specs.List.{All, count_by}
use Rattle.ctl_face.specs.declared.kind.Kind.{Kind}
use Rattle.ctl_face.specs.declared.kind.Kind.TheVariants.{Pid}
use Rattle.ctl_face.specs.declared.setting.Setting.{Setting}
use Rattle.ctl_face.specs.Seen.{Seen, loaded, unloaded}
use Rattle.ctl_face.specs.Kinds.{kind_of}
use Rattle.fan_zone.specs.Boxes.{box_at, kinds_of}
use Rattle.fan_zone.specs.declared.held.Held.{Held}
use Rattle.fan_zone.specs.declared.held.Seat.{Seat}
use Rattle.fan_zone.specs.Sets.{is_taken}
use Rattle.fan_zone.specs.Seats.{is_of, IsKept}
use Rattle.fan_zone.specs.Sound.{IsSeated, AreSmall, HasSmallOutput, IsTyped}
use Rattle.fan_zone.proofs.Numbered.{all_set}
use Rattle.fan_zone.proofs.Pigeons.{count_cons}

abbrev pub load_box : List Seen → ℕ → Setting → List Seen
load_box bank number setting = set bank number (loaded (box_at bank number) setting)

pub kind_kept : (bank : List Seen) (n m : ℕ) (s : Setting) → (box_at (load_box bank n s) m).kind ≡ (box_at bank m).kind
kind_kept [] n m s = refl
kind_kept (b ∷ bank) zero zero s = refl
kind_kept (b ∷ bank) zero (suc m) s = refl
kind_kept (b ∷ bank) (suc n) zero s = refl
kind_kept (b ∷ bank) (suc n) (suc m) s = kind_kept bank n m s

pub kinds_loaded : (bank : List Seen) (n : ℕ) (s : Setting) → kinds_of (load_box bank n s) ≡ kinds_of bank
kinds_loaded [] n s = refl
kinds_loaded (b ∷ bank) zero s = refl
kinds_loaded (b ∷ bank) (suc n) s = ap (λ (kinds : List Kind). b.kind ∷ kinds) (kinds_loaded bank n s)

pub count_loaded : (kind : Kind) (bank : List Seen) (n : ℕ) (s : Setting) → count_by (is_of kind) (load_box bank n s) ≡ count_by (is_of kind) bank
count_loaded kind [] n s = refl
count_loaded kind (b ∷ bank) zero s = omega (arith, count_cons (is_of kind) b bank, count_cons (is_of kind) (loaded b s) bank)
count_loaded kind (b ∷ bank) (suc n) s =
    omega (arith, count_cons (is_of kind) b bank, count_cons (is_of kind) b (load_box bank n s), count_loaded kind bank n s)

pub loaded_here : (bank : List Seen) (n : ℕ) (s : Setting) → n < length bank → (box_at (load_box bank n s) n).setting ≡ Some s
loaded_here bank n s lt = ap (λ (b : Seen). b.setting) (get_or-set_same bank n (loaded (box_at bank n) s) (unloaded Pid) lt)

-- a taken box is not a free one
pub apart : (taken : List ℕ) (number free : ℕ) → is_taken taken number ≡ true → is_taken taken free ≡ false → number ≢ free
apart taken number free a b = λ e. true≢false (sym a ∙ (ap (is_taken taken) e ∙ b))

pub box_kept : (bank : List Seen) (taken : List ℕ) (n m : ℕ) (s : Setting) → is_taken taken n ≡ false → is_taken taken m ≡ true
    → box_at (load_box bank n s) m ≡ box_at bank m
box_kept bank taken n m s free is = get_or-set_other bank n m (loaded (box_at bank n) s) (unloaded Pid) (apart taken m n is free)

pub taken_still : (taken more : List ℕ) (m : ℕ) → is_taken taken m ≡ true → is_taken (taken ++ more) m ≡ true
taken_still taken more m is = list_any-append (λ (one : ℕ). nat_eq one m) taken more ∙ ap (λ (b : Bool). b || is_taken more m) is

or_right : (a b : Bool) → b ≡ true → (a || b) ≡ true
or_right true b e = refl
or_right false b e = e

self : (n : ℕ) → nat_eq n n ≡ true
self n = grind (arith, nat_tests)

pub taken_new : (taken : List ℕ) (n : ℕ) → is_taken (taken ++ n ∷ []) n ≡ true
taken_new taken n =
    list_any-append (λ (one : ℕ). nat_eq one n) taken (n ∷ []) ∙ or_right (is_taken taken n) (is_taken (n ∷ []) n) (ap (λ (b : Bool). b || false) (self n))

pub seated_still : (bank : List Seen) (taken : List ℕ) (n : ℕ) (s : Setting) (one : Held) → is_taken taken n ≡ false → is_taken taken one.number ≡ true
    → IsSeated bank one → IsSeated (load_box bank n s) one
seated_still bank taken n s one free is seat = record {
  within = omega (arith, seat.within, length-set bank n (loaded (box_at bank n) s));
  loaded = subst (λ (b : Seen). IsSome b.setting) (sym (box_kept bank taken n one.number s free is)) seat.loaded;
}

pub kept_still : (bank : List Seen) (taken : List ℕ) (n : ℕ) (s : Setting) (seat : Seat) → is_taken taken n ≡ false → IsKept taken bank seat
    → IsKept (taken ++ n ∷ []) (load_box bank n s) seat
kept_still bank taken n s seat free k = record {
  within = omega (arith, k.within, length-set bank n (loaded (box_at bank n) s));
  taken = taken_still taken (n ∷ []) seat.number k.taken;
  loaded = subst (λ (b : Seen). IsSome b.setting) (sym (box_kept bank taken n seat.number s free k.taken)) k.loaded;
}

pub small_loaded : (bank : List Seen) (n : ℕ) (s : Setting) → AreSmall bank → AreSmall (load_box bank n s)
small_loaded bank n s all = all_set HasSmallOutput bank n (loaded (box_at bank n) s) all (λ x e. absurd (none-some x e))

pub typed_loaded : (bank : List Seen) (n : ℕ) (s : Setting) → kind_of s ≡ (box_at bank n).kind → All IsTyped bank → All IsTyped (load_box bank n s)
typed_loaded bank n s e all = all_set IsTyped bank n (loaded (box_at bank n) s) all
    (λ x at. subst (λ (z : Setting). kind_of z ≡ (box_at bank n).kind) (same_Some s x at) e)
