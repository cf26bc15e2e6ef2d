-- Unloading the boxes of the controllers that go unloads each box that is not kept: the others are not loaded.
use Rattle.std.proofs.Common.{◌≡◌, ℕ, zero, suc, ◌+◌, ◌<◌, ◌≤◌, Bool, true, false, ◌||◌, if◌then◌else◌, nat_eq, List, [], ◌∷◌, length, map, drop, set, get_or}
use Rattle.std.proofs.Common.{refl, ap, sym, ◌∙◌, subst, arith}
use Rattle.std.proofs.lemmas.Bool.Decides.{nat_tests}
use Rattle.std.proofs.lemmas.List.{drop_all, drop_more, get_or-set_same, get_or-set_other, length-set}
use Rattle.std.specs.List.{All}
use Rattle.ctl_face.specs.declared.kind.Kind.TheVariants.{Pid}
use Rattle.ctl_face.specs.Seen.{Seen, unloaded}
use Rattle.fan_zone.specs.Boxes.{box_at}
use Rattle.fan_zone.specs.Rows.{numbered}
use Rattle.fan_zone.specs.Sets.{cleared, cleared_box, is_taken}
use Rattle.fan_zone.specs.Sound.{AreSeated, AreSpare, number_of}
use Rattle.fan_zone.specs.declared.held.Held.{Held}
use Rattle.fan_zone.proofs.Numbered.{all_tail, numbered_set}
use Rattle.fan_zone.proofs.Sitting.{other_number}

-- what the loop keeps: the boxes before n that are not taken are unloaded, and only such boxes were changed
pub record Clears (taken : List ℕ) (held : List Held) (start bank : List Seen) (n : ℕ) : Type 0 where
  pub seats : length bank ≡ length start
  pub same : cleared taken bank ≡ cleared taken start
  pub blank : (number : ℕ) → is_taken taken number ≡ false → is_taken (map number_of (drop n held)) number ≡ false
      → box_at bank number ≡ unloaded (box_at bank number).kind

twice_by : (t : Bool) (seen : Seen) → (if t then seen else unloaded seen.kind)
    ≡ (if t then (if t then seen else unloaded seen.kind) else unloaded (if t then seen else unloaded seen.kind).kind)
twice_by true seen = refl
twice_by false seen = refl

-- a box that is cleared once more stays as it is
twice : (taken : List ℕ) (number : ℕ) (seen : Seen) → cleared_box taken number seen ≡ cleared_box taken number (cleared_box taken number seen)
twice taken number seen = twice_by (is_taken taken number) seen

same_more : (taken : List ℕ) (bank : List Seen) (number : ℕ) → number < length bank
    → cleared taken (set bank number (cleared_box taken number (box_at bank number))) ≡ cleared taken bank
same_more taken bank number lt =
    let box = box_at bank number in
    let none : 0 + number ≡ number = omega arith in
    sym (numbered_set (cleared_box taken) (cleared_box taken) 0 bank number (unloaded Pid) (cleared_box taken number box) lt (λ m x apart. refl)
    (subst (λ (m : ℕ). cleared_box taken m box ≡ cleared_box taken m (cleared_box taken number box)) (sym none) (twice taken number box)))

same_number : (n number : ℕ) → nat_eq n number ≡ true → n ≡ number
same_number n number is = grind (arith, nat_tests, is)

cleared_blank : (t : Bool) (seen : Seen) → t ≡ false → (if t then seen else unloaded seen.kind) ≡ unloaded (if t then seen else unloaded seen.kind).kind
cleared_blank true seen not = absurd (cc)
cleared_blank false seen not = refl

or_neither : (one other : Bool) → one ≡ false → other ≡ false → (one || other) ≡ false
or_neither true other first second = first
or_neither false other first second = second

-- one box that is cleared
blank_more : (taken : List ℕ) (held : List Held) (bank : List Seen) (n : ℕ) (one : Held) → one.number < length bank → n < length held
    → one ≡ get_or held n one
    → ((number : ℕ) → is_taken taken number ≡ false → is_taken (map number_of (drop n held)) number ≡ false
    → box_at bank number ≡ unloaded (box_at bank number).kind)
    → (number : ℕ) → is_taken taken number ≡ false → is_taken (map number_of (drop (n + 1) held)) number ≡ false
    → box_at (set bank one.number (cleared_box taken one.number (box_at bank one.number))) number
    ≡ unloaded (box_at (set bank one.number (cleared_box taken one.number (box_at bank one.number))) number).kind
blank_more taken held bank n one within lt at blank number untaken left = by (nat_eq one.number number) refl
  where
    box : Seen
    box = cleared_box taken one.number (box_at bank one.number)

    here : is_taken (map number_of (drop n held)) number ≡ (nat_eq one.number number || is_taken (map number_of (drop (n + 1) held)) number)
    here =
        ap (λ (l : List Held). is_taken (map number_of l) number)
        (drop_more held n one lt ∙ ap (λ (h : Held). h ∷ drop (n + 1) held) (sym at))

    by : (is : Bool) → nat_eq one.number number ≡ is → box_at (set bank one.number box) number ≡ unloaded (box_at (set bank one.number box) number).kind
    by true is =
        subst (λ (b : Seen). b ≡ unloaded b.kind)
        (sym (ap (box_at (set bank one.number box)) (sym (same_number one.number number is)) ∙ get_or-set_same bank one.number box (unloaded Pid) within))
        (cleared_blank (is_taken taken one.number) (box_at bank one.number) (ap (is_taken taken) (same_number one.number number is) ∙ untaken))
    by false is =
        subst (λ (b : Seen). b ≡ unloaded b.kind)
        (sym (get_or-set_other bank one.number number box (unloaded Pid) (other_number one.number number is)))
        (blank number untaken (here ∙ or_neither _ _ is left))

pub clears_start : (taken : List ℕ) (held : List Held) (bank : List Seen) → AreSpare bank (map number_of held) → Clears taken held bank bank 0
clears_start taken held bank spare = record { seats = refl; same = refl; blank = λ number untaken left. spare number left }

pub clears_more : (taken : List ℕ) (held : List Held) (start bank next : List Seen) (n : ℕ) (one : Held) → AreSeated start held
    → Clears taken held start bank n → n < length held → one ≡ get_or held n one
    → next ≡ set bank one.number (cleared_box taken one.number (box_at bank one.number)) → Clears taken held start next (n + 1)
clears_more taken held start bank next n one seats c lt at is =
    let box = cleared_box taken one.number (box_at bank one.number) in
    let within : one.number < length bank =
    let there = seats n one lt in
    omega (arith, c.seats, subst (λ (h : Held). h.number < length start) (sym at) there.within) in
    subst (λ (b : List Seen). Clears taken held start b (n + 1)) (sym is) (record {
      seats = length-set bank one.number box ∙ c.seats;
      same = same_more taken bank one.number within ∙ c.same;
      blank = blank_more taken held bank n one within lt at c.blank;
    })

kept_by : (t : Bool) (seen : Seen) → (t ≡ false → seen ≡ unloaded seen.kind) → (if t then seen else unloaded seen.kind) ≡ seen
kept_by true seen blank = refl
kept_by false seen blank = sym (blank refl)

-- where each box that is not taken is unloaded, nothing is left to do
all_blank : (taken : List ℕ) (n : ℕ) (bank : List Seen)
    → ((k : ℕ) → is_taken taken (n + k) ≡ false → box_at bank k ≡ unloaded (box_at bank k).kind) → numbered (cleared_box taken) n bank ≡ bank
all_blank taken n [] blank = refl
all_blank taken n (b ∷ bank) blank =
    let none : n ≡ n + 0 = omega arith in
    ap (λ (x : Seen). x ∷ numbered (cleared_box taken) (suc n) bank)
    (kept_by (is_taken taken n) b (λ not. blank 0 (ap (is_taken taken) (sym none) ∙ not)))
    ∙ ap (λ (l : List Seen). b ∷ l)
    (all_blank taken (suc n) bank (λ k not. let next : n + suc k ≡ suc n + k = omega arith in blank (suc k) (ap (is_taken taken) next ∙ not)))

pub clears_end : (taken : List ℕ) (held : List Held) (start bank : List Seen) (n : ℕ) → Clears taken held start bank n → length held ≤ n
    → bank ≡ cleared taken start
clears_end taken held start bank n c le =
    sym (all_blank taken 0 bank (λ k not. let none : 0 + k ≡ k = omega arith in
    c.blank k (ap (is_taken taken) (sym none) ∙ not) (ap (λ (l : List Held). is_taken (map number_of l) k) (drop_all n held le))))
    ∙ c.same

blank_at : (bank : List Seen) (number : ℕ) → All (λ (seen : Seen). seen ≡ unloaded seen.kind) bank → box_at bank number ≡ unloaded (box_at bank number).kind
blank_at [] number all = refl
blank_at (b ∷ bank) zero all = all 0 b (omega arith)
blank_at (b ∷ bank) (suc number) all = blank_at bank number (all_tail (λ (seen : Seen). seen ≡ unloaded seen.kind) b bank all)

-- where no box is loaded, those that no controller has are not
pub all_spare : (start bank : List Seen) (numbers : List ℕ) → bank ≡ start → All (λ (seen : Seen). seen ≡ unloaded seen.kind) start → AreSpare bank numbers
all_spare start bank numbers is all number not =
    subst (λ (b : List Seen). box_at b number ≡ unloaded (box_at b number).kind) (sym is) (blank_at start number all)
