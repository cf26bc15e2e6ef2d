-- Where no box of a kind is free, all of them are taken.
use Rattle.std.proofs.Common.{◌≡◌, ℕ, suc, ◌+◌, ◌<◌, ◌≤◌, Bool, true, false, not, ◌&&◌, ◌||◌, cond, if◌then◌else◌, nat_eq, nat_lt, List, [], ◌∷◌}
use Rattle.std.proofs.Common.{◌++◌, length, Some, None, refl, ap, sym, ◌∙◌, arith}
use Rattle.std.proofs.lemmas.Bool.{true≢false}
use Rattle.std.proofs.lemmas.Bool.Decides.{nat_tests}
use Rattle.std.proofs.lemmas.Option.{none-some}
use Rattle.std.proofs.lemmas.List.Sums.{sum_by-cons, sum_by_push}
use Rattle.std.specs.List.{count_by}
use Rattle.ctl_face.specs.declared.kind.Kind.{Kind}
use Rattle.ctl_face.specs.Seen.{Seen}
use Rattle.ctl_face.specs.Kinds.{kind_eq}
use Rattle.fan_zone.specs.Boxes.{box_at}
use Rattle.fan_zone.specs.Sets.{free, is_taken}
use Rattle.fan_zone.specs.Seats.{is_of}

one_mono : (p q : Bool) → (p ≡ true → q ≡ true) → cond {A = ℕ} p 1 0 ≤ cond q 1 0
one_mono false q h = omega arith
one_mono true true h = omega arith
one_mono true false h = absurd (true≢false (sym (h refl)))

pub count_cons : {A : Type 0} (p : A → Bool) (x : A) (xs : List A) → count_by p (x ∷ xs) ≡ cond (p x) 1 0 + count_by p xs
count_cons p x xs = sum_by-cons (λ y. cond (p y) 1 0) x xs

pub count_push : {A : Type 0} (p : A → Bool) (xs : List A) (x : A) → count_by p (xs ++ x ∷ []) ≡ count_by p xs + cond (p x) 1 0
count_push p xs x = sum_by_push (λ y. cond (p y) 1 0) xs x

pub count_mono : {A : Type 0} (p q : A → Bool) (xs : List A) → ((x : A) → p x ≡ true → q x ≡ true) → count_by p xs ≤ count_by q xs
count_mono p q [] h = omega arith
count_mono p q (x ∷ xs) h = omega (arith, count_cons p x xs, count_cons q x xs, one_mono (p x) (q x) (h x), count_mono p q xs h)

pub count_same : {A : Type 0} (p q : A → Bool) (xs : List A) → ((x : A) → p x ≡ q x) → count_by p xs ≡ count_by q xs
count_same p q [] h = refl
count_same p q (x ∷ xs) h =
    let one : cond {A = ℕ} (p x) 1 0 ≡ cond (q x) 1 0 = ap (λ (b : Bool). cond {A = ℕ} b 1 0) (h x) in
    omega (arith, count_cons p x xs, count_cons q x xs, one, count_same p q xs h)

same_number : (a b : ℕ) → nat_eq a b ≡ true → a ≡ b
same_number a b e = grind (arith, nat_tests)

strict_head : (p q : ℕ → Bool) (xs : List ℕ) (n x : ℕ) (b : Bool) → nat_eq x n ≡ b → ((y : ℕ) → p y ≡ true → q y ≡ true) → q n ≡ true → p n ≡ false
    → (b || is_taken xs n) ≡ true
    → (is_taken xs n ≡ true → suc (count_by p xs) ≤ count_by q xs) → suc (count_by p (x ∷ xs)) ≤ count_by q (x ∷ xs)
strict_head p q xs n x true test h qn pn any rest =
    let same : x ≡ n = same_number x n test in
    let px : cond {A = ℕ} (p x) 1 0 ≡ 0 = ap (λ (y : ℕ). cond {A = ℕ} (p y) 1 0) same ∙ ap (λ (b : Bool). cond {A = ℕ} b 1 0) pn in
    let qx : cond {A = ℕ} (q x) 1 0 ≡ 1 = ap (λ (y : ℕ). cond {A = ℕ} (q y) 1 0) same ∙ ap (λ (b : Bool). cond {A = ℕ} b 1 0) qn in
    omega (arith, count_cons p x xs, count_cons q x xs, px, qx, count_mono p q xs h)
strict_head p q xs n x false test h qn pn any rest = omega (arith, count_cons p x xs, count_cons q x xs, one_mono (p x) (q x) (h x), rest any)

pub count_strict : (p q : ℕ → Bool) (xs : List ℕ) (n : ℕ) → ((x : ℕ) → p x ≡ true → q x ≡ true) → q n ≡ true → p n ≡ false → is_taken xs n ≡ true
    → suc (count_by p xs) ≤ count_by q xs
count_strict p q [] n h qn pn any = absurd (true≢false (sym any))
count_strict p q (x ∷ xs) n h qn pn any = strict_head p q xs n x (nat_eq x n) refl h qn pn any (λ a. count_strict p q xs n h qn pn a)

abbrev from : (ℕ → Bool) → ℕ → ℕ → Bool
from f n p = not (nat_lt p n) && f p

from_mono : (f : ℕ → Bool) (n p : ℕ) → from f (suc n) p ≡ true → from f n p ≡ true
from_mono f n p h = grind (arith, nat_tests)

from_at : (f : ℕ → Bool) (n : ℕ) → f n ≡ true → from f n n ≡ true
from_at f n h = grind (arith, nat_tests)

from_past : (f : ℕ → Bool) (n : ℕ) → from f (suc n) n ≡ false
from_past f n = grind (arith, nat_tests)

from_zero : (f : ℕ → Bool) (p : ℕ) → from f 0 p ≡ true → f p ≡ true
from_zero f p h = grind (arith, nat_tests)

pigeon_head : (kind : Kind) (taken : List ℕ) (n : ℕ) (seen : Seen) (more : List Seen) (f : ℕ → Bool) (k t : Bool) → kind_eq seen.kind kind ≡ k
    → is_taken taken n ≡ t → k ≡ f n
    → (if k && not t then Some n else free kind taken (suc n) more) ≡ None
    → (free kind taken (suc n) more ≡ None → count_by (is_of kind) more ≤ count_by (from f (suc n)) taken)
    → count_by (is_of kind) (seen ∷ more) ≤ count_by (from f n) taken
pigeon_head kind taken n seen more f true false is test at e rest = absurd (none-some n (sym e))
pigeon_head kind taken n seen more f true true is test at e rest =
    let one : cond {A = ℕ} (kind_eq seen.kind kind) 1 0 ≡ 1 = ap (λ (b : Bool). cond {A = ℕ} b 1 0) is in
    let strict : suc (count_by (from f (suc n)) taken) ≤ count_by (from f n) taken =
    count_strict (from f (suc n)) (from f n) taken n (from_mono f n) (from_at f n (sym at)) (from_past f n) test in
    omega (arith, count_cons (is_of kind) seen more, one, strict, rest e)
pigeon_head kind taken n seen more f false t is test at e rest =
    let none : cond {A = ℕ} (kind_eq seen.kind kind) 1 0 ≡ 0 = ap (λ (b : Bool). cond {A = ℕ} b 1 0) is in
    omega (arith, count_cons (is_of kind) seen more, none, count_mono (from f (suc n)) (from f n) taken (from_mono f n), rest e)

pigeons_from : (kind : Kind) (taken : List ℕ) (n : ℕ) (bank : List Seen) (f : ℕ → Bool)
    → ((j : ℕ) → j < length bank → is_of kind (box_at bank j) ≡ f (n + j)) → free kind taken n bank ≡ None
    → count_by (is_of kind) bank ≤ count_by (from f n) taken
pigeons_from kind taken n [] f all e = omega arith
pigeons_from kind taken n (seen ∷ more) f all e =
    let here : n + 0 ≡ n = omega arith in
    pigeon_head kind taken n seen more f (kind_eq seen.kind kind) (is_taken taken n) refl refl (all 0 (omega arith) ∙ ap f here) e
    (λ r. pigeons_from kind taken (suc n) more f (λ j lt. let next : n + suc j ≡ suc n + j = omega arith in all (suc j) (omega arith) ∙ ap f next) r)

pub pigeons : (kind : Kind) (taken : List ℕ) (bank : List Seen) → free kind taken 0 bank ≡ None
    → count_by (is_of kind) bank ≤ count_by (λ (p : ℕ). is_of kind (box_at bank p)) taken
pigeons kind taken bank e =
    let f = λ (p : ℕ). is_of kind (box_at bank p) in
    let all : count_by (is_of kind) bank ≤ count_by (from f 0) taken =
    pigeons_from kind taken 0 bank f (λ j lt. let none : j ≡ 0 + j = omega arith in ap f none) e in
    omega (arith, all, count_mono (from f 0) f taken (from_zero f))
