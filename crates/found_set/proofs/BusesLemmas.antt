-- What opens a bus, looked for channel by channel.
use Rattle.std.proofs.Common.{◌≡◌, ℕ, zero, suc, ◌+◌, ◌<◌, ◌≤◌, Bool, true, false, ◌==◌, ◌&&◌, ◌||◌, nat_eq, List, [], ◌∷◌, ◌++◌, length, cond, refl}
use Rattle.std.proofs.Common.{ap, ap₂, sym, ◌∙◌, arith, inl, inr}
use Rattle.std.specs.List.{list_any}
use Rattle.std.proofs.lemmas.List.{get_or_past, length-append}
use Rattle.std.proofs.lemmas.Bool.{cases_lt}
use Rattle.std.proofs.lemmas.Bool.Decides.{nat_tests}
use Rattle.std.proofs.Math.Bool.{or_assoc, and-false, or-false}
use Rattle.probe_lang.specs.Sights.{Sight}
use Rattle.probe_lang.specs.declared.rows.Channel.{Channel}
use Rattle.found_set.specs.declared.row.Row.{Row}
use Rattle.found_set.specs.Marks.{is_marked, AreMarked}
use Rattle.found_set.specs.Found.{Rule, found_from, found, matched_by, on_buses, is_root, roots, moves_to, opens, is_reached}
use Rattle.found_set.specs.Rows.{row_sight, sights_of}
use Rattle.found_set.specs.Buses.{leads, leads_on, fixed_opens}

-- one mark for each configuration
pub length-found_from : (all rules : List Rule) (test : ℕ → ℕ → Bool) (before : List Bool)
    → length (found_from all rules test before) ≡ length before + length rules
length-found_from all [] test before = omega arith
length-found_from all (rule ∷ rules) test before = length-found_from all rules test (before ++ _ ∷ []) ∙ omega (arith, length-append {A = Bool})

-- whether one of those that are marked passes a test of its number
abbrev any_of : ℕ → List Rule → List Bool → (ℕ → Bool) → Bool
any_of c [] later test = false
any_of c (rule ∷ rules) [] test = false
any_of c (rule ∷ rules) (first ∷ later) test = (first && test c) || any_of (c + 1) rules later test

apart : (first left right left_later right_later : Bool)
    → ((first && (left || right)) || (left_later || right_later)) ≡ (((first && left) || left_later) || ((first && right) || right_later))
apart false left right left_later right_later = refl
apart true true right true right_later = refl
apart true true right false right_later = refl
apart true false true true right_later = refl
apart true false true false right_later = refl
apart true false false left_later right_later = refl

opens_apart : (c : ℕ) (rules : List Rule) (marks : List Bool) (sights : List Sight) (bus : ℕ)
    → opens c rules marks sights bus ≡ (fixed_opens rules marks bus || any_of c rules marks (λ n. moves_to sights n bus))
opens_apart c [] marks sights bus = refl
opens_apart c (rule ∷ rules) [] sights bus = refl
opens_apart c (rule ∷ rules) (first ∷ later) sights bus =
    ap (λ (t : Bool). (first && (list_any (nat_eq bus) rule.fixed || moves_to sights c bus)) || t) (opens_apart (c + 1) rules later sights bus)
    ∙ apart first (list_any (nat_eq bus) rule.fixed) (moves_to sights c bus) (fixed_opens rules later bus)
    (any_of (c + 1) rules later (λ n. moves_to sights n bus))

none_of : (c : ℕ) (rules : List Rule) (marks : List Bool) → any_of c rules marks (λ n. false) ≡ false
none_of c [] marks = refl
none_of c (rule ∷ rules) [] = refl
none_of c (rule ∷ rules) (true ∷ later) = none_of (c + 1) rules later
none_of c (rule ∷ rules) (false ∷ later) = none_of (c + 1) rules later

any_or : (c : ℕ) (rules : List Rule) (marks : List Bool) (test other : ℕ → Bool)
    → any_of c rules marks (λ n. test n || other n) ≡ (any_of c rules marks test || any_of c rules marks other)
any_or c [] marks test other = refl
any_or c (rule ∷ rules) [] test other = refl
any_or c (rule ∷ rules) (first ∷ later) test other =
    ap (λ (t : Bool). (first && (test c || other c)) || t) (any_or (c + 1) rules later test other)
    ∙ apart first (test c) (other c) (any_of (c + 1) rules later test) (any_of (c + 1) rules later other)

-- numbers first or elements first
any_swap : {X : Type 0} (rules : List Rule) (marks : List Bool) (test : X → ℕ → Bool) (xs : List X)
    → any_of 0 rules marks (λ n. list_any (λ x. test x n) xs) ≡ list_any (λ x. any_of 0 rules marks (test x)) xs
any_swap rules marks test [] = none_of 0 rules marks
any_swap rules marks test (x ∷ xs) =
    any_or 0 rules marks (test x) (λ n. list_any (λ x. test x n) xs) ∙ ap (λ (t : Bool). any_of 0 rules marks (test x) || t) (any_swap rules marks test xs)

-- one number
none_at : (c k : ℕ) (rules : List Rule) (marks : List Bool) (also : Bool) → k < c → any_of c rules marks (λ n. k == n && also) ≡ false
none_at c k [] marks also below = refl
none_at c k (rule ∷ rules) [] also below = refl
none_at c k (rule ∷ rules) (first ∷ later) also below =
    let no : (k == c) ≡ false = grind (arith, nat_tests) in
    ap₂ (λ (x y : Bool). (first && (x && also)) || y) no (none_at (c + 1) k rules later also (omega arith)) ∙ ap (λ (x : Bool). x || false) (and-false first)

any_at : (c k : ℕ) (rules : List Rule) (marks : List Bool) (also : Bool) → length marks ≤ length rules
    → any_of c rules marks (λ n. c + k == n && also) ≡ (is_marked marks k && also)
any_at c k [] [] also few = refl
any_at c k [] (first ∷ later) also few = absurd (omega arith)
any_at c k (rule ∷ rules) [] also few = refl
any_at c zero (rule ∷ rules) (first ∷ later) also few =
    let yes : (c + 0 == c) ≡ true = grind (arith, nat_tests) in
    let no : any_of (c + 1) rules later (λ n. c + 0 == n && also) ≡ false = none_at (c + 1) (c + 0) rules later also (omega arith) in
    ap₂ (λ (x y : Bool). (first && (x && also)) || y) yes no ∙ or-false (first && also)
any_at c (suc k) (rule ∷ rules) (first ∷ later) also few =
    let no : (c + suc k == c) ≡ false = grind (arith, nat_tests) in
    let on : c + suc k ≡ c + 1 + k = omega arith in
    ap (λ (x : Bool). (first && (x && also)) || any_of (c + 1) rules later (λ n. c + suc k == n && also)) no
    ∙ ap (λ (x : Bool). x || any_of (c + 1) rules later (λ n. c + suc k == n && also)) (and-false first)
    ∙ ap (λ (m : ℕ). any_of (c + 1) rules later (λ n. m == n && also)) on ∙ any_at (c + 1) k rules later also (omega arith)

same_any : {X : Type 0} (test other : X → Bool) (xs : List X) → ((x : X) → test x ≡ other x) → list_any test xs ≡ list_any other xs
same_any test other [] alike = refl
same_any test other (x ∷ xs) alike = ap₂ (λ (a b : Bool). a || b) (alike x) (same_any test other xs alike)

-- the channels of a row
row_opens : (rules : List Rule) (marks : List Bool) (row : Row) (bus : ℕ) → length marks ≤ length rules
    → any_of 0 rules marks (λ n. (row_sight row).opened n bus) ≡ list_any (leads marks bus) row.channels
row_opens rules marks row bus few =
    any_swap rules marks (λ (channel : Channel) (n : ℕ). channel.config == n && channel.bus == bus) row.channels
    ∙ same_any _ _ row.channels (λ channel. let zero_on : 0 + channel.config ≡ channel.config = omega arith in
    ap (λ (m : ℕ). any_of 0 rules marks (λ n. m == n && channel.bus == bus)) (sym zero_on) ∙ any_at 0 channel.config rules marks (channel.bus == bus) few)

-- those on buses that pass
pub any_on : (sees : Sight → Bool) (test : ℕ → Bool) (rows : List Row)
    → list_any sees (on_buses test (sights_of rows)) ≡ list_any (λ (row : Row). test row.place.bus && sees (row_sight row)) rows
any_on sees test [] = refl
any_on sees test (row ∷ rows) = by (test row.place.bus) (any_on sees test rows)
  where
    by : (passes : Bool) → list_any sees (on_buses test (sights_of rows)) ≡ list_any (λ (row : Row). test row.place.bus && sees (row_sight row)) rows
        → list_any sees (cond passes (row_sight row ∷ on_buses test (sights_of rows)) (on_buses test (sights_of rows))) ≡
        ((passes && sees (row_sight row)) || list_any (λ (row : Row). test row.place.bus && sees (row_sight row)) rows)
    by true later = ap (λ (t : Bool). sees (row_sight row) || t) later
    by false later = later

rows_open : (rules : List Rule) (marks : List Bool) (rows : List Row) (bus : ℕ) → length marks ≤ length rules
    → any_of 0 rules marks (λ n. moves_to (roots (sights_of rows)) n bus) ≡ list_any (leads_on marks bus) rows
rows_open rules marks rows bus few =
    any_swap rules marks (λ (sight : Sight) (n : ℕ). sight.opened n bus) (roots (sights_of rows))
    ∙ any_on (λ sight. any_of 0 rules marks (λ n. sight.opened n bus)) is_root rows
    ∙ same_any _ _ rows (λ row. ap (λ (t : Bool). is_root row.place.bus && t) (row_opens rules marks row bus few))

-- by marks that agree
fixed_none : (rules : List Rule) (marks : List Bool) (bus : ℕ) → ((n : ℕ) → is_marked marks n ≡ false) → fixed_opens rules marks bus ≡ false
fixed_none [] marks bus none = refl
fixed_none (rule ∷ rules) [] bus none = refl
fixed_none (rule ∷ rules) (first ∷ later) bus none =
    ap₂ (λ (x y : Bool). (x && list_any (nat_eq bus) rule.fixed) || y) (none 0) (fixed_none rules later bus (λ n. none (suc n)))

fixed_same : (rules : List Rule) (marks others : List Bool) (bus : ℕ) → ((n : ℕ) → is_marked marks n ≡ is_marked others n)
    → fixed_opens rules marks bus ≡ fixed_opens rules others bus
fixed_same [] marks others bus alike = refl
fixed_same (rule ∷ rules) [] [] bus alike = refl
fixed_same (rule ∷ rules) [] (first ∷ later) bus alike = sym (fixed_none (rule ∷ rules) (first ∷ later) bus (λ n. sym (alike n)))
fixed_same (rule ∷ rules) (first ∷ later) [] bus alike = fixed_none (rule ∷ rules) (first ∷ later) bus alike
fixed_same (rule ∷ rules) (first ∷ later) (other ∷ others) bus alike =
    ap₂ (λ (x y : Bool). (x && list_any (nat_eq bus) rule.fixed) || y) (alike 0) (fixed_same rules later others bus (λ n. alike (suc n)))

leads_same : (marks others : List Bool) (rows : List Row) (bus : ℕ) → ((n : ℕ) → is_marked marks n ≡ is_marked others n)
    → list_any (leads_on marks bus) rows ≡ list_any (leads_on others bus) rows
leads_same marks others rows bus alike =
    same_any _ _ rows
    (λ row. ap
    (λ (t : Bool). is_root row.place.bus && t) (same_any _ _ row.channels (λ channel. ap (λ (t : Bool). t && channel.bus == bus) (alike channel.config))))

-- marks that agree below 256 agree at each number
same_marks : (marks others : List Bool) → length marks ≤ 256 → length others ≤ 256 → AreMarked marks (is_marked others) → (n : ℕ)
    → is_marked marks n ≡ is_marked others n
same_marks marks others few others_few told n =
    elim (cases_lt n 256) [ inl lt ↦ told n lt | inr le ↦ get_or_past marks n false (omega arith) ∙ sym (get_or_past others n false (omega arith)) ]

-- the buses that the code marks are the reachable ones
pub reached_is : (rules : List Rule) (rows : List Row) (first : List Bool) (bus : ℕ) → length rules ≤ 256 → length first ≡ 256
    → AreMarked first (is_marked (found rules (roots (sights_of rows))))
    → (is_root bus || fixed_opens rules first bus || list_any (leads_on first bus) rows) ≡ is_reached rules (sights_of rows) bus
reached_is rules rows first bus few long given =
    let marks = found rules (roots (sights_of rows)) in
    let len : length marks ≡ length rules = length-found_from rules rules (matched_by (roots (sights_of rows))) [] ∙ omega arith in
    let agree = same_marks first marks (omega arith) (omega arith) given in
    or_assoc (is_root bus) (fixed_opens rules first bus) (list_any (leads_on first bus) rows)
    ∙ ap (λ (t : Bool). is_root bus || t) (
    ap₂ (λ (x y : Bool). x || y) (fixed_same rules first marks bus agree) (leads_same first marks rows bus agree
    ∙ sym (rows_open rules marks rows bus (omega arith)))
    ∙ sym (opens_apart 0 rules marks (roots (sights_of rows)) bus))
