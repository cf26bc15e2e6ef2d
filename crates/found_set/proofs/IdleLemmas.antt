-- A row that is covered by others changes no fact.
use Rattle.std.proofs.Common.{◌≡◌, ℕ, ◌+◌, Bool, true, false, not, cond, ◌&&◌, ◌||◌, ◌==◌, nat_eq, List, [], ◌∷◌, ◌++◌, length, refl, ap, ap₂, sym}
use Rattle.std.proofs.Common.{subst, ◌∙◌, arith}
use Rattle.std.specs.List.{list_all, list_any}
use Rattle.std.proofs.lemmas.List.Folds.{list_any-append}
use Rattle.std.proofs.lemmas.Bool.{and_parts, and_from, or_left, or_right}
use Rattle.std.proofs.lemmas.Bool.Decides.{nat_tests}
use Rattle.probe_lang.specs.Sights.{Sight, has_hit, has_channel}
use Rattle.probe_lang.specs.declared.rows.Hit.{Hit}
use Rattle.probe_lang.specs.declared.rows.Channel.{Channel}
use Rattle.found_set.specs.declared.facts.Facts.{Facts}
use Rattle.found_set.specs.declared.row.Row.{Row}
use Rattle.found_set.specs.Marks.{marks, is_marked}
use Rattle.found_set.specs.Found.{Rule, found_from, found, matched_by, on_buses, is_root, roots, moves_to, opens, is_reached, visible, facts}
use Rattle.found_set.specs.Rows.{row_sight, sights_of, is_idle}
use Rattle.found_set.specs.Buses.{has_on}
use Rattle.found_set.specs.Covers.{AreWithOrWithout, beside, is_covered}
use Rattle.found_set.proofs.BusesLemmas.{any_on}

-- facts read of sights only what they have in common on each choice of buses
opens_same : (c : ℕ) (rules : List Rule) (marks : List Bool) (sights others : List Sight) (bus : ℕ) → ((n : ℕ) → moves_to sights n bus ≡ moves_to others n bus)
    → opens c rules marks sights bus ≡ opens c rules marks others bus
opens_same c [] marks sights others bus alike = refl
opens_same c (rule ∷ rules) [] sights others bus alike = refl
opens_same c (rule ∷ rules) (first ∷ later) sights others bus alike =
    ap₂ (λ (x y : Bool). (first && (list_any (nat_eq bus) rule.fixed || x)) || y) (alike c) (opens_same (c + 1) rules later sights others bus alike)

-- what is found is told by what matches
pub found_as : (rules : List Rule) (sights others : List Sight) → ((c p : ℕ) → matched_by sights c p ≡ matched_by others c p)
    → found rules sights ≡ found rules others
found_as rules sights others alike =
    let same : matched_by sights ≡ matched_by others = λ i c p. alike c p i in
    ap (λ (t : ℕ → ℕ → Bool). found_from rules rules t []) same

-- and of the choices of buses, only the root buses and then those that are reachable
module _ (sights others : List Sight) (rules : List Rule) (near : (c p : ℕ) → matched_by (roots sights) c p ≡ matched_by (roots others) c p)
    (moved : (c bus : ℕ) → moves_to (roots sights) c bus ≡ moves_to (roots others) c bus) where
  reached_same : (bus : ℕ) → is_reached rules sights bus ≡ is_reached rules others bus
  reached_same bus =
      ap (λ (b : Bool). is_root bus || b) (opens_same 0 rules (found rules (roots sights)) (roots sights) (roots others) bus (λ n. moved n bus)
      ∙ ap (λ (ms : List Bool). opens 0 rules ms (roots others) bus) (found_as rules (roots sights) (roots others) near))

  facts_as : ((c p : ℕ) → matched_by (visible rules sights) c p ≡ matched_by (on_buses (is_reached rules sights) others) c p)
      → facts rules sights ≡ facts rules others
  facts_as far =
      let reach : is_reached rules sights ≡ is_reached rules others = λ i bus. reached_same bus i in
      let seen : found rules (visible rules sights) ≡ found rules (visible rules others) =
      found_as rules (visible rules sights) (on_buses (is_reached rules sights) others) far
      ∙ ap (λ (test : ℕ → Bool). found rules (on_buses test others)) reach in
      ap₂ (λ (fs : List Bool) (test : ℕ → Bool). let f : Facts = record { found = marks (is_marked fs); reach = marks test } in f) seen reach

pub facts_same : (sights others : List Sight)
    → ((test : ℕ → Bool) (c p : ℕ) → matched_by (on_buses test sights) c p ≡ matched_by (on_buses test others) c p)
    → ((c bus : ℕ) → moves_to (roots sights) c bus ≡ moves_to (roots others) c bus) → (rules : List Rule)
    → facts rules sights ≡ facts rules others
facts_same sights others matched moved rules = facts_as sights others rules (matched is_root) moved (matched (is_reached rules sights))

-- whether a row on a root bus leads to a bus
abbrev moves_on : ℕ → ℕ → Row → Bool
moves_on c bus row = is_root row.place.bus && (row_sight row).opened c bus

matched_rows : (test : ℕ → Bool) (rows : List Row) (c p : ℕ) → matched_by (on_buses test (sights_of rows)) c p ≡ list_any (has_on test c p) rows
matched_rows test rows c p = any_on (λ (s : Sight). s.matched c p) test rows

-- a test that a row fails, or one of the others passes, has one answer with the row and without it
settled : (test : Row → Bool) (row : Row) (others rows : List Row) → AreWithOrWithout row others rows
    → (test row ≡ true → list_any test others ≡ true) → list_any test rows ≡ list_any test others
settled test row others rows beside given = by (test row) refl
  where
    by : (passes : Bool) → test row ≡ passes → list_any test rows ≡ list_any test others
    by true is = beside.more test (given is) ∙ sym (given is)
    by false is = beside.same test is

same_number : (m n : ℕ) → (m == n) ≡ true → m ≡ n
same_number m n same = grind (arith, nat_tests)

-- each hit passes a test that they all pass
hit_passes : (hits : List Hit) (test : ℕ → ℕ → Bool) (c p : ℕ) → list_all (λ (hit : Hit). test hit.config hit.pattern) hits ≡ true
    → has_hit hits c p ≡ true → test c p ≡ true
hit_passes [] test c p all has = absurd (cc)
hit_passes (hit ∷ hits) test c p all has =
    let two = and_parts _ _ all in
    by (hit.config == c && hit.pattern == p) refl (hit_passes hits test c p two.1) two.0 has
  where
    by : (here : Bool) → (hit.config == c && hit.pattern == p) ≡ here → (has_hit hits c p ≡ true → test c p ≡ true) → test hit.config hit.pattern ≡ true
        → (here || has_hit hits c p) ≡ true → test c p ≡ true
    by true is rest first has =
        let both = and_parts _ _ is in
        ap₂ test (sym (same_number hit.config c both.0)) (sym (same_number hit.pattern p both.1)) ∙ first
    by false is rest first has = rest has

-- a test of buses for a wider one
has_wider : (test other : ℕ → Bool) (c p : ℕ) → ((bus : ℕ) → test bus ≡ true → other bus ≡ true) → (rows : List Row)
    → list_any (has_on test c p) rows ≡ true → list_any (has_on other c p) rows ≡ true
has_wider test other c p wider [] has = has
has_wider test other c p wider (row ∷ rows) has =
    by (has_on test c p row) refl (has_wider test other c p wider rows) has
  where
    by : (here : Bool) → has_on test c p row ≡ here → (list_any (has_on test c p) rows ≡ true → list_any (has_on other c p) rows ≡ true)
        → (here || list_any (has_on test c p) rows) ≡ true → list_any (has_on other c p) (row ∷ rows) ≡ true
    by true is rest has =
        let both = and_parts _ _ is in
        or_left _ _ (and_from _ _ (wider row.place.bus both.0) both.1)
    by false is rest has = or_right _ _ (rest has)

beside_wider : (root : Bool) (test : ℕ → Bool) → ((bus : ℕ) → is_root bus ≡ true → test bus ≡ true) → (bus : ℕ)
    → (cond root is_root test) bus ≡ true → test bus ≡ true
beside_wider true test roots_pass bus is = roots_pass bus is
beside_wider false test roots_pass bus is = is

unless : (passes all : Bool) → (not passes || all) ≡ true → passes ≡ true → all ≡ true
unless true all either is = either
unless false all either is = absurd (cc)

no_channels : (root : Bool) (channels : List Channel) (c bus : ℕ) → (not root || length channels == 0) ≡ true
    → (root && has_channel channels c bus) ≡ false
no_channels false channels c bus none = refl
no_channels true [] c bus none = refl
no_channels true (channel ∷ channels) c bus none = absurd (grind (arith, nat_tests))

module _ (rules : List Rule) (row : Row) (others before now : List Row) (was : AreWithOrWithout row others before) (is : AreWithOrWithout row others now)
    (covered : is_covered (is_reached rules (sights_of before)) row others ≡ true) where
  abbrev reached : ℕ → Bool
  reached = is_reached rules (sights_of before)

  -- what a row that is seen has, another has that counts too
  had : (c p : ℕ) → reached row.place.bus ≡ true → has_hit row.hits c p ≡ true → list_any (has_on (beside reached row) c p) others ≡ true
  had c p seen has =
      hit_passes row.hits (λ (config pattern : ℕ). list_any (has_on (beside reached row) config pattern) others) c p
      (unless _ _ (and_parts _ _ covered).1 seen) has

  root_reached : (bus : ℕ) → is_root bus ≡ true → reached bus ≡ true
  root_reached bus is_one = or_left _ _ is_one

  near_had : (c p : ℕ) → has_on is_root c p row ≡ true → list_any (has_on is_root c p) others ≡ true
  near_had c p has =
      let both = and_parts _ _ has in
      ap (λ (root : Bool). list_any (has_on (cond root is_root reached) c p) others) (sym both.0) ∙ had c p (root_reached row.place.bus both.0) both.1

  far_had : (c p : ℕ) → has_on reached c p row ≡ true → list_any (has_on reached c p) others ≡ true
  far_had c p has =
      let both = and_parts _ _ has in
      has_wider (beside reached row) reached c p (beside_wider (is_root row.place.bus) reached root_reached) others (had c p both.0 both.1)

  settled_twice : (test : Row → Bool) → (test row ≡ true → list_any test others ≡ true) → list_any test before ≡ list_any test now
  settled_twice test given = settled test row others before was given ∙ sym (settled test row others now is given)

  -- a row that is covered changes no fact
  pub covered_same : facts rules (sights_of before) ≡ facts rules (sights_of now)
  covered_same =
      facts_as (sights_of before) (sights_of now) rules
      (λ c p. matched_rows is_root before c p ∙ settled_twice (has_on is_root c p) (near_had c p) ∙ sym (matched_rows is_root now c p))
      (λ c bus. any_on (λ (s : Sight). s.opened c bus) is_root before
      ∙ settled_twice (moves_on c bus) (λ opens. let no : moves_on c bus row ≡ false =
      no_channels (is_root row.place.bus) row.channels c bus (and_parts _ _ covered).0 in absurd (cc))
      ∙ sym (any_on (λ (s : Sight). s.opened c bus) is_root now))
      (λ c p. matched_rows reached before c p ∙ settled_twice (has_on reached c p) (far_had c p) ∙ sym (matched_rows reached now c p))

-- one that fails a test, among others
any_without : (test : Row → Bool) (before after : List Row) (row : Row) → test row ≡ false
    → list_any test (before ++ row ∷ after) ≡ list_any test (before ++ after)
any_without test before after row fails =
    list_any-append test before (row ∷ after) ∙ ap (λ (b : Bool). list_any test before || (b || list_any test after)) fails
    ∙ sym (list_any-append test before after)

or_more : (left middle right : Bool) → (left || right) ≡ true → (left || (middle || right)) ≡ true
or_more true middle right either = refl
or_more false true right either = refl
or_more false false right either = either

-- rows with one, and without it
with_one_more : (before after : List Row) (row : Row) → AreWithOrWithout row (before ++ after) (before ++ row ∷ after)
with_one_more before after row = record {
  same = λ test fails. any_without test before after row fails;
  more = λ test has. list_any-append test before (row ∷ after)
      ∙ or_more (list_any test before) (test row) (list_any test after) (sym (list_any-append test before after) ∙ has);
}

with_none_more : (rows : List Row) (row : Row) → AreWithOrWithout row rows rows
with_none_more rows row = record { same = λ test fails. refl; more = λ test has. has }

pub are_with : (before after : List Row) (row : Row) (others rows : List Row) → others ≡ before ++ after → rows ≡ before ++ row ∷ after
    → AreWithOrWithout row others rows
are_with before after row others rows first second =
    subst (λ (rest : List Row). AreWithOrWithout row rest rows) (sym first)
    (subst (λ (all : List Row). AreWithOrWithout row (before ++ after) all) (sym second) (with_one_more before after row))

pub are_without : (row : Row) (others rows : List Row) → others ≡ rows → AreWithOrWithout row others rows
are_without row others rows same = subst (λ (rest : List Row). AreWithOrWithout row rest rows) (sym same) (with_none_more rows row)

-- a row with neither hits nor channels is covered
idle_as : (root seen : Bool) (hits : List Hit) (channels : List Channel) (test : Hit → Bool) → (length hits == 0 && length channels == 0) ≡ true
    → ((not root || length channels == 0) && (not seen || list_all test hits)) ≡ true
idle_as true true [] [] test none = refl
idle_as true false [] [] test none = refl
idle_as false true [] [] test none = refl
idle_as false false [] [] test none = refl
idle_as root seen [] (channel ∷ channels) test none = absurd (grind (arith, nat_tests))
idle_as root seen (hit ∷ hits) channels test none = absurd (grind (arith, nat_tests))

pub idle_covered : (test : ℕ → Bool) (row : Row) (others : List Row) → is_idle row ≡ true → is_covered test row others ≡ true
idle_covered test row others idle =
    idle_as (is_root row.place.bus) (test row.place.bus) row.hits row.channels
    (λ (hit : Hit). list_any (has_on (beside test row) hit.config hit.pattern) others) idle

-- so one that is not covered has some
pub busy_unless_covered : (test : ℕ → Bool) (row : Row) (others : List Row) → is_covered test row others ≡ false → is_idle row ≡ false
busy_unless_covered test row others bare = by (is_idle row) refl
  where
    by : (idle : Bool) → is_idle row ≡ idle → idle ≡ false
    by true is = let yes = idle_covered test row others is in absurd (cc)
    by false is = refl

pub idle_among : (rules : List Rule) (before after : List Row) (row : Row) → is_idle row ≡ true
    → facts rules (sights_of (before ++ row ∷ after)) ≡ facts rules (sights_of (before ++ after))
idle_among rules before after row idle =
    covered_same rules row (before ++ after) (before ++ row ∷ after) (before ++ after) (with_one_more before after row) (with_none_more (before ++ after) row)
    (idle_covered (is_reached rules (sights_of (before ++ row ∷ after))) row (before ++ after) idle)
