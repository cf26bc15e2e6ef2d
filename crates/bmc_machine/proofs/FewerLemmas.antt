-- Where FRUs are taken away, no configuration has more boards.
use Rattle.std.proofs.Common.{◌≡◌, ℕ, zero, suc, ◌+◌, ◌≤◌, List, [], ◌∷◌, ◌++◌, Bool, true, false, cond, nat_eq, ◌&&◌, ◌||◌, Option, Some, None, filter}
use Rattle.std.proofs.Common.{refl, sym, ap, ◌∙◌, subst, inl, inr, arith, slice_get, option_map}
use Rattle.std.specs.Prelude.{⊤, length}
use Rattle.std.specs.Option.{unwrap_or}
use Rattle.std.specs.List.{list_any}
use Rattle.std.proofs.lemmas.Bool.{or_cases, or_left, or_right}
use Rattle.std.proofs.lemmas.List.{length-map}
use Rattle.bmc_base.specs.Places.{Place}
use Rattle.probe_lang.specs.Sights.{Sight}
use Rattle.probe_lang.specs.Values.{operand, joined, value_from, value}
use Rattle.probe_lang.specs.declared.word.Word.{Word}
use Rattle.probe_lang.specs.declared.word.Word.TheVariants.{Always, Never, Found, Fru, And, Or}
use Rattle.cfg_json.specs.Configs.{Config}
use Rattle.found_set.specs.Found.{Rule, number_of, is_named_found, found_from, matched_by, found, on_buses, is_root, moves_to, opens, is_reached, is_found}
use Rattle.found_set.specs.Marks.{is_marked}
use Rattle.found_set.specs.Named.{mark_of}
use Rattle.inventory.specs.Boards.{places_or_none, hit_places, config_places, board_places, rules_of, boards_in}
use Rattle.inventory.proofs.BoardLemmas.{and_both, and_first, and_second}

-- the second is true where the first is
abbrev Shows : Bool → Bool → Type 0
Shows few many = few ≡ true → many ≡ true

passes_more : (keeps few many passes : Bool) → Shows few many → Shows (keeps && (few && passes)) (many && passes)
passes_more keeps few many passes shows is =
    let rest : (few && passes) ≡ true = and_second keeps (few && passes) is in
    and_both many passes (shows (and_first few passes rest)) (and_second few passes rest)

-- ---- probes

joined_more : (op : Word) (left right more_left more_right : Bool) → Shows left more_left → Shows right more_right
    → Shows (joined op left right) (joined op more_left more_right)
joined_more And left right more_left more_right lefts rights both = and_both _ _ (lefts (and_first _ _ both)) (rights (and_second _ _ both))
joined_more Or left right more_left more_right lefts rights either =
    elim (or_cases left right either) [ inl is ↦ or_left _ _ (lefts is) | inr is ↦ or_right _ _ (rights is) ]
joined_more Always left right more_left more_right lefts rights is = lefts is
joined_more Never left right more_left more_right lefts rights is = lefts is
joined_more (Found name) left right more_left more_right lefts rights is = lefts is
joined_more (Fru n) left right more_left more_right lefts rights is = lefts is

-- where more patterns are true and more configurations are found
module _ (few many : ℕ → Bool) (tests : (n : ℕ) → Shows (few n) (many n))
    (named more_named : List ℕ → Bool) (names : (name : List ℕ) → Shows (named name) (more_named name)) where
  operand_more : (word : Word) → Shows (operand word few named) (operand word many more_named)
  operand_more Always is = refl
  operand_more Never is = is
  operand_more (Found name) is = names name is
  operand_more (Fru n) is = tests n is
  operand_more And is = is
  operand_more Or is = is

  value_from_more : (so_far more_so_far : Bool) (words : List Word) → Shows so_far more_so_far
      → Shows (value_from so_far words few named) (value_from more_so_far words many more_named)
  value_from_more so_far more_so_far [] shows is = shows is
  value_from_more so_far more_so_far (op ∷ []) shows is = shows is
  value_from_more so_far more_so_far (op ∷ word ∷ words) shows is =
      value_from_more (joined op so_far (operand word few named)) (joined op more_so_far (operand word many more_named)) words
      (joined_more op so_far (operand word few named) more_so_far (operand word many more_named) shows (operand_more word)) is

  value_more : (words : List Word) → Shows (value words few named) (value words many more_named)
  value_more [] is = is
  value_more (word ∷ words) is = value_from_more (operand word few named) (operand word many more_named) words (operand_more word) is

-- ---- marks

-- each mark of the first list is in the second
abbrev AreMore : List Bool → List Bool → Type 0
AreMore [] [] = ⊤
AreMore [] (many ∷ more) = ⊥
AreMore (few ∷ fewer) [] = ⊥
AreMore (few ∷ fewer) (many ∷ more) = Shows few many × AreMore fewer more

more_length : (fewer more : List Bool) → AreMore fewer more → length fewer ≡ length more
more_length [] [] are = refl
more_length [] (many ∷ more) are = absurd are
more_length (few ∷ fewer) [] are = absurd are
more_length (few ∷ fewer) (many ∷ more) are = ap suc (more_length fewer more are.1)

more_behind : (fewer more : List Bool) (few many : Bool) → AreMore fewer more → Shows few many → AreMore (fewer ++ few ∷ []) (more ++ many ∷ [])
more_behind [] [] few many are shows = (shows, tt)
more_behind [] (first ∷ more) few many are shows = absurd are
more_behind (first ∷ fewer) [] few many are shows = absurd are
more_behind (first ∷ fewer) (other ∷ more) few many are shows = (are.0, more_behind fewer more few many are.1 shows)

more_marked : (fewer more : List Bool) → AreMore fewer more → (number : ℕ) → Shows (is_marked fewer number) (is_marked more number)
more_marked [] [] are number is = is
more_marked [] (many ∷ more) are number is = absurd are
more_marked (few ∷ fewer) [] are number is = absurd are
more_marked (few ∷ fewer) (many ∷ more) are zero is = are.0 is
more_marked (few ∷ fewer) (many ∷ more) are (suc number) is = more_marked fewer more are.1 number is

more_named : (fewer more : List Bool) → AreMore fewer more → (number : Option ℕ) → Shows (mark_of number fewer) (mark_of number more)
more_named fewer more are None is = is
more_named fewer more are (Some number) is = more_marked fewer more are number is

module _ (all : List Rule) (few many : ℕ → ℕ → Bool) (tests : (config pattern : ℕ) → Shows (few config pattern) (many config pattern)) where
  -- where more are found so far, more are found in the end
  found_from_more : (rules : List Rule) (fewer more : List Bool) → AreMore fewer more
      → AreMore (found_from all rules few fewer) (found_from all rules many more)
  found_from_more [] fewer more are = are
  found_from_more (rule ∷ rules) fewer more are =
      found_from_more rules _ _ (more_behind fewer more _ _ are
      (value_more (few (length fewer)) (many (length more)) at_length (is_named_found all fewer) (is_named_found all more)
      (λ name. more_named fewer more are (number_of all name)) rule.probe.words))
    where
      at_length : (pattern : ℕ) → Shows (few (length fewer) pattern) (many (length more) pattern)
      at_length pattern is = sym (ap (λ config. many config pattern) (more_length fewer more are)) ∙ tests (length fewer) pattern is

-- ---- what is seen

module _ {X : Type 0} where
  any_weaker : (test other : X → Bool) → ((x : X) → Shows (test x) (other x)) → (xs : List X) → Shows (list_any test xs) (list_any other xs)
  any_weaker test other shows [] is = is
  any_weaker test other shows (first ∷ xs) is =
      elim (or_cases (test first) (list_any test xs) is)
      [ inl here ↦ or_left _ _ (shows first here) | inr later ↦ or_right _ _ (any_weaker test other shows xs later) ]

  any_passing : (test pass : X → Bool) (xs : List X) → list_any test (filter pass xs) ≡ list_any (λ x. pass x && test x) xs
  any_passing test pass [] = refl
  any_passing test pass (first ∷ xs) = by (pass first) ∙ ap (λ (later : Bool). (pass first && test first) || later) (any_passing test pass xs)
    where
      by : (passes : Bool) → list_any test (cond passes (first ∷ filter pass xs) (filter pass xs)) ≡ ((passes && test first) || list_any test (filter pass xs))
      by true = refl
      by false = refl

  pub filter_both : (test pass : X → Bool) (xs : List X) → filter test (filter pass xs) ≡ filter (λ x. pass x && test x) xs
  filter_both test pass [] = refl
  filter_both test pass (first ∷ xs) = by (pass first) (filter_both test pass xs)
    where
      by : (passes : Bool) → filter test (filter pass xs) ≡ filter (λ x. pass x && test x) xs
          → filter test (cond passes (first ∷ filter pass xs) (filter pass xs))
          ≡ cond (passes && test first) (first ∷ filter (λ x. pass x && test x) xs) (filter (λ x. pass x && test x) xs)
      by true rest = ap (λ (later : List X). cond (test first) (first ∷ later) later) rest
      by false rest = rest

  pub length_weaker : (test other : X → Bool) → ((x : X) → Shows (test x) (other x)) → (xs : List X) → length (filter test xs) ≤ length (filter other xs)
  length_weaker test other shows [] = omega arith
  length_weaker test other shows (first ∷ xs) = by (test first) (other first) (shows first) (length_weaker test other shows xs)
    where
      by : (few many : Bool) → Shows few many → length (filter test xs) ≤ length (filter other xs)
          → length (cond few (first ∷ filter test xs) (filter test xs)) ≤ length (cond many (first ∷ filter other xs) (filter other xs))
      by true true shows rest = omega (arith, rest)
      by true false shows rest = let never : false ≡ true = shows refl in absurd (cc)
      by false true shows rest = omega (arith, rest)
      by false false shows rest = rest

-- these FRUs, and those of them that are kept
module _ (rules : List Rule) (keep : Sight → Bool) (sights : List Sight) where
  abbrev kept : List Sight
  kept = filter keep sights

  seen_more : (test : Sight → Bool) (few many : ℕ → Bool) → ((bus : ℕ) → Shows (few bus) (many bus))
      → Shows (list_any test (on_buses few kept)) (list_any test (on_buses many sights))
  seen_more test few many buses is =
      any_passing test (λ (sight : Sight). many sight.place.bus) sights
      ∙ any_weaker (λ (sight : Sight). keep sight && (few sight.place.bus && test sight)) (λ (sight : Sight). many sight.place.bus && test sight)
      (λ sight. passes_more (keep sight) (few sight.place.bus) (many sight.place.bus) (test sight) (buses sight.place.bus)) sights
      (sym (any_passing (λ (sight : Sight). few sight.place.bus && test sight) keep sights)
      ∙ sym (any_passing test (λ (sight : Sight). few sight.place.bus) kept) ∙ is)

  found_more : (few many : ℕ → Bool) → ((bus : ℕ) → Shows (few bus) (many bus)) → AreMore (found rules (on_buses few kept)) (found rules (on_buses many sights))
  found_more few many buses =
      found_from_more rules (matched_by (on_buses few kept)) (matched_by (on_buses many sights))
      (λ config pattern. seen_more (λ (sight : Sight). sight.matched config pattern) few many buses) rules [] [] tt

  opens_more : (some : List Rule) (fewer more : List Bool) → AreMore fewer more → (config bus : ℕ)
      → Shows (opens config some fewer (on_buses is_root kept) bus) (opens config some more (on_buses is_root sights) bus)
  opens_more [] fewer more are config bus is = is
  opens_more (rule ∷ some) [] [] are config bus is = is
  opens_more (rule ∷ some) [] (many ∷ more) are config bus is = absurd are
  opens_more (rule ∷ some) (few ∷ fewer) [] are config bus is = absurd are
  opens_more (rule ∷ some) (few ∷ fewer) (many ∷ more) are config bus is =
      elim (or_cases (few && (fixed || moves kept)) later is) [
        | inl here ↦ or_left _ _ (and_both many (fixed || moves sights) (are.0 (and_first few (fixed || moves kept) here))
            (leads (and_second few (fixed || moves kept) here)))
        | inr behind ↦ or_right _ _ (opens_more some fewer more are.1 (config + 1) bus behind)
      ]
    where
      fixed : Bool
      fixed = list_any (nat_eq bus) rule.fixed

      moves : List Sight → Bool
      moves some_sights = moves_to (on_buses is_root some_sights) config bus

      later : Bool
      later = opens (config + 1) some fewer (on_buses is_root kept) bus

      leads : Shows (fixed || moves kept) (fixed || moves sights)
      leads either =
          elim (or_cases fixed (moves kept) either) [
            | inl is_fixed ↦ or_left _ _ is_fixed
            | inr moved ↦ or_right _ _ (seen_more (λ (sight : Sight). sight.opened config bus) is_root is_root (λ each root. root) moved)
          ]

  reached_more : (bus : ℕ) → Shows (is_reached rules kept bus) (is_reached rules sights bus)
  reached_more bus is =
      elim (or_cases (is_root bus) (opens 0 rules (found rules (on_buses is_root kept)) (on_buses is_root kept) bus) is) [
        | inl root ↦ or_left _ _ root
        | inr opened ↦ or_right _ _ (opens_more rules _ _ (found_more is_root is_root (λ each root. root)) 0 bus opened)
      ]

  is_found_more : (number : ℕ) → Shows (is_found rules kept number) (is_found rules sights number)
  is_found_more number is = more_marked _ _ (found_more (is_reached rules kept) (is_reached rules sights) reached_more) number is

  -- of those that are kept no more are matched
  hits_fewer : (number : ℕ) → length (hit_places (is_reached rules kept) kept number) ≤ length (hit_places (is_reached rules sights) sights number)
  hits_fewer number =
      subst (λ (n : ℕ). n ≤ length (hit_places (is_reached rules sights) sights number)) (sym few_are)
      (subst (λ (n : ℕ). length (filter few sights) ≤ n) (sym many_are) (length_weaker few many shows sights))
    where
      few : Sight → Bool
      few sight = keep sight && (is_reached rules kept sight.place.bus && sight.hit number)

      many : Sight → Bool
      many sight = is_reached rules sights sight.place.bus && sight.hit number

      shows : (sight : Sight) → Shows (few sight) (many sight)
      shows sight =
          passes_more (keep sight) (is_reached rules kept sight.place.bus) (is_reached rules sights sight.place.bus) (sight.hit number)
          (reached_more sight.place.bus)

      few_are : length (hit_places (is_reached rules kept) kept number) ≡ length (filter few sights)
      few_are =
          length-map _ (λ (sight : Sight). sight.place)
          ∙ ap length (filter_both (λ (sight : Sight). sight.hit number) (λ (sight : Sight). is_reached rules kept sight.place.bus) kept
          ∙ filter_both (λ (sight : Sight). is_reached rules kept sight.place.bus && sight.hit number) keep sights)

      many_are : length (hit_places (is_reached rules sights) sights number) ≡ length (filter many sights)
      many_are =
          length-map _ (λ (sight : Sight). sight.place)
          ∙ ap length (filter_both (λ (sight : Sight). sight.hit number) (λ (sight : Sight). is_reached rules sights sight.place.bus) sights)

-- ---- boards

places_fewer : (match_one : Bool) (few many : List Place) → length few ≤ length many
    → length (places_or_none match_one few) ≤ length (places_or_none match_one many)
places_fewer match_one [] [] fewer = omega arith
places_fewer true [] (place ∷ many) fewer = omega arith
places_fewer false [] (place ∷ many) fewer = omega arith
places_fewer match_one (place ∷ few) [] fewer = absurd (omega (arith, fewer))
places_fewer true (place ∷ few) (other ∷ many) fewer = omega arith
places_fewer false (place ∷ few) (other ∷ many) fewer =
    let few_are = length-map (place ∷ few) Some in
    let many_are = length-map (other ∷ many) Some in
    omega (arith, fewer, few_are, many_are)

pub boards_fewer : (configs : List Config) (keep : Sight → Bool) (sights : List Sight) (number : ℕ)
    → length (boards_in configs (filter keep sights) number) ≤ length (boards_in configs sights number)
unfolding boards_in board_places
boards_fewer configs keep sights number = by (slice_get configs number)
  where
    rules : List Rule
    rules = rules_of configs

    kept_sights : List Sight
    kept_sights = filter keep sights

    if_found : (few many : Bool) (fewer more : List (Option Place)) → Shows few many → length fewer ≤ length more
        → length (cond few fewer []) ≤ length (cond many more [])
    if_found true true fewer more shows less = less
    if_found true false fewer more shows less = let never : false ≡ true = shows refl in absurd (cc)
    if_found false many fewer more shows less = omega arith

    by : (config : Option Config)
        → length (unwrap_or (option_map (config_places (is_found rules kept_sights) (is_reached rules kept_sights) kept_sights number) config) [])
        ≤ length (unwrap_or (option_map (config_places (is_found rules sights) (is_reached rules sights) sights number) config) [])
    by None = omega arith
    by (Some config) =
        if_found (is_found rules kept_sights number) (is_found rules sights number) _ _ (is_found_more rules keep sights number)
        (places_fewer config.probe.match_one _ _ (hits_fewer rules keep sights number))
