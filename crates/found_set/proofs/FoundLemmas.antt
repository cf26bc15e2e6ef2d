-- One configuration more, over those before it.
use Rattle.std.proofs.Common.{◌≡◌, ℕ, zero, suc, ◌+◌, ◌<◌, ◌≤◌, Bool, true, false, ◌&&◌, bytes_eq, nat_lt, List, [], ◌∷◌, ◌++◌, length, get_or, set}
use Rattle.std.proofs.Common.{take, drop, replicate, refl, ap, ap₂, sym, ◌∙◌, arith, append-nil, append_assoc}
use Rattle.std.specs.List.{list_all, list_any}
use Rattle.std.proofs.lemmas.List.{drop_more, take_more_set, length-append, length-take-le, length-map}
use Rattle.std.proofs.Math.Seq.{take-append_seam, get_or-append_seam}
use Rattle.std.proofs.lemmas.Bool.{and_parts, or_parts}
use Rattle.std.proofs.lemmas.Bool.Decides.{nat_tests}
use Rattle.std.specs.Prelude.{position}
use Rattle.probe_lang.specs.declared.word.Word.{Word}
use Rattle.probe_lang.specs.declared.word.Word.TheVariants.{Always, Never, Found, Fru, And, Or}
use Rattle.probe_lang.specs.Values.{asks_found, value, value_from, operand, joined, is_few, AreFew}
use Rattle.found_set.specs.Marks.{is_marked, is_true, AreTrue}
use Rattle.found_set.specs.Named.{mark_of, AreNames}
use Rattle.found_set.specs.Earlier.{marked_value}
use Rattle.found_set.specs.Found.{Rule, names_of, is_named_found, found_from}
use Rattle.found_set.proofs.NamedLemmas.{named_is, named_before}

-- probes with few patterns have one value, whatever is said of other patterns
module _ (patterns others : ℕ → Bool) (founds names : List ℕ → Bool) (same : (p : ℕ) → p < 17 → patterns p ≡ others p)
    (alike : (name : List ℕ) → founds name ≡ names name) where
  operand_few : (word : Word) → is_few word ≡ true → operand word patterns founds ≡ operand word others names
  operand_few Always given = refl
  operand_few Never given = refl
  operand_few (Found name) given = alike name
  operand_few (Fru n) given = let few : n < 17 = grind (arith, nat_tests) in same n few
  operand_few And given = refl
  operand_few Or given = refl

  from_few : (so_far : Bool) (words : List Word) → list_all is_few words ≡ true → value_from so_far words patterns founds ≡ value_from so_far words others names
  from_few so_far [] given = refl
  from_few so_far (op ∷ []) given = refl
  from_few so_far (op ∷ word ∷ words) given =
      let later = and_parts _ _ (and_parts _ _ given).1 in
      ap (λ (b : Bool). value_from (joined op so_far b) words patterns founds) (operand_few word later.0)
      ∙ from_few (joined op so_far (operand word others names)) words later.1

  pub value_few : (words : List Word) → AreFew words → value words patterns founds ≡ value words others names
  value_few [] given = refl
  value_few (word ∷ words) given =
      let both = and_parts _ _ given in
      ap (λ (b : Bool). value_from b words patterns founds) (operand_few word both.0) ∙ from_few (operand word others names) words both.1

-- a probe that asks for no configuration has one value, whatever is said of them
module _ (patterns : ℕ → Bool) (founds names : List ℕ → Bool) where
  operand_alone : (word : Word) → asks_found word ≡ false → operand word patterns founds ≡ operand word patterns names
  operand_alone Always given = refl
  operand_alone Never given = refl
  operand_alone (Found name) given = absurd (cc)
  operand_alone (Fru n) given = refl
  operand_alone And given = refl
  operand_alone Or given = refl

  from_alone : (so_far : Bool) (words : List Word) → list_any asks_found words ≡ false
      → value_from so_far words patterns founds ≡ value_from so_far words patterns names
  from_alone so_far [] given = refl
  from_alone so_far (op ∷ []) given = refl
  from_alone so_far (op ∷ word ∷ words) given =
      let later = or_parts _ _ (or_parts _ _ given).1 in
      ap (λ (b : Bool). value_from (joined op so_far b) words patterns founds) (operand_alone word later.0)
      ∙ from_alone (joined op so_far (operand word patterns names)) words later.1

  pub value_alone : (words : List Word) → list_any asks_found words ≡ false → value words patterns founds ≡ value words patterns names
  value_alone [] given = refl
  value_alone (word ∷ words) given =
      let both = or_parts _ _ given in
      ap (λ (b : Bool). value_from b words patterns founds) (operand_alone word both.0) ∙ from_alone (operand word patterns names) words both.1

pub none_marked : (m n : ℕ) → is_marked (replicate m false) n ≡ false
none_marked zero n = refl
none_marked (suc m) zero = refl
none_marked (suc m) (suc n) = none_marked m n

pub all_marked : (m n : ℕ) → n < m → is_marked (replicate m true) n ≡ true
all_marked zero n below = absurd (omega (arith, below))
all_marked (suc m) zero below = refl
all_marked (suc m) (suc n) below = all_marked m n (omega (arith, below))

-- this configuration is found as the marks say
pub found_on : (names : List (List ℕ)) (rules : List Rule) (i : ℕ) (rule : Rule) (marks found : List Bool) (answer : Bool) → i < length rules → i < 256
    → AreFew rule.probe.words → ((n : ℕ) → i ≤ n → is_marked found n ≡ false) → AreNames names (names_of rules)
    → answer ≡ marked_value rule.probe.words marks i names found → (test : ℕ → ℕ → Bool) → AreTrue marks test
    → answer ≡ value rule.probe.words (test i) (is_named_found rules (take i found))
found_on names rules i rule marks found answer below small few none named told test given =
    let true_as : (p : ℕ) → p < 17 → (nat_lt p 17 && is_true marks i p) ≡ test i p =
    λ p lt. let yes : nat_lt p 17 ≡ true = grind (arith, nat_tests) in ap (λ (x : Bool). x && is_true marks i p) yes ∙ given i p small lt in
    let named_as : (name : List ℕ) → mark_of (position (bytes_eq name) names) found ≡ is_named_found rules (take i found) name =
    λ name. named_is names rules found name named (λ n le. none n (omega (arith, named.most, length-map rules (λ (r : Rule). r.name))))
    ∙ named_before rules found i name none in
    told ∙ value_few _ _ _ _ true_as named_as rule.probe.words few

-- and then it is marked so
pub marked_on : (rules : List Rule) (i : ℕ) (rule : Rule) (found : List Bool) (answer : Bool) (test : ℕ → ℕ → Bool) → i < length rules → i < length found
    → rule ≡ get_or rules i rule → answer ≡ value rule.probe.words (test i) (is_named_found rules (take i found))
    → found_from rules (drop (i + 1) rules) test (take (i + 1) (set found i answer)) ≡ found_from rules (drop i rules) test (take i found)
marked_on rules i rule found answer test below within is told =
    let len : length (take i found) ≡ i = length-take-le i found (omega arith) in
    let value_is : answer ≡ value rule.probe.words (test (length (take i found))) (is_named_found rules (take i found)) =
    told ∙ ap (λ (n : ℕ). value rule.probe.words (test n) (is_named_found rules (take i found))) (sym len) in
    ap (found_from rules (drop (i + 1) rules) test) (take_more_set found i answer within ∙ ap (λ (x : Bool). take i found ++ x ∷ []) value_is)
    ∙ sym (ap (λ (rs : List Rule). found_from rules rs test (take i found)) (drop_more rules i rule below ∙ ap (λ (r : Rule). r ∷ drop (i + 1) rules) (sym is)))

-- what was found is still at the front
record Continues (before all : List Bool) : Type 0 where
  rest : List Bool
  is : all ≡ before ++ rest

continues : (all rules : List Rule) (test : ℕ → ℕ → Bool) (before : List Bool) → Continues before (found_from all rules test before)
continues all [] test before = record { rest = []; is = sym (append-nil before) }
continues all (rule ∷ rules) test before =
    let answer : Bool = value rule.probe.words (test (length before)) (is_named_found all before) in
    let next = continues all rules test (before ++ answer ∷ []) in
    record { rest = answer ∷ next.rest; is = next.is ∙ append_assoc before (answer ∷ []) next.rest }

-- each mark is the value of a probe over the marks before it
found_at : (all rules : List Rule) (test : ℕ → ℕ → Bool) (before : List Bool) (n : ℕ) (rule : Rule) (k : ℕ) → n < length rules
    → rule ≡ get_or rules n rule → k ≡ length before + n
    → is_marked (found_from all rules test before) k ≡ value rule.probe.words (test k) (is_named_found all (take k (found_from all rules test before)))
found_at all [] test before n rule k below is at = absurd (omega (arith, below))
found_at all (first ∷ rules) test before zero rule k below is at =
    let answer : Bool = value first.probe.words (test (length before)) (is_named_found all before) in
    let next = continues all rules test (before ++ answer ∷ []) in
    let all_is : found_from all (first ∷ rules) test before ≡ before ++ answer ∷ next.rest = next.is ∙ append_assoc before (answer ∷ []) next.rest in
    let here : k ≡ length before = omega arith in
    let front : take k (found_from all (first ∷ rules) test before) ≡ before =
    ap₂ (λ (m : ℕ) (marks : List Bool). take m marks) here all_is ∙ take-append_seam before (answer ∷ next.rest) in
    ap₂ (λ (marks : List Bool) (m : ℕ). is_marked marks m) all_is here ∙ get_or-append_seam before answer next.rest false
    ∙ ap (λ (r : Rule). value r.probe.words (test (length before)) (is_named_found all before)) (sym is)
    ∙ ap₂ (λ (m : ℕ) (marks : List Bool). value rule.probe.words (test m) (is_named_found all marks)) (sym here) (sym front)
found_at all (first ∷ rules) test before (suc n) rule k below is at =
    let answer : Bool = value first.probe.words (test (length before)) (is_named_found all before) in
    found_at all rules test (before ++ answer ∷ []) n rule k (omega (arith, below)) is (omega (arith, length-append before (answer ∷ [])))

pub found_is : (rules : List Rule) (test : ℕ → ℕ → Bool) (n : ℕ) (rule : Rule) → n < length rules → rule ≡ get_or rules n rule
    → is_marked (found_from rules rules test []) n
    ≡ value rule.probe.words (test n) (is_named_found rules (take n (found_from rules rules test [])))
found_is rules test n rule below is = found_at rules rules test [] n rule n below is (omega arith)
