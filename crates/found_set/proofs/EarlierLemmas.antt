-- What was found and still holds.
use Rattle.std.proofs.Common.{◌≡◌, ◌∙◌, ℕ, ◌+◌, ◌<◌, ◌≤◌, Bool, true, false, not, cond, ◌&&◌, ◌||◌, ◌==◌, List, [], ◌∷◌, ◌++◌, length, get_or, set}
use Rattle.std.proofs.Common.{take, Option, Some, None, refl, ap, ap₂, sym, arith}
use Rattle.std.specs.Option.{unwrap_or}
use Rattle.std.specs.List.{list_any}
use Rattle.std.proofs.Math.Bool.{beq, and-false}
use Rattle.std.proofs.lemmas.Bool.{or_parts}
use Rattle.std.proofs.lemmas.List.{ext_get_or, get_or-take, length-take-le, take_more, take_more_set}
use Rattle.std.proofs.lemmas.List.FromFn.{get_or-map-range_with_len, length-map-range_with_len}
use Rattle.probe_lang.specs.Sights.{has_hit, has_config}
use Rattle.probe_lang.specs.declared.rows.Hit.{Hit}
use Rattle.probe_lang.specs.Values.{asks_found, value, AreFew}
use Rattle.found_set.specs.declared.facts.Facts.{Facts}
use Rattle.found_set.specs.declared.row.Row.{Row}
use Rattle.found_set.specs.Marks.{is_marked, marks, AreMarked, AreTrue}
use Rattle.found_set.specs.Named.{AreNames}
use Rattle.found_set.specs.Found.{Rule, names_of, is_named_found, is_root, is_reached, roots, visible, found, matched_by}
use Rattle.found_set.specs.Rows.{sights_of}
use Rattle.found_set.specs.Buses.{has_on, is_on_bus, is_beyond}
use Rattle.found_set.specs.Covers.{AreWithOrWithout}
use Rattle.found_set.specs.Earlier.{StillHold, WereBefore, marked_value, earlier_mark, changes}
use Rattle.found_set.proofs.BusesLemmas.{length-found_from}
use Rattle.found_set.proofs.FoundLemmas.{value_alone, found_on, found_is}
use Rattle.found_set.proofs.IdleLemmas.{found_as}
use Rattle.found_set.proofs.MarksLemmas.{matched_on, all_near}

-- where everything is touched, nothing has to hold
pub nothing_holds : (found touched : List Bool) (rules : List Rule) (test : ℕ → ℕ → Bool) → length rules ≤ 256 → AreMarked touched (λ n. true)
    → StillHold found touched rules test
nothing_holds found touched rules test few all = λ n rule below is untouched.
    let yes : is_marked touched n ≡ true = all n (omega arith) in absurd (cc)

same_answer : (left right : Bool) → beq left right ≡ true → left ≡ right
same_answer true true same = refl
same_answer true false same = absurd (cc)
same_answer false true same = absurd (cc)
same_answer false false same = refl

not_not : (answer : Bool) → not answer ≡ false → answer ≡ true
not_not true given = refl
not_not false given = absurd (cc)

-- as long as no mark has changed, the marks so far are those that were found
pub still_same : (earlier now : List Bool) (has_changed changed : Bool) (i : ℕ) (answer : Bool) → i < length earlier → i < length now
    → (has_changed ≡ false → take i now ≡ take i earlier) → changed ≡ changes earlier has_changed i answer → changed ≡ false
    → take (i + 1) (set now i answer) ≡ take (i + 1) earlier
still_same earlier now has_changed changed i answer within inside same told given =
    let two = or_parts _ _ (sym told ∙ given) in
    take_more_set now i answer inside
    ∙ ap₂ (λ (front : List Bool) (mark : Bool). front ++ mark ∷ []) (same two.0) (sym (same_answer _ _ (not_not _ two.1)))
    ∙ sym (take_more earlier i false within)

-- an earlier mark that stays, or the value of the probe, is what is found
pub found_again : (names : List (List ℕ)) (rules : List Rule) (i : ℕ) (rule : Rule) (marks now earlier touched : List Bool) (has_changed asks : Bool)
    (mark : Option Bool) (answer : Bool) → i < length rules → i < 256 → rule ≡ get_or rules i rule
    → asks ≡ list_any asks_found rule.probe.words → mark ≡ earlier_mark earlier touched (has_changed && asks) i
    → answer ≡ unwrap_or mark (marked_value rule.probe.words marks i names now)
    → (mark ≡ None → AreFew rule.probe.words) → ((n : ℕ) → i ≤ n → is_marked now n ≡ false) → AreNames names (names_of rules)
    → (has_changed ≡ false → take i now ≡ take i earlier) → (test : ℕ → ℕ → Bool) → AreTrue marks test → StillHold earlier touched rules test
    → answer ≡ value rule.probe.words (test i) (is_named_found rules (take i now))
found_again names rules i rule marks now earlier touched has_changed asks mark answer below small is told mark_is answer_is few none named same test given still
    = by ((has_changed && asks) || is_marked touched i) refl mark_is
  where
    -- where no mark has changed, or the probe asks for none, it has the value that it had
    again_as : (changed asked : Bool) → has_changed ≡ changed → asks ≡ asked → (changed && asked) ≡ false
        → value rule.probe.words (test i) (is_named_found rules (take i earlier)) ≡ value rule.probe.words (test i) (is_named_found rules (take i now))
    again_as false asked unchanged asks_is stays =
        ap (λ (front : List Bool). value rule.probe.words (test i) (is_named_found rules front)) (sym (same unchanged))
    again_as true false changed asks_is stays =
        value_alone (test i) (is_named_found rules (take i earlier)) (is_named_found rules (take i now)) rule.probe.words (sym told ∙ asks_is)
    again_as true true changed asks_is stays = absurd (cc)

    by : (again : Bool) → ((has_changed && asks) || is_marked touched i) ≡ again → mark ≡ cond again None (Some (is_marked earlier i))
        → answer ≡ value rule.probe.words (test i) (is_named_found rules (take i now))
    by true either mark_is =
        found_on names rules i rule marks now answer below small (few mark_is) none named
        (answer_is ∙ ap (λ (m : Option Bool). unwrap_or m (marked_value rule.probe.words marks i names now)) mark_is) test given
    by false either mark_is =
        let two = or_parts _ _ either in
        answer_is ∙ ap (λ (m : Option Bool). unwrap_or m (marked_value rule.probe.words marks i names now)) mark_is
        ∙ still i rule below is two.1 ∙ again_as has_changed asks refl refl two.0

-- hits without a configuration have none of its patterns
no_pattern : (hits : List Hit) (c p : ℕ) → has_config hits c ≡ false → has_hit hits c p ≡ false
no_pattern [] c p none = refl
no_pattern (hit ∷ hits) c p none =
    let two = or_parts _ _ none in ap₂ (λ (x y : Bool). (x && hit.pattern == p) || y) two.0 (no_pattern hits c p two.1)

not_beyond : (root more : Bool) → root ≡ true → (not root && more) ≡ false
not_beyond root more is = ap (λ (b : Bool). not b && more) is

module _ (rules : List Rule) (row : Row) (others rows : List Row) (old : Facts) (few : length rules ≤ 256) (before : WereBefore rules row others old)
    (is : AreWithOrWithout row others rows) (root : is_root row.place.bus ≡ true)
    (none : list_any (is_on_bus (is_beyond (is_reached rules (sights_of before.rows)))) others ≡ false) where
  -- what was found over the root buses
  abbrev first : List Bool
  first = found rules (roots (sights_of before.rows))

  none_before : list_any (is_on_bus (is_beyond (is_reached rules (sights_of before.rows)))) before.rows ≡ false
  none_before = before.beside.same (is_on_bus (is_beyond (is_reached rules (sights_of before.rows)))) (not_beyond _ _ root) ∙ none

  all_is_first : old.found ≡ marks (is_marked first)
  all_is_first =
      ap (λ (f : Facts). f.found) before.told
      ∙ ap (λ (list : List Bool). marks (is_marked list)) (found_as rules (visible rules (sights_of before.rows)) (roots (sights_of before.rows))
      (λ c p. sym (all_near rules before.rows none_before c p)))

  marked_as : (n : ℕ) → n < 256 → is_marked old.found n ≡ is_marked first n
  marked_as n small = ap (λ (list : List Bool). is_marked list n) all_is_first ∙ get_or-map-range_with_len (is_marked first) 0 256 n n false small (omega arith)

  fronts : (n : ℕ) → n < length rules → take n first ≡ take n old.found
  fronts n below =
      let long : length first ≡ length rules = length-found_from rules rules (matched_by (roots (sights_of before.rows))) [] ∙ omega arith in
      let wide : length old.found ≡ 256 = ap length all_is_first ∙ length-map-range_with_len (is_marked first) 0 256 in
      let left : length (take n first) ≡ n = length-take-le n first (omega arith) in
      let right : length (take n old.found) ≡ n = length-take-le n old.found (omega arith) in
      ext_get_or false (take n first) (take n old.found) (left ∙ sym right)
      (λ k within. let inside : k < n = omega arith in
      get_or-take n first k false inside ∙ sym (marked_as k (omega arith)) ∙ sym (get_or-take n old.found k false inside))

  matches_as : (c : ℕ) → has_config row.hits c ≡ false → (p : ℕ)
      → matched_by (roots (sights_of before.rows)) c p ≡ matched_by (roots (sights_of rows)) c p
  matches_as c untouched p =
      let fails : has_on is_root c p row ≡ false = ap (λ (b : Bool). is_root row.place.bus && b) (no_pattern row.hits c p untouched) ∙ and-false _ in
      sym (matched_on is_root before.rows c p) ∙ before.beside.same (has_on is_root c p) fails ∙ sym (is.same (has_on is_root c p) fails)
      ∙ matched_on is_root rows c p

  pub old_holds : (touched : List Bool) → AreMarked touched (has_config row.hits) → StillHold old.found touched rules (matched_by (roots (sights_of rows)))
  old_holds touched told = λ n rule below same untouched.
      let alike : matched_by (roots (sights_of before.rows)) n ≡ matched_by (roots (sights_of rows)) n =
      λ i p. matches_as n (sym (told n (omega arith)) ∙ untouched) p i in
      marked_as n (omega arith) ∙ found_is rules (matched_by (roots (sights_of before.rows))) n rule below same
      ∙ ap₂ (λ (test : ℕ → Bool) (front : List Bool). value rule.probe.words test (is_named_found rules front)) alike (fronts n below)
