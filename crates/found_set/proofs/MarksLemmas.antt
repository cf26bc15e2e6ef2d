-- The two passes: what is marked after each.
use Rattle.std.proofs.Common.{◌≡◌, ◌∙◌, ℕ, ◌+◌, ◌*◌, Bool, true, false, not, ◌&&◌, ◌||◌, List, [], ◌∷◌, replicate, refl, ap, ap₂, sym, arith}
use Rattle.std.specs.List.{list_any}
use Rattle.std.proofs.Math.Bool.{or-false}
use Rattle.std.proofs.lemmas.Bool.{or_parts}
use Rattle.std.proofs.lemmas.List.FromFn.{get_or-map-range_with_len}
use Rattle.probe_lang.specs.Sights.{Sight, has_hit}
use Rattle.found_set.specs.declared.row.Row.{Row}
use Rattle.found_set.specs.Marks.{is_marked, is_true, AreMarked, AreTrue}
use Rattle.found_set.specs.declared.facts.Facts.{Facts}
use Rattle.found_set.specs.Found.{Rule, on_buses, matched_by, is_root, is_reached, facts}
use Rattle.found_set.specs.Rows.{sights_of}
use Rattle.found_set.specs.Buses.{is_on_bus, has_on, is_beyond}
use Rattle.found_set.proofs.FoundLemmas.{none_marked}
use Rattle.found_set.proofs.BusesLemmas.{any_on}

pub matched_on : (test : ℕ → Bool) (rows : List Row) (c p : ℕ) → list_any (has_on test c p) rows ≡ matched_by (on_buses test (sights_of rows)) c p
matched_on test rows c p = sym (any_on (λ (sight : Sight). sight.matched c p) test rows)

-- what matches on root buses
pub first_marked : (rows : List Row) (marks : List Bool) → AreTrue marks (λ c p. is_true (replicate 4352 false) c p || list_any (has_on is_root c p) rows)
    → AreTrue marks (matched_by (on_buses is_root (sights_of rows)))
first_marked rows marks told =
    λ c p hc hp. told c p hc hp ∙ ap (λ (b : Bool). b || list_any (has_on is_root c p) rows) (none_marked 4352 (17 * c + p)) ∙ matched_on is_root rows c p

either_way : (root more hit : Bool) (left right : Bool)
    → (((root && hit) || left) || ((not root && (root || more) && hit) || right)) ≡ (((root || more) && hit) || (left || right))
either_way true more true left right = refl
either_way true more false left right = refl
either_way false true true true right = refl
either_way false true true false right = refl
either_way false true false left right = refl
either_way false false hit left right = refl

module _ (rules : List Rule) (sights : List Sight) (c p : ℕ) where
  -- what is on root buses and what is beyond them is what is visible
  pub all_visible : (rows : List Row)
      → (list_any (has_on is_root c p) rows || list_any (has_on (is_beyond (is_reached rules sights)) c p) rows) ≡ list_any
      (has_on (is_reached rules sights) c p) rows
  all_visible [] = refl
  all_visible (row ∷ rows) =
      either_way (is_root row.place.bus) _ (has_hit row.hits c p) (list_any (has_on is_root c p) rows)
      (list_any (has_on (is_beyond (is_reached rules sights)) c p) rows)
      ∙ ap (λ (b : Bool). (is_reached rules sights row.place.bus && has_hit row.hits c p) || b) (all_visible rows)

none_has : (test : ℕ → Bool) (c p : ℕ) (rows : List Row) → list_any (is_on_bus test) rows ≡ false → list_any (has_on test c p) rows ≡ false
none_has test c p [] none = refl
none_has test c p (row ∷ rows) none =
    let both = or_parts _ _ none in
    ap₂ (λ (x y : Bool). (x && has_hit row.hits c p) || y) both.0 (none_has test c p rows both.1)

-- what matches where it is visible
pub then_marked : (rules : List Rule) (rows : List Row) (marks more : List Bool) → AreTrue marks (matched_by (on_buses is_root (sights_of rows)))
    → AreTrue more (λ c p. is_true marks c p || list_any (has_on (is_beyond (is_reached rules (sights_of rows))) c p) rows)
    → AreTrue more (matched_by (on_buses (is_reached rules (sights_of rows)) (sights_of rows)))
then_marked rules rows marks more first told = λ c p hc hp.
    told c p hc hp
    ∙ ap (λ (b : Bool). b || list_any (has_on (is_beyond (is_reached rules (sights_of rows))) c p) rows) (first c p hc hp ∙ sym (matched_on is_root rows c p))
    ∙ all_visible rules (sights_of rows) c p rows ∙ matched_on (is_reached rules (sights_of rows)) rows c p

-- the same where none is beyond the root buses
pub all_near : (rules : List Rule) (rows : List Row) → list_any (is_on_bus (is_beyond (is_reached rules (sights_of rows)))) rows ≡ false
    → (c p : ℕ) → matched_by (on_buses is_root (sights_of rows)) c p ≡ matched_by (on_buses (is_reached rules (sights_of rows)) (sights_of rows)) c p
all_near rules rows none c p =
    let beyond = is_beyond (is_reached rules (sights_of rows)) in
    sym (matched_on is_root rows c p) ∙ sym (or-false (list_any (has_on is_root c p) rows))
    ∙ ap (λ (b : Bool). list_any (has_on is_root c p) rows || b) (sym (none_has beyond c p rows none))
    ∙ all_visible rules (sights_of rows) c p rows ∙ matched_on (is_reached rules (sights_of rows)) rows c p

-- facts tell by their marks
pub reach_marked : (rules : List Rule) (sights : List Sight) (now : Facts) → now ≡ facts rules sights → AreMarked now.reach (is_reached rules sights)
reach_marked rules sights now is =
    λ n small. ap (λ (f : Facts). is_marked f.reach n) is ∙ get_or-map-range_with_len (is_reached rules sights) 0 256 n n false small (omega arith)
