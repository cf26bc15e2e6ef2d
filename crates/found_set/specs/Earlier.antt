-- What an earlier pass found, and where that still holds.
use Rattle.std.specs.Prelude.{ℕ, ◌≡◌, ◌<◌, ◌≤◌, Bool, false, not, ◌&&◌, ◌||◌, if◌then◌else◌, nat_lt, bytes_eq, Option, Some, None, List, length, take}
use Rattle.std.specs.Prelude.{get_or, position}
use Rattle.std.proofs.Math.Bool.{beq}
use Rattle.probe_lang.specs.Values.{value, most_patterns}
use Rattle.probe_lang.specs.declared.word.Word.{Word}
use Rattle.found_set.specs.declared.facts.Facts.{Facts}
use Rattle.found_set.specs.declared.row.Row.{Row}
use Rattle.found_set.specs.Marks.{is_marked, is_true, most_rules}
use Rattle.found_set.specs.Named.{mark_of}
use Rattle.found_set.specs.Found.{Rule, is_named_found, matched_by, roots, facts}
use Rattle.found_set.specs.Rows.{sights_of}
use Rattle.found_set.specs.Covers.{AreWithOrWithout}

-- the value of words of a configuration, by marks of patterns and of the configurations with these names
abbrev pub marked_value : List Word → List Bool → ℕ → List (List ℕ) → List Bool → Bool
marked_value words marks config names found =
    value words (λ number. nat_lt number most_patterns && is_true marks config number) (λ name. mark_of (position (bytes_eq name) names) found)

-- the earlier mark of a configuration, where it is neither touched nor stale
abbrev pub earlier_mark : List Bool → List Bool → Bool → ℕ → Option Bool
earlier_mark found touched is_stale config = if is_stale || is_marked touched config then None else Some (is_marked found config)

-- whether a mark has changed: one before, or this one
abbrev pub changes : List Bool → Bool → ℕ → Bool → Bool
changes found has_changed config is_found = has_changed || not (beq (is_marked found config) is_found)

-- each configuration that is not touched was found over those before it, as it is where patterns are true as this test says
abbrev pub StillHold : List Bool → List Bool → List Rule → (ℕ → ℕ → Bool) → Type 0
StillHold found touched rules test =
    (config : ℕ) (rule : Rule) → config < length rules → rule ≡ get_or rules config rule → is_marked touched config ≡ false
    → is_marked found config ≡ value rule.probe.words (test config) (is_named_found rules (take config found))

-- the facts before a row came or went beside the others
pub record WereBefore (rules : List Rule) (row : Row) (others : List Row) (now : Facts) : Type 0 where
  pub rows : List Row
  pub beside : AreWithOrWithout row others rows
  pub told : now ≡ facts rules (sights_of rows)

-- whatever the rules, if these were the facts before a row came or went, these marks still hold on the root buses
abbrev pub HoldBeside : List Bool → List Bool → Row → List Row → Facts → Type 0
HoldBeside found touched row others old =
    (rules : List Rule) (rows : List Row) → length rules ≤ most_rules → WereBefore rules row others old → AreWithOrWithout row others rows
    → StillHold found touched rules (matched_by (roots (sights_of rows)))
