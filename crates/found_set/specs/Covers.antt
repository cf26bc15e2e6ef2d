-- A row that comes or goes beside others, and when it changes no fact.
use Rattle.std.specs.Prelude.{ℕ, ◌≡◌, Bool, true, false, not, ◌==◌, ◌&&◌, ◌||◌, if◌then◌else◌, List, length}
use Rattle.std.specs.List.{list_all, list_any}
use Rattle.probe_lang.specs.declared.rows.Hit.{Hit}
use Rattle.found_set.specs.declared.row.Row.{Row}
use Rattle.found_set.specs.Found.{is_root}
use Rattle.found_set.specs.Buses.{has_on}

-- these are the others, with this row among them or without it
pub record AreWithOrWithout (row : Row) (others rows : List Row) : Type 0 where
  pub same : (test : Row → Bool) → test row ≡ false → list_any test rows ≡ list_any test others
  pub more : (test : Row → Bool) → list_any test others ≡ true → list_any test rows ≡ true

-- whether a row opens no bus, whatever is found
abbrev pub opens_none : Row → Bool
opens_none row = not (is_root row.place.bus) || length row.channels == 0

-- where rows count wherever this row does: on the root buses for a row on a root bus, else on all that pass
abbrev pub beside : (ℕ → Bool) → Row → ℕ → Bool
beside test row = if is_root row.place.bus then is_root else test

-- whether each hit is a hit of a row on a bus that passes
abbrev pub are_had : (ℕ → Bool) → List Hit → List Row → Bool
are_had test hits rows = list_all (λ (hit : Hit). list_any (has_on test hit.config hit.pattern) rows) hits

-- whether a row changes no fact beside the others, where the buses that pass are reachable
abbrev pub is_covered : (ℕ → Bool) → Row → List Row → Bool
is_covered test row others = opens_none row && (not (test row.place.bus) || are_had (beside test row) row.hits others)
