-- Counts of work.
use Rattle.std.specs.Prelude.{ℕ, ◌≡◌, ◌≤◌}
use Rattle.bmc_base.specs.Counts.{raised}

-- how many patterns were matched against records, and how many probes were evaluated
pub record Counts : Type 0 where
  pub matches : ℕ
  pub evals : ℕ

abbrev pub no_work : Counts
no_work = record { matches = 0; evals = 0 }

-- n matches more
abbrev pub with_matches : Counts → ℕ → Counts
with_matches counts n = record { matches = raised counts.matches n; evals = counts.evals }

-- n evaluations more
abbrev pub with_evals : Counts → ℕ → Counts
with_evals counts n = record { matches = counts.matches; evals = raised counts.evals n }

-- at most `limit` evaluations more, and no match
pub record IsWithin (old new : Counts) (limit : ℕ) : Type 0 where
  pub more : ℕ
  pub within : more ≤ limit
  pub counted : new ≡ with_evals old more
