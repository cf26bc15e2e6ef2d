-- How many probes an event evaluates.
use Rattle.std.proofs.Common.{◌≡◌, ◌∙◌, ℕ, zero, suc, ◌*◌, ◌<◌, Bool, true, false, cond, ◌&&◌, List, [], ◌∷◌, length, get_or, Some, refl, ap, sym, subst, arith}
use Rattle.std.specs.Prelude.{position, filter}
use Rattle.std.specs.List.{list_all}
use Rattle.std.proofs.Math.Bool.{and-false}
use Rattle.std.proofs.lemmas.List.Quantifiers.{position-Some}
use Rattle.bmc_base.specs.Places.{Place}
use Rattle.bmc_base.specs.Steps.{Counts, IsWithin}
use Rattle.found_set.specs.declared.row.Row.{Row}
use Rattle.found_set.specs.Found.{Rule}
use Rattle.found_set.specs.Rows.{is_row_at, is_idle}
use Rattle.found_set.specs.Events.{UnplugEvent, most_evals}
use Rattle.found_set.proofs.StepsLemmas.{no_evals}

-- nothing was evaluated
pub none_within : (steps : Counts) (limit : ℕ) → IsWithin steps steps limit
none_within steps limit = record { more = 0; within = omega arith; counted = no_evals steps }

-- one that passes the one test and fails the other
fails : (test other : Row → Bool) (rows : List Row) (at : ℕ) (default : Row) → at < length rows → test (get_or rows at default) ≡ true
    → other (get_or rows at default) ≡ false → list_all other (filter test rows) ≡ false
fails test other [] at default below is not_so = absurd (omega (arith, below))
fails test other (row ∷ rows) zero default below is not_so =
    ap (λ (passes : Bool). list_all other (cond passes (row ∷ filter test rows) (filter test rows))) is
    ∙ ap (λ (t : Bool). t && list_all other (filter test rows)) not_so
fails test other (row ∷ rows) (suc at) default below is not_so = by (test row) (fails test other rows at default (omega (arith, below)) is not_so)
  where
    by : (passes : Bool) → list_all other (filter test rows) ≡ false → list_all other (cond passes (row ∷ filter test rows) (filter test rows)) ≡ false
    by true rest = ap (λ (t : Bool). other row && t) rest ∙ and-false (other row)
    by false rest = rest

-- nothing more than nothing
pub busy_within : (idle : Bool) (limit : ℕ) (steps now : Counts) → idle ≡ false → IsWithin steps now limit → IsWithin steps now (cond idle 0 limit)
busy_within idle limit steps now busy within = subst (λ (b : Bool). IsWithin steps now (cond b 0 limit)) (sym busy) within

wider : (steps now : Counts) (limit : ℕ) → IsWithin steps now 0 → IsWithin steps now limit
wider steps now limit none = record { more = none.more; within = omega (arith, none.within); counted = none.counted }

pub unplug_evals : (place : Place) (rules : List Rule) (rows : List Row) (at : ℕ) (default : Row) (steps now : Counts)
    → position (is_row_at place) rows ≡ Some at → IsWithin steps now (cond (is_idle (get_or rows at default)) 0 (2 * length rules))
    → IsWithin steps now (most_evals (UnplugEvent place) rules rows)
unplug_evals place rules rows at default steps now found within = by (is_idle (get_or rows at default)) refl within
  where
    by : (idle : Bool) → is_idle (get_or rows at default) ≡ idle → IsWithin steps now (cond idle 0 (2 * length rules))
        → IsWithin steps now (most_evals (UnplugEvent place) rules rows)
    by true is within = wider steps now (most_evals (UnplugEvent place) rules rows) within
    by false is within =
        let here = position-Some (is_row_at place) rows at default found in
        busy_within _ (2 * length rules) steps now (fails (is_row_at place) is_idle rows at default here.0 here.1 is) within
