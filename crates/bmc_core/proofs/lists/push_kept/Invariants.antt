use Rattle.std.proofs.Common.{◌≡◌, ◌++◌, ℕ, List, Option, drop, string_bytes}
use Rattle.std.specs.List.{flat_map}
use Rattle.bmc_base.specs.Places.{Place}
use Rattle.inventory.specs.Indexes.{kept_of, index_in}
use Rattle.bmc_report.specs.BoardRows.{index_row}
use Rattle.bmc_core.proofs.lists.push_kept.Given as goal

abbrev pub invariant-loop-position : goal.invariant-loop-position
invariant-loop-position l =
    let kept : List (Option Place) = kept_of l.keep.kept l.number in
    let row : Option Place → List ℕ = λ place. index_row l.name (index_in kept place) place in
    string_bytes l.text ++ flat_map row (drop l.position kept) ≡ string_bytes l.fn.text ++ flat_map row kept
