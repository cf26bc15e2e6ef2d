-- A row goes before the first at a later place.
use Rattle.std.proofs.Common.{◌∙◌, ap, sym, arith, ℕ}
use Rattle.std.specs.List.{insert}
use Rattle.found_set.specs.Rows.{is_row_after}
use Rattle.found_set.proofs.RowsLemmas.{with_row_at, within}
use Rattle.found_set.proofs.staged.insert_row.Goals as goal

pub insert-requires : goal.insert-requires
insert-requires c = omega (arith, c.requires.here, within (is_row_after c.args.row.place) c.args.rows.now.items)

pub returns : goal.returns
returns c =
    c.in-Ok.ensures.items ∙ ap (λ (n : ℕ). insert c.args.rows.now.items n c.args.row) c.requires.here ∙ sym (with_row_at c.args.row c.args.rows.now.items)
