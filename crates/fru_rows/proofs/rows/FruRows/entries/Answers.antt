use Rattle.std.proofs.Common.{◌∙◌, sym, ap}
use Rattle.probe_lang.specs.Presents.{are_by_place}
use Rattle.match_rows.specs.Rows.{RowsView}
use Rattle.fru_rows.proofs.JoinedLemmas.{joined_by_place}
use Rattle.fru_rows.proofs.rows.FruRows.entries.Goals as goal

pub returns-clause-order : goal.returns-clause-order
returns-clause-order c =
    ap (λ (rows : RowsView). are_by_place rows.entries) (sym c.self.view_is)
    ∙ joined_by_place c.self.inside.busy.entries c.self.inside.idle.entries c.self.invariant.apart
