use Rattle.std.proofs.Common.{◌∙◌, sym, ap}
use Rattle.probe_lang.specs.Presents.{are_by_place}
use Rattle.match_rows.specs.Rows.{RowsView}
use Rattle.fru_rows.specs.Idle.{busy}
use Rattle.fru_rows.proofs.JoinedLemmas.{joined_by_place}
use Rattle.fru_rows.proofs.SortedLemmas.{busy_joined}
use Rattle.fru_rows.proofs.rows.FruRows.busy.Goals as goal

pub returns-clause-value : goal.returns-clause-value
returns-clause-value c =
    c.entries.ensures.value ∙ busy_joined c.self.inside.busy.entries c.self.inside.idle.entries c.self.invariant
    ∙ ap (λ (rows : RowsView). busy rows.entries) c.self.view_is

pub returns-clause-all : goal.returns-clause-all
returns-clause-all c =
    ap (λ (rows : RowsView). are_by_place rows.entries) (sym c.self.view_is)
    ∙ joined_by_place c.self.inside.busy.entries c.self.inside.idle.entries c.self.invariant.apart
