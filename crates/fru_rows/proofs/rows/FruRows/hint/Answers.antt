use Rattle.std.proofs.Common.{◌∙◌, ap}
use Rattle.match_rows.specs.Rows.{RowsView, count_before}
use Rattle.fru_rows.specs.Idle.{busy, idle}
use Rattle.fru_rows.proofs.SortedLemmas.{busy_joined, idle_joined}
use Rattle.fru_rows.proofs.rows.FruRows.hint.Goals as goal

pub returns-clause-busy : goal.returns-clause-busy
returns-clause-busy c =
    c.count_before.ensures.value
    ∙ ap (count_before c.args.place)
    (c.entries.ensures.value ∙ busy_joined c.self.inside.busy.entries c.self.inside.idle.entries c.self.invariant
    ∙ ap (λ (rows : RowsView). busy rows.entries) c.self.view_is)

pub returns-clause-idle : goal.returns-clause-idle
returns-clause-idle c =
    c.count_before-2.ensures.value
    ∙ ap (count_before c.args.place)
    (c.entries-2.ensures.value ∙ idle_joined c.self.inside.busy.entries c.self.inside.idle.entries c.self.invariant
    ∙ ap (λ (rows : RowsView). idle rows.entries) c.self.view_is)
