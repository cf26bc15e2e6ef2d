use Rattle.std.proofs.Common.{◌∙◌, ◌+◌, length, sym, ap, ap₂}
use Rattle.match_rows.specs.Rows.{RowsView}
use Rattle.match_rows.proofs.BoxesLemmas.{length_unboxed}
use Rattle.fru_rows.proofs.JoinedLemmas.{length_joined}
use Rattle.fru_rows.proofs.rows.FruRows.len.Goals as goal

pub returns : goal.returns
returns c =
    ap₂ (λ one two. one + two) (sym (length_unboxed c.entries.result.now) ∙ ap length c.entries.ensures.value)
    (sym (length_unboxed c.entries-2.result.now) ∙ ap length c.entries-2.ensures.value)
    ∙ sym (length_joined c.self.inside.busy.entries c.self.inside.idle.entries)
    ∙ ap (λ (rows : RowsView). length rows.entries) c.self.view_is
