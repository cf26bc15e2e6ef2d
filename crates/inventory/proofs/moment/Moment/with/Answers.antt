use Rattle.std.proofs.Common.{◌∙◌, ap}
use Rattle.probe_lang.specs.declared.rows.Entry.{Entry}
use Rattle.probe_lang.specs.Presents.{unboxed, are_by_place}
use Rattle.match_rows.specs.Rows.{count_before}
use Rattle.match_rows.proofs.RowsLemmas.{with_entry_by_place}
use Rattle.inventory.proofs.OrderLemmas.{with_parts}
use Rattle.inventory.proofs.moment.Moment.with.Goals as goal

pub returns-clause-entries : goal.returns-clause-entries
returns-clause-entries c =
    rw c.from_ref.ensures.value
    (with_parts c.args.plus.now.value c.args.entries.now c.count_before-at.result c.split_at.result.0.now c.split_at.result.1.now
    c.requires.free
    (c.count_before-at.ensures.value
    ∙ ap (λ (entry : Entry). count_before entry.place (unboxed c.args.entries.now)) c.deref.ensures) c.split_at.ensures.front c.split_at.ensures.back)

pub invariant_of-result : goal.invariant_of-result
invariant_of-result c =
    ap are_by_place (returns-clause-entries c)
    ∙ with_entry_by_place c.args.plus.now.value (unboxed c.args.entries.now) c.requires.order c.requires.free
