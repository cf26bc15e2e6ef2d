use Rattle.std.proofs.Common.{◌≡◌, ◌∙◌, List, ap, ap₂}
use Rattle.std.specs.Global.{Box}
use Rattle.std.specs.List.{insert}
use Rattle.probe_lang.specs.declared.rows.Entry.{Entry}
use Rattle.probe_lang.specs.Presents.{unboxed, are_by_place}
use Rattle.match_rows.specs.Rows.{RowsView, count_before}
use Rattle.match_rows.proofs.RowsLemmas.{with_entry_at, with_entry_by_place}
use Rattle.match_rows.proofs.BoxesLemmas.{unboxed_insert}
use Rattle.match_rows.proofs.rows.Rows.plug_near.Goals as goal

pub returns : goal.returns
returns c =
    let old = c.args.self.now.entries in
    let same : unboxed c.self.inside.entries.items ≡ old = ap (λ (rows : RowsView). rows.entries) c.self.view_is in
    ap (λ (boxes : List (Box Entry)). unboxed boxes) c.in-Ok.ensures.items
    ∙ unboxed_insert c.self.inside.entries.items c.count_before-position.result c.args.entry
    ∙ ap₂ (λ entries n. insert entries n c.args.entry.value) same c.count_before-position.ensures.value
    ∙ ap₂ (λ (entry : Entry) (entries : List Entry). insert old (count_before entry.place entries) c.args.entry.value) c.deref.ensures c.entries.ensures.value
    ∙ with_entry_at c.args.entry.value old c.requires.free

pub invariant_of-self : goal.invariant_of-self
invariant_of-self c =
    ap are_by_place (returns c)
    ∙ with_entry_by_place c.args.entry.value c.args.self.now.entries c.entries.ensures.order c.requires.free
