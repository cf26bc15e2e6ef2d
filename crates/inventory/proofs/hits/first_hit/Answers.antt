use Rattle.std.proofs.Common.{◌∙◌, ◌≤◌, List, Some, sym, ap, length, map, take, drop, suc, slice_get, arith}
use Rattle.std.proofs.lemmas.List.{take_all}
use Rattle.std.specs.Global.{Box}
use Rattle.bmc_base.specs.Places.{Place}
use Rattle.probe_lang.specs.Sights.{entry_sight}
use Rattle.probe_lang.specs.declared.rows.Entry.{Entry}
use Rattle.inventory.specs.Boards.{hit_places}
use Rattle.probe_lang.specs.Presents.{unboxed}
use Rattle.inventory.proofs.LoneLemmas.{none_more, first_is, unboxed_split}
use Rattle.inventory.proofs.MomentsLemmas.{unboxed_more}
use Rattle.inventory.proofs.hits.first_hit.Goals as goal

pub returns-then-is_hit : goal.returns-then-is_hit
returns-then-is_hit c =
    let entries = c.args.entries.now in
    let i = c.loop-entry.entry-index in
    λ reach marked.
    ap (λ (entry : Entry). Some entry.place) (c.deref-then-is_hit.ensures ∙ sym c.deref.ensures)
    ∙ first_is reach c.args.number (unboxed (take i entries)) c.deref.result.now (unboxed (drop (suc i) entries))
    (c.loop-entry.invariant reach marked) (sym (c.is_hit.ensures reach marked) ∙ c.if-is_hit.true)
    ∙ ap (λ (them : List Entry). slice_get (hit_places reach (map entry_sight them) c.args.number) 0)
    (sym (unboxed_split entries i c.entry-item.result c.deref.result.now c.loop-entry-test.true c.entry-item.is c.deref.ensures))

pub loop-entry-preserved : goal.loop-entry-preserved
loop-entry-preserved c =
    let entries = c.args.entries.now in
    let i = c.loop-entry.entry-index in
    λ reach marked.
    ap (λ (them : List Entry). hit_places reach (map entry_sight them) c.args.number)
    (unboxed_more entries i c.entry-item.result c.deref.result.now c.loop-entry-test.true c.entry-item.is c.deref.ensures)
    ∙ none_more reach c.args.number (unboxed (take i entries)) c.deref.result.now (c.loop-entry.invariant reach marked)
    (sym (c.is_hit.ensures reach marked) ∙ c.if-is_hit.false)

pub returns : goal.returns
returns c =
    let entries = c.args.entries.now in
    let i = c.loop-entry.entry-index in
    let all : length entries ≤ i = omega (arith, c.loop-entry-test.false) in
    λ reach marked. ap (λ (places : List Place). slice_get places 0)
    (sym (c.loop-entry.invariant reach marked)
    ∙ ap (λ (boxes : List (Box Entry)). hit_places reach (map entry_sight (unboxed boxes)) c.args.number) (take_all i entries all))
