use Rattle.std.proofs.Common.{arith, ◌∙◌, List, map, length, ◌==◌, sym, ap}
use Rattle.probe_lang.specs.declared.rows.Entry.{Entry}
use Rattle.found_set.specs.Rows.{row_of}
use Rattle.found_set.specs.Sets.{SetView}
use Rattle.fru_rows.specs.Idle.{busy}
use Rattle.inventory.specs.Boards.{rules_of}
use Rattle.inventory.specs.Follows.{Stock}
use Rattle.bmc_watch.proofs.StockLemmas.{stocked_new}
use Rattle.bmc_watch.proofs.watch.Watch.new.Goals as goal

pub invariant_of-result : goal.invariant_of-result
invariant_of-result g c = record {
  rules = ap (λ (set : SetView). set.rules) c.in_ok-set.ensures ∙ sym (ap rules_of c.in_ok-shelf.ensures);
  rows = ap (λ (set : SetView). set.rows) c.in_ok-set.ensures ∙ sym (ap (λ (entries : List Entry). map row_of (busy entries)) c.in_ok-rows.ensures);
  none = ap (λ (entries : List Entry). length entries == 0) c.in_ok-rows.ensures;
  stock = stocked_new c.in_ok-shelf.shelf c.in_ok-rows.rows.entries c.in_ok-keep.keep.kept c.none.result c.in_ok-stock.stock.items
      c.in_ok-shelf.ensures c.in_ok-rows.ensures (ap (λ keep. keep.kept) c.in_ok-keep.ensures) c.none.ensures
      (ap (λ (stock : Stock). stock.items) c.in_ok-stock.ensures);
  room = omega (arith, c.in_ok-changes.ensures.capacity);
}
