-- A partition point is the length of the front that passes.
use Rattle.std.proofs.Common.{rules}
use Rattle.std.specs.Global.{Box}
use Rattle.std.proofs.lemmas.Fn.{always_returns_same}
use Rattle.probe_lang.specs.declared.rows.Entry.{Entry}
use Rattle.match_rows.proofs.PlacesLemmas.{is_before}
use Rattle.match_rows.proofs.BoxesLemmas.{boxes_partitioned, boxes_count_is}
use Rattle.match_rows.proofs.rows.count_before.Goals as goal

pub returns-clause-value : goal.returns-clause-value
returns-clause-value c =
    let entries = c.args.entries.now in
    let place = c.args.place in
    let point =
    c.partition_point.ensures.partitioned (λ (entry : Box Entry). is_before entry.value.place place)
    (always_returns_same _ _ _ (λ entry answer after called. search rules))
    (boxes_partitioned place entries c.requires) in
    boxes_count_is place entries c.partition_point.result c.partition_point.ensures.bound point
