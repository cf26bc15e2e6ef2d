use Rattle.match_rows.proofs.BoxesLemmas.{boxes_front_by_place, boxes_counted}
use Rattle.match_rows.proofs.rows.come_before.Goals as goal

pub ends_before-requires : goal.ends_before-requires
ends_before-requires c =
    boxes_front_by_place c.args.entries.now c.split_at.result.0.now c.split_at.result.1.now c.split_at.ensures.by_index.0 c.requires

pub returns-clause-value : goal.returns-clause-value
returns-clause-value c is =
    boxes_counted c.args.place c.args.entries.now c.split_at.result.0.now c.split_at.result.1.now c.args.count c.split_at.ensures.by_index.0
    c.split_at.ensures.front_len (c.ends_before.ensures is) (c.starts_before.ensures c.if-starts_before.false)
