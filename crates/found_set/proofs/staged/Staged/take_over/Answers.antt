-- The first row at a place is the one there.
use Rattle.std.proofs.Common.{◌∙◌, sym}
use Rattle.found_set.proofs.RowsLemmas.{without_row_at}
use Rattle.found_set.proofs.staged.Staged.take_over.Goals as goal

pub returns-in-Unplug-clause-rows : goal.returns-in-Unplug-clause-rows
returns-in-Unplug-clause-rows g c =
    let room = rw c.in-Unplug.is at c.requires in
    rw c.in-Unplug.is (c.remove-row.ensures.items
    ∙ sym (without_row_at c.in-Unplug.place c.args.rows.now.items c.in-Unplug.at c.remove-row.result room.0 room.1))
