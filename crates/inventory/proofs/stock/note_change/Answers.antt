use Rattle.inventory.proofs.NotesLemmas.{noted_start}
use Rattle.inventory.proofs.stock.note_change.Goals as goal

pub returns : goal.returns
returns c shown test borne =
    c.in_ok-note_boards.ensures _ (c.in_ok-forget_boards.ensures shown test
    (noted_start c.args.notes.now c.args.tags.now.entries test c.requires.tags c.requires.firsts borne))
