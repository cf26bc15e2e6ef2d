-- A number that was not marked is, where it is to be.
use Rattle.std.proofs.Common.{◌∙◌, ap, sym, set}
use Rattle.found_set.proofs.WordsLemmas.{put_is}
use Rattle.found_set.proofs.marks.Marks.mark_if.Goals as goal

pub returns-then-is_found : goal.returns-then-is_found
returns-then-is_found c =
    let old = c.args.self.now in
    let number = c.args.number in
    put_is old c.set_bit.new.self number c.requires.small c.set_bit.ensures.count_before c.set_bit.ensures.count c.requires.bare c.set_bit.ensures.marked
    ∙ ap (set old number) (sym c.if-is_found.true)
