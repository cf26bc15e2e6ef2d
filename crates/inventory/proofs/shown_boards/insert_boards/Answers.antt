use Rattle.std.proofs.Common.{◌≡◌, ◌∙◌, List, sym, subst, ap, arith}
use Rattle.inventory.specs.Shown.{with_all, with_shown, AreOrdered}
use Rattle.inventory.specs.declared.shown.Shown.{Shown}
use Rattle.inventory.proofs.ShownLemmas.{ordered_before, with_last}
use Rattle.inventory.proofs.shown_boards.insert_boards.Goals as goal

pub loop-preserved : goal.loop-preserved
loop-preserved c =
    let board = c.in-Some.board in
    let more = c.pop.new.self.items in
    let boards = c.loop.boards.items in
    record {
      all = λ order.
          let so_far = c.loop.invariant.all order in
          let whole : with_all more (with_shown board boards) ≡ with_all c.args.more.items c.args.boards.now.items =
          sym (with_last more board boards) ∙ ap (λ (more : List Shown). with_all more boards) (sym c.in-Some.ensures.items) ∙ so_far in
          let ordered = ordered_before c.loop.more.items boards (subst AreOrdered (sym so_far) order) in
          ap (with_all more) (c.insert_board.ensures.items ordered) ∙ whole;
      left = omega (arith, c.in-Some.ensures.len);
      room = omega (arith, c.in-Some.ensures.len);
    }
