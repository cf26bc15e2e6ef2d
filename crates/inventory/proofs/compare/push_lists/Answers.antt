use Rattle.std.proofs.Common.{◌∙◌}
use Rattle.inventory.proofs.DifferencesLemmas.{left_as}
use Rattle.inventory.proofs.compare.push_lists.Goals as goal

pub returns-clause-gone : goal.returns-clause-gone
returns-clause-gone c =
    λ found reach found_after reach_after marked marked_after. left_as c.args.number _ _ _ _ _ _ c.in_ok-push_both.ensures.gone
    (c.deref.ensures.value ∙ c.in_ok-list_boards.ensures.boards found reach marked)
    (c.deref-2.ensures.value ∙ c.in_ok-list_boards-2.ensures.boards found_after reach_after marked_after)

pub returns-clause-come : goal.returns-clause-come
returns-clause-come c =
    λ found_after reach_after found reach marked_after marked. left_as c.args.number _ _ _ _ _ _ c.in_ok-push_both.ensures.new
    (c.deref-2.ensures.value ∙ c.in_ok-list_boards-2.ensures.boards found_after reach_after marked_after)
    (c.deref.ensures.value ∙ c.in_ok-list_boards.ensures.boards found reach marked)
