use Rattle.std.proofs.Common.{◌∙◌, ◌++◌, List, ap, ap₂, sym}
use Rattle.inventory.specs.declared.board.BoardKey.{BoardKey}
use Rattle.inventory.specs.Moments.{left}
use Rattle.inventory.proofs.MomentsLemmas.{boards_found}
use Rattle.inventory.proofs.compare.push_swap.Goals as goal

pub returns-clause-gone : goal.returns-clause-gone
returns-clause-gone c =
    λ found reach found_after reach_after marked marked_after.
    let here = sym (marked.found c.args.number c.requires.number) ∙ c.requires.found.0 in
    let there = sym (marked_after.found c.args.number c.requires.number) ∙ c.requires.found.1 in
    c.in_ok-push_key.ensures ∙ ap (λ (keys : List BoardKey). c.args.comparison.now.difference.gone_boards ++ keys)
    (c.lone_swap-swap.ensures.gone reach reach_after marked.reach marked_after.reach
    ∙ ap₂ (left c.args.number) (boards_found c.args.match_one found reach c.args.before.now c.args.number here)
    (boards_found c.args.match_one found_after reach_after c.args.after.now c.args.number there))

pub returns-clause-come : goal.returns-clause-come
returns-clause-come c =
    λ found_after reach_after found reach marked_after marked.
    let here = sym (marked.found c.args.number c.requires.number) ∙ c.requires.found.0 in
    let there = sym (marked_after.found c.args.number c.requires.number) ∙ c.requires.found.1 in
    c.in_ok-push_key-2.ensures ∙ ap (λ (keys : List BoardKey). c.args.comparison.now.difference.new_boards ++ keys)
    (c.lone_swap-swap.ensures.new reach reach_after marked.reach marked_after.reach
    ∙ ap₂ (left c.args.number) (boards_found c.args.match_one found_after reach_after c.args.after.now c.args.number there)
    (boards_found c.args.match_one found reach c.args.before.now c.args.number here))
