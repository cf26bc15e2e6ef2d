use Rattle.std.proofs.Common.{true, false, refl, sym, subst}
use Rattle.std.proofs.lemmas.Result.{on_ok_weaker}
use Rattle.found_set.specs.Marks.{is_marked}
use Rattle.inventory.specs.Moments.{AreAscending}
use Rattle.inventory.proofs.MergeLemmas.{found_ascend, none_ascend}
use Rattle.inventory.proofs.boards.list_boards.Goals as goal

pub returns-then-not-found-clause-ascend : goal.returns-then-not-found-clause-ascend
returns-then-not-found-clause-ascend c = none_ascend c.clear.new.self.items c.clear.ensures.items

pub returns-then-match_one-clause-ascend : goal.returns-then-match_one-clause-ascend
returns-then-match_one-clause-ascend c =
    let moment = c.args.moment.now in
    let reach = is_marked moment.facts.reach in
    on_ok_weaker c.list_first.result (λ listed. subst AreAscending (sym listed) (found_ascend true reach moment c.args.number c.found.ensures.order))
    (c.list_first.ensures reach (λ n h. refl))

pub returns-else-match_one-clause-ascend : goal.returns-else-match_one-clause-ascend
returns-else-match_one-clause-ascend c =
    let moment = c.args.moment.now in
    let reach = is_marked moment.facts.reach in
    on_ok_weaker c.list_each.result (λ listed. subst AreAscending (sym listed) (found_ascend false reach moment c.args.number c.found.ensures.order))
    (c.list_each.ensures reach (λ n h. refl))
