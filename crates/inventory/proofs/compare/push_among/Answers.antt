use Rattle.std.proofs.Common.{◌∙◌, ◌++◌, List, ap, sym, subst, refl}
use Rattle.std.specs.Borrow.{Bor}
use Rattle.found_set.specs.Marks.{is_marked}
use Rattle.probe_lang.specs.declared.rows.Entry.{Entry}
use Rattle.inventory.specs.declared.board.BoardKey.{BoardKey}
use Rattle.inventory.specs.Moments.{entries_of, hits_in, is_otherwise, AreAscending}
use Rattle.inventory.proofs.DifferencesLemmas.{left_as}
use Rattle.inventory.proofs.OtherwiseLemmas.{among_ascend, come_among, gone_among}
use Rattle.inventory.proofs.compare.push_among.Goals as goal

pub push_both-requires-clause-before : goal.push_both-requires-clause-before
push_both-requires-clause-before c =
    let before = c.args.before.now in
    let reach = is_marked before.facts.reach in
    let reach_after = is_marked c.args.after.now.facts.reach in
    let place = c.requires.apart.changed.place in
    subst AreAscending (sym (c.deref-3.ensures.value ∙ c.in_ok-list_among.ensures.hits reach (λ n h. refl)))
    (among_ascend reach _ (λ (entry : Entry). is_otherwise reach reach_after place entry.place) before.entries c.args.number
    c.list_among.ensures.order (ap entries_of c.deref.ensures.value ∙ c.requires.apart.otherwise reach reach_after (λ n h. refl) (λ n h. refl)))

pub push_both-requires-clause-after : goal.push_both-requires-clause-after
push_both-requires-clause-after c =
    let after = c.args.after.now in
    let reach = is_marked c.args.before.now.facts.reach in
    let reach_after = is_marked after.facts.reach in
    let place = c.requires.apart.changed.place in
    subst AreAscending (sym (c.deref-4.ensures.value ∙ c.in_ok-list_among-2.ensures.hits reach_after (λ n h. refl)))
    (among_ascend reach_after _ (λ (entry : Entry). is_otherwise reach_after reach place entry.place) after.entries c.args.number
    c.list_among-2.ensures.order (ap entries_of c.deref-2.ensures.value ∙ c.requires.apart.otherwise_after reach_after reach (λ n h. refl) (λ n h. refl)))

pub returns-clause-gone : goal.returns-clause-gone
returns-clause-gone c =
    λ found reach found_after reach_after marked marked_after. left_as c.args.number _ _ _ _ _ _ c.in_ok-push_both.ensures.gone
    (c.deref-3.ensures.value ∙ c.in_ok-list_among.ensures.hits reach marked.reach
    ∙ ap (λ (refs : List (Bor Entry)). hits_in reach (entries_of refs) c.args.number) c.deref.ensures.value)
    (c.deref-4.ensures.value ∙ c.in_ok-list_among-2.ensures.hits reach_after marked_after.reach
    ∙ ap (λ (refs : List (Bor Entry)). hits_in reach_after (entries_of refs) c.args.number) c.deref-2.ensures.value)
    ∙ ap (λ (keys : List BoardKey). c.args.comparison.now.difference.gone_boards ++ keys)
    (gone_among c.args.seen.now c.args.before.now c.args.after.now c.args.number c.requires.apart c.requires.both
    found reach found_after reach_after marked marked_after c.requires.number)

pub returns-clause-come : goal.returns-clause-come
returns-clause-come c =
    λ found_after reach_after found reach marked_after marked. left_as c.args.number _ _ _ _ _ _ c.in_ok-push_both.ensures.new
    (c.deref-4.ensures.value ∙ c.in_ok-list_among-2.ensures.hits reach_after marked_after.reach
    ∙ ap (λ (refs : List (Bor Entry)). hits_in reach_after (entries_of refs) c.args.number) c.deref-2.ensures.value)
    (c.deref-3.ensures.value ∙ c.in_ok-list_among.ensures.hits reach marked.reach
    ∙ ap (λ (refs : List (Bor Entry)). hits_in reach (entries_of refs) c.args.number) c.deref.ensures.value)
    ∙ ap (λ (keys : List BoardKey). c.args.comparison.now.difference.new_boards ++ keys)
    (come_among c.args.seen.now c.args.before.now c.args.after.now c.args.number c.requires.apart c.requires.both
    found reach found_after reach_after marked marked_after c.requires.number)
