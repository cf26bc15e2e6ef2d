-- The members are tried in order.
use Rattle.std.proofs.Common.{sym, ◌∙◌, ap, List}
use Rattle.probe_lang.specs.Matches.{matches}
use Rattle.probe_lang.specs.declared.pattern_text.Member.{Member}
use Rattle.probe_lang.proofs.MatchesLemmas.{matches-fails, matches-all}
use Rattle.probe_lang.proofs.pattern.Pattern.matches.Goals as goal

pub returns-then-not-branch-clause-value : goal.returns-then-not-branch-clause-value
returns-then-not-branch-clause-value g c =
    let fails = matches-fails c.deref-part-items.result.now c.args.place c.args.fru.now c.loop-part.part-index c.part-item.result c.loop-part-test.true
    c.part-item.is (sym c.in_ok-matches.ensures ∙ c.if-not-branch.true) in
    sym fails ∙ ap (λ (members : List Member). matches members c.args.place c.args.fru.now) (c.deref-part-items.ensures.value ∙ c.self.view_is)

pub returns-clause-value : goal.returns-clause-value
returns-clause-value g c =
    let all = matches-all c.deref-part-items.result.now c.args.place c.args.fru.now c.loop-part.part-index c.loop-part-test.false c.loop-part.invariant.all in
    sym all ∙ ap (λ (members : List Member). matches members c.args.place c.args.fru.now) (c.deref-part-items.ensures.value ∙ c.self.view_is)
