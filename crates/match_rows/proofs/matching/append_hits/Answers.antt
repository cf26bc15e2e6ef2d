use Rattle.std.proofs.Common.{◌<◌, List, length, subst}
use Rattle.probe_lang.specs.declared.pattern_text.Member.{Member}
use Rattle.match_rows.proofs.MatchingLemmas.{on_err_one}
use Rattle.match_rows.proofs.matching.append_hits.Goals as goal

pub returns-in_err-matches-clause-limit : goal.returns-in_err-matches-clause-limit
returns-in_err-matches-clause-limit g c =
    let number = c.loop-pattern_number.pattern_number in
    let below = subst (λ (patterns : List (List Member)). number < length patterns) c.patterns-pattern-items.ensures.value c.loop-pattern_number-test.true in
    on_err_one c.from_residual.result c.args.steps.now c.loop-pattern_number.steps c.matches.new.steps number (length c.args.config.now.patterns)
    c.loop-pattern_number.invariant.counted c.matches.ensures.counted below

pub returns-in_err-push-clause-limit : goal.returns-in_err-push-clause-limit
returns-in_err-push-clause-limit g c =
    let number = c.loop-pattern_number.pattern_number in
    let below = subst (λ (patterns : List (List Member)). number < length patterns) c.patterns-pattern-items.ensures.value c.loop-pattern_number-test.true in
    on_err_one c.from_residual-in_err-push.result c.args.steps.now c.loop-pattern_number.steps c.matches.new.steps number (length c.args.config.now.patterns)
    c.loop-pattern_number.invariant.counted c.matches.ensures.counted below
