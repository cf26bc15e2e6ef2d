use Rattle.std.proofs.Common.{rules, ◌∙◌}
use Rattle.std.proofs.lemmas.Option.{IfSome_then}
use Rattle.ctl_kinds.proofs.SmallLemmas.{change_of_step}
use Rattle.ctl_kinds.proofs.small.derivative.Goals as goal

pub returns-in_ok-change-in-Some-clause-value : goal.returns-in_ok-change-in-Some-clause-value
returns-in_ok-change-in-Some-clause-value c = rw c.in-Some.is (IfSome_then c.share.result c.share.ensures.value (λ part e.
    e ∙ change_of_step c.args.setting.now.d c.args.error.0 c.in-Some.before c.step_coefficient.result.0 c.in_ok-change-in-Some.change.0
    c.args.setting.now.class c.requires.d (search rules) c.step_coefficient.ensures c.in_ok-change-in-Some.ensures))
