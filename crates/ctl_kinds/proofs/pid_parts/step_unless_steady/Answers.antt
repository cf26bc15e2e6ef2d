use Rattle.std.proofs.Common.{rules, ◌≡◌, ap, sym, ◌∙◌, subst, IsSome, Some}
use Rattle.std.proofs.lemmas.Option.{same_Some}
use Rattle.ctl_face.specs.Pid.{pid_step}
use Rattle.ctl_face.specs.declared.sample.Sample.{Sample}
use Rattle.ctl_face.specs.declared.state.CtlState.{CtlState}
use Rattle.ctl_kinds.specs.Steady.{IsSteady}
use Rattle.ctl_kinds.proofs.SteadyLemmas.{state_same}
use Rattle.ctl_kinds.proofs.pid_parts.step_unless_steady.Goals as goal

pub returns-then-eq-clause-given : goal.returns-then-eq-clause-given
returns-then-eq-clause-given c =
    let same : c.args.steady.now ≡ Some c.args.sample = search rules in
    let steady : IsSteady c.args.setting.now c.args.state.now c.args.sample = c.requires.steady c.args.sample same in
    subst (λ (state : CtlState). IsSome state.output) steady (search rules)

pub returns-then-eq-2-clause-steady : goal.returns-then-eq-2-clause-steady
returns-then-eq-2-clause-steady c = λ sample e.
    let stays : c.take_step.new.state ≡ c.args.state.now = state_same c.take_step.new.state c.args.state.now (sym c.eq-2.ensures ∙ c.if-eq-2.true) in
    let step = pid_step c.args.setting.now in
    subst (λ (other : Sample). IsSteady c.args.setting.now c.take_step.new.state other) (same_Some c.args.sample sample e)
    (ap (λ (state : CtlState). step state c.args.sample) stays ∙ sym c.take_step.ensures.state)
