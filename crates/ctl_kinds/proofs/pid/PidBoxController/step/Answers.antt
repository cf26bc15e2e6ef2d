use Rattle.std.proofs.Common.{◌∙◌, arith, subst, sym}
use Rattle.std.proofs.lemmas.Int.{ints}
use Rattle.std.proofs.lemmas.Option.{same_Some}
use Rattle.std.specs.Option.{ForSome}
use Rattle.ctl_face.specs.Ranges.{IsMilli}
use Rattle.ctl_face.specs.declared.setting.PidSetting.{PidSetting}
use Rattle.ctl_kinds.specs.Steady.{IsSteady}
use Rattle.ctl_kinds.proofs.pid.PidBoxController.step.Goals as goal

pub step_unless_steady-requires-clause-setting : goal.step_unless_steady-requires-clause-setting
step_unless_steady-requires-clause-setting c = c.self.invariant.valid c.in-Some.setting c.in-Some.is

pub step_unless_steady-requires-clause-steady : goal.step_unless_steady-requires-clause-steady
step_unless_steady-requires-clause-steady c = c.self.invariant.steady c.in-Some.setting c.in-Some.is

pub invariant_of-self : goal.invariant_of-self
invariant_of-self c = record {
  valid = c.self.invariant.valid;
  small = c.step_unless_steady.ensures.small;
  steady = λ setting e. subst (λ (one : PidSetting). ForSome c.step_unless_steady.new.steady (IsSteady one c.step_unless_steady.new.state))
      (same_Some c.in-Some.setting setting (sym c.in-Some.is ∙ e)) c.step_unless_steady.ensures.steady;
}

pub returns-clause-range : goal.returns-clause-range
returns-clause-range c =
    let small : IsMilli c.unwrap.result = c.step_unless_steady.ensures.small c.unwrap.result c.unwrap.ensures in
    (omega (arith, ints), omega (arith, ints))
