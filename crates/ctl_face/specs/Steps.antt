-- One step of a controller.
use Rattle.std.specs.Prelude.{pos, None}
use Rattle.ctl_face.specs.Pid.{pid_step}
use Rattle.ctl_face.specs.Stepwise.{stepwise_step}
use Rattle.ctl_face.specs.declared.sample.Sample.{Sample}
use Rattle.ctl_face.specs.declared.setting.Setting.{Setting}
use Rattle.ctl_face.specs.declared.setting.Setting.TheVariants.{Pid, Stepwise}
use Rattle.ctl_face.specs.declared.state.CtlState.{CtlState}

-- the state before the first step
abbrev pub blank : CtlState
blank = record { integral = pos 0; error = None; base = None; output = None }

-- the state after a step
abbrev pub step : Setting → CtlState → Sample → CtlState
step (Pid setting) old sample = pid_step setting old sample
step (Stepwise setting) old sample = stepwise_step setting old sample
