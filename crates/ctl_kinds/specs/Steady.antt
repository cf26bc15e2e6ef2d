-- A PID controller that is steady.
use Rattle.std.specs.Prelude.{◌≡◌}
use Rattle.ctl_face.specs.Pid.{pid_step}
use Rattle.ctl_face.specs.declared.sample.Sample.{Sample}
use Rattle.ctl_face.specs.declared.setting.PidSetting.{PidSetting}
use Rattle.ctl_face.specs.declared.state.CtlState.{CtlState}

-- a step on this sample leaves the state as it is
abbrev pub IsSteady : PidSetting → CtlState → Sample → Type 0
IsSteady setting state sample = pid_step setting state sample ≡ state
