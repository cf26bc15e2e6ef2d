-- What is seen of a controller.
use Rattle.std.specs.Prelude.{Option, Some, None}
use Rattle.ctl_face.specs.Steps.{step, blank}
use Rattle.ctl_face.specs.declared.kind.Kind.{Kind}
use Rattle.ctl_face.specs.declared.sample.Sample.{Sample}
use Rattle.ctl_face.specs.declared.setting.Setting.{Setting}
use Rattle.ctl_face.specs.declared.state.CtlState.{CtlState}

-- its kind, the setting that is loaded, and its state
pub record Seen : Type 0 where
  pub kind : Kind
  pub setting : Option Setting
  pub state : CtlState

-- a controller of this kind, with nothing loaded
abbrev pub unloaded : Kind → Seen
unloaded kind = record { kind = kind; setting = None; state = blank }

-- the controller with this setting, before its first step
abbrev pub loaded : Seen → Setting → Seen
loaded old setting = record { kind = old.kind; setting = Some setting; state = blank }

abbrev pub state_after : Option Setting → CtlState → Sample → CtlState
state_after None old sample = old
state_after (Some setting) old sample = step setting old sample

-- the controller after one step
abbrev pub stepped : Seen → Sample → Seen
stepped old sample = record { kind = old.kind; setting = old.setting; state = state_after old.setting old.state sample }
