-- Kinds of controllers.
use Rattle.std.specs.Prelude.{Bool, true, false}
use Rattle.ctl_face.specs.declared.kind.Kind.{Kind}
use Rattle.ctl_face.specs.declared.kind.Kind.TheVariants.{Pid, Stepwise}
use Rattle.ctl_face.specs.declared.setting.Setting.{Setting}
use Rattle.ctl_face.specs.declared.setting.Setting.TheVariants.{Pid as PidOf, Stepwise as StepwiseOf}

-- the kind of controller that a setting is for
abbrev pub kind_of : Setting → Kind
kind_of (PidOf setting) = Pid
kind_of (StepwiseOf setting) = Stepwise

-- whether two kinds are the same
abbrev pub kind_eq : Kind → Kind → Bool
kind_eq Pid Pid = true
kind_eq Pid Stepwise = false
kind_eq Stepwise Pid = false
kind_eq Stepwise Stepwise = true
