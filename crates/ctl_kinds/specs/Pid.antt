-- What is seen of a PID box.
use Rattle.std.specs.Prelude.{option_map}
use Rattle.std.specs.Option.{ForSome}
use Rattle.ctl_face.specs.Ranges.{IsMilli, IsValidPid}
use Rattle.ctl_face.specs.Seen.{Seen}
use Rattle.ctl_face.specs.declared.kind.Kind.TheVariants.{Pid}
use Rattle.ctl_face.specs.declared.setting.Setting.TheVariants.{Pid as PidOf}
use Rattle.ctl_kinds.specs.Steady.{IsSteady}
use Rattle.ctl_kinds.specs.declared.pid.PidBox.TheInside.{Inside}

abbrev pub pid_seen : Inside → Seen
pid_seen inside = record { kind = Pid; setting = option_map PidOf inside.setting; state = inside.state }

-- a setting that is loaded is valid, the last output is in range, and a step on the sample that is kept leaves the state as it is
pub record IsSoundPid (inside : Inside) : Type 0 where
  pub valid : ForSome inside.setting IsValidPid
  pub small : ForSome inside.state.output IsMilli
  pub steady : ForSome inside.setting (λ setting. ForSome inside.steady (IsSteady setting inside.state))
