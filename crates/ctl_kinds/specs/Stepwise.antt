-- What is seen of a stepwise box.
use Rattle.std.specs.Prelude.{◌≡◌, is_some, option_map}
use Rattle.std.specs.Option.{ForSome}
use Rattle.ctl_face.specs.Ranges.{IsMilli, IsValidStep}
use Rattle.ctl_face.specs.Seen.{Seen}
use Rattle.ctl_face.specs.declared.kind.Kind.TheVariants.{Stepwise}
use Rattle.ctl_face.specs.declared.setting.Setting.TheVariants.{Stepwise as StepwiseOf}
use Rattle.ctl_kinds.specs.declared.stepwise.StepBox.TheInside.{Inside}

abbrev pub stepwise_seen : Inside → Seen
stepwise_seen inside = record { kind = Stepwise; setting = option_map StepwiseOf inside.setting; state = inside.state }

-- a setting that is loaded is valid, there is an output where there is a base, and it is in range
pub record IsSoundStepwise (inside : Inside) : Type 0 where
  pub valid : ForSome inside.setting IsValidStep
  pub both : is_some inside.state.base ≡ is_some inside.state.output
  pub small : ForSome inside.state.output IsMilli
