use Rattle.ctl_kinds.proofs.stepwise.StepBoxController.step.Goals as goal

pub stepwise_step-self-inside-requires-clause-setting : goal.stepwise_step-self-inside-requires-clause-setting
stepwise_step-self-inside-requires-clause-setting c = c.self.invariant.valid c.in-Some.setting c.in-Some.is
