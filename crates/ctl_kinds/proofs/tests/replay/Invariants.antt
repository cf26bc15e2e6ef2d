use Rattle.std.proofs.Common.{IsSome}
use Rattle.ctl_kinds.proofs.tests.replay.Given as goal

-- a setting is loaded
abbrev pub invariant-loop-sample : goal.invariant-loop-sample
invariant-loop-sample g l = IsSome (g.C.Controller.seen l.controller).setting
