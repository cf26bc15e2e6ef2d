use Rattle.bmc_run.proofs.RunsLemmas.{shown_answers, ticks_answer}
use Rattle.bmc_run.proofs.run.run_command.Goals as goal

pub returns-in-Show : goal.returns-in-Show
returns-in-Show g c = rw c.in-Show.is (shown_answers c.args.core.now c.in-Show.topic)

pub returns-in-Ticks : goal.returns-in-Ticks
returns-in-Ticks g c = rw c.in-Ticks.is (ticks_answer c.args.core.now c.in-Ticks.count)
