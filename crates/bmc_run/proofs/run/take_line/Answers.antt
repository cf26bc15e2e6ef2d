-- A blank line asks for nothing.
use Rattle.std.proofs.Common.{sym}
use Rattle.bmc_run.proofs.RunsLemmas.{blank_answers}
use Rattle.bmc_run.proofs.run.take_line.Goals as goal

pub returns-then-is_blank : goal.returns-then-is_blank
returns-then-is_blank g c = blank_answers c.args.core.now c.args.line.now (sym c.if-is_blank.ensures)
