-- A line without a command is refused for its fault.
use Rattle.std.proofs.Common.{Result, Err, subst}
use Rattle.bmc_script.specs.Commands.{GivesCommand, command_of}
use Rattle.bmc_script.specs.declared.command.Command.{Command}
use Rattle.bmc_script.specs.declared.command.ScriptFault.{ScriptFault}
use Rattle.bmc_run.proofs.RunsLemmas.{line_answers}
use Rattle.bmc_run.proofs.run.take_command.Goals as goal

pub returns : goal.returns
returns g c =
    let line = c.args.line.now in
    let gives : GivesCommand (Err c.in-Err.fault) (command_of line) =
    subst (λ (read : Result Command ScriptFault). GivesCommand read (command_of line)) c.in-Err.is c.read-read.ensures in
    line_answers c.args.core.now line c.in-Err.fault c.in_ok-refusal-in-Err.refusal gives c.in_ok-refusal-in-Err.ensures.refusal
