use Rattle.std.proofs.Common.{◌≡◌, ◌+◌, [], map, take}
use Rattle.bmc_io.specs.Told.{Told}
use Rattle.pat_gate.specs.Makers.{Maker}
use Rattle.bmc_machine.specs.Histories.{Options}
use Rattle.bmc_run.specs.declared.run.Pending.TheVariants.{Nothing}
use Rattle.bmc_replay.specs.Files.{HasTaken, ReadsFiles}
use Rattle.bmc_replay.proofs.files.take_files.Given as goal

abbrev pub invariant-loop-name : goal.invariant-loop-name
invariant-loop-name g l = record {
  comes : (options : Options) (told : Told) (first : Maker)
      → HasTaken options (g.Fs.Files.seen l.fn.files).holds [] told (g.K.Sink.seen l.fn.output).taken first (g.M.PatternMaker.seen l.fn.maker) l.fn.run
      → HasTaken options (g.Fs.Files.seen l.fn.files).holds (map (λ name. name.now) (take l.name-index l.names)) told
      (g.K.Sink.seen l.output).taken first (g.M.PatternMaker.seen l.maker) l.run;
  none : l.run.pending ≡ Nothing;
  number : l.run.number ≡ l.name-index + 1;
  sound : ReadsFiles (g.Fs.Files.seen l.fn.files) (g.Fs.Files.seen l.files);
  sink : (g.K.Sink.seen l.output).calls.faults ≡ (g.K.Sink.seen l.fn.output).calls.faults;
}
