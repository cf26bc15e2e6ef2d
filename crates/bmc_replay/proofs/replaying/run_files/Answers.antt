-- Files are taken, and then the script.
use Rattle.std.proofs.Common.{inl, map, refl}
use Rattle.std.proofs.lemmas.Result.{err_from_is_err_and}
use Rattle.bmc_replay.proofs.CommandsLemmas.{files_then_script}
use Rattle.bmc_replay.proofs.FilesLemmas.{taken_none}
use Rattle.bmc_replay.proofs.replaying.run_files.Goals as goal

pub returns-in_err-take_files : goal.returns-in_err-take_files
returns-in_err-take_files g c =
    let p = err_from_is_err_and c.from_residual.result c.from_residual.ensures.1 in
    rw (p.1, p.2) (λ options new.
    inl (record {
      unread = refl;
      stops =
          c.in_err-take_files.ensures.stops options _ _
          (taken_none options _ _ _ c.args.run.now new.0 (new.1 (g.K.Sink.seen c.args.output.now).taken));
      cause = c.in_err-take_files.ensures.cause;
    }))

pub returns : goal.returns
returns g c = λ options new.
    files_then_script options (map (λ name. name.now) c.args.names.now) c.run_script.result (g.Fs.Files.seen c.args.files.now)
    (g.Fs.Files.seen c.take_files.new.files) (g.S.Source.seen c.args.input.now) (g.S.Source.seen c.run_script.new.input)
    (g.K.Sink.seen c.args.output.now) (g.K.Sink.seen c.take_files.new.output) (g.K.Sink.seen c.run_script.new.output)
    (g.M.PatternMaker.seen c.args.maker.now) (g.M.PatternMaker.seen c.take_files.new.maker) (g.M.PatternMaker.seen c.run_script.new.maker)
    c.take_files.new.run c.begin_script.new.self
    (c.in_ok-take_files.ensures.taken options _ _
    (taken_none options _ _ _ c.args.run.now new.0 (new.1 (g.K.Sink.seen c.args.output.now).taken)))
    c.begin_script.ensures c.in_ok-take_files.ensures.sound.0 c.in_ok-take_files.ensures.sound.1 c.run_script.ensures.run c.run_script.ensures.reason
