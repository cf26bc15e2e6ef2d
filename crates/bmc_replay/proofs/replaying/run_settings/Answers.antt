-- What settings ask for is run, or there is no memory for it.
use Rattle.std.proofs.Common.{refl}
use Rattle.std.proofs.lemmas.Result.{err_from_is_err_and}
use Rattle.bmc_words.specs.Settings.{view_of}
use Rattle.bmc_run.specs.Outside.{outside}
use Rattle.bmc_replay.specs.Commands.{options_of}
use Rattle.bmc_replay.proofs.CommandsLemmas.{nothing_run}
use Rattle.bmc_replay.proofs.replaying.run_settings.Goals as goal

pub returns-in_err-run : goal.returns-in_err-run
returns-in_err-run g c =
    let p = err_from_is_err_and c.from_residual.result c.from_residual.ensures.1 in
    rw (p.1, p.2)
    (nothing_run (view_of c.args.settings.now) (g.Fs.Files.seen c.args.files.now)
    (outside (g.S.Source.seen c.args.input.now) (g.K.Sink.seen c.args.output.now)) (g.M.PatternMaker.seen c.args.maker.now))

pub returns-in-Some : goal.returns-in-Some
returns-in-Some g c =
    rw c.in-Some.is (refl, refl, c.run_sample.ensures (options_of (view_of c.args.settings.now)) (c.in_ok-run.ensures.ready, c.in_ok-run.ensures.new))

pub returns : goal.returns
returns g c =
    rw (c.in-None.is, ← c.as_slice-names.ensures.value)
    (c.run_files.ensures (options_of (view_of c.args.settings.now)) (c.in_ok-run.ensures.ready, c.in_ok-run.ensures.new))
