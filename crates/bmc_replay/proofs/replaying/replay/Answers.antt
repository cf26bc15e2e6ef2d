-- What the words ask for is done, or they are refused.
use Rattle.std.proofs.Common.{◌≡◌, ◌∙◌, ap, false, map, string_bytes, subst, true}
use Rattle.bmc_run.specs.Outside.{outside}
use Rattle.bmc_words.specs.Settings.{SettingsView, are_refused, settings_of}
use Rattle.bmc_replay.specs.Commands.{RunsSettings}
use Rattle.bmc_replay.proofs.CommandsLemmas.{words_obeyed, words_unsettled}
use Rattle.bmc_replay.proofs.replaying.replay.Goals as goal

pub returns-in-Ok : goal.returns-in-Ok
returns-in-Ok g c =
    let same = c.deref.ensures.value in
    words_obeyed (map string_bytes c.args.words.now.items) _ _ _ _ _ _ _
    (subst (λ words. are_refused (map string_bytes words) ≡ false) same c.in-Ok.ensures.taken) (record {
      result = c.run_settings-ended.result;
      status_is = c.status_of.ensures;
      runs =
          subst (λ (settings : SettingsView).
          RunsSettings settings c.run_settings-ended.result (g.Fs.Files.seen c.args.files.now) (g.Fs.Files.seen c.run_settings-ended.new.files)
          (outside (g.S.Source.seen c.args.input.now) (g.K.Sink.seen c.args.output.now))
          (outside (g.S.Source.seen c.run_settings-ended.new.input) (g.K.Sink.seen c.run_settings-ended.new.output))
          (g.M.PatternMaker.seen c.args.maker.now) (g.M.PatternMaker.seen c.run_settings-ended.new.maker))
          (c.in-Ok.ensures.settings ∙ ap (λ words. settings_of (map string_bytes words)) same) c.run_settings-ended.ensures;
    })

pub returns-in-Err : goal.returns-in-Err
returns-in-Err g c =
    words_unsettled (map string_bytes c.args.words.now.items) c.in-Err.fault _ _ _ _ _ _
    (λ usage. subst (λ words. are_refused (map string_bytes words) ≡ true) c.deref.ensures.value (c.in-Err.ensures.usage usage)) c.end_unsettled.ensures
