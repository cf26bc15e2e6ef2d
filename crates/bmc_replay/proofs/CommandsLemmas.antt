-- What the command does, by its parts.
use Rattle.std.proofs.Common.{◌≡◌, ◌∙◌, ℕ, List, [], Option, Some, None, Bool, true, false, inl, inr, refl, ap, sym, subst, append-nil, string_bytes}
use Rattle.std.specs.Prelude.{IsErrOf, Result, Ok, Err, MatchBool}
use Rattle.bmc_io.specs.Files.{Folder}
use Rattle.bmc_io.specs.Told.{Told}
use Rattle.bmc_io.specs.Sinks.{Output}
use Rattle.bmc_io.specs.Sources.{Input}
use Rattle.bmc_io.proofs.Fronts.{front_none}
use Rattle.bmc_text.specs.Items.{items_of}
use Rattle.pat_gate.specs.Makers.{Maker}
use Rattle.bmc_machine.specs.Histories.{Options}
use Rattle.bmc_machine.specs.Answers.{Answer, answer_files}
use Rattle.bmc_words.specs.Settings.{SettingsView, are_refused, settings_of}
use Rattle.bmc_words.specs.declared.settings.Settings.{Settings}
use Rattle.bmc_words.specs.declared.settings.WordsFault.{WordsFault}
use Rattle.bmc_words.specs.declared.settings.WordsFault.TheVariants as reasons
use Rattle.bmc_run.specs.Outside.{Outside, outside}
use Rattle.bmc_run.specs.Gathering.{Printed}
use Rattle.bmc_run.specs.Runs.{IsAfter}
use Rattle.bmc_run.specs.Statuses.{Replays, HasReason}
use Rattle.bmc_run.proofs.ReasonsLemmas.{reason_behind}
use Rattle.bmc_core.specs.Cores.{Stands}
use Rattle.bmc_run.specs.declared.run.Run.{Run}
use Rattle.bmc_run.specs.declared.stop.Stop.{Stop}
use Rattle.bmc_run.specs.declared.stop.Stop.TheVariants as stops
use Rattle.bmc_replay.specs.Files.{HasTaken, StopsAtFile, ReadsFiles, file_items}
use Rattle.bmc_replay.proofs.FilesLemmas.{reads_nothing}
use Rattle.bmc_replay.proofs.SampleLemmas.{no_ties}
use Rattle.bmc_replay.specs.Commands.{ComesToScript, RunsFiles, RunsSettings, ReplaysWords, RefusesWords, Obeys, EndsUnsettled}
use Rattle.bmc_replay.specs.Commands.{options_of, sample_of}
use Rattle.bmc_replay.specs.declared.status.Status.{Status}
use Rattle.bmc_replay.specs.declared.status.Status.TheVariants.{OutOfMemory}

-- ---- memory is wanting at once

unread_files : (options : Options) (holds : Option (List (List ℕ × List ℕ))) (names : List (List ℕ)) (told : Told) (maker : Maker)
    → StopsAtFile options holds names told told maker maker
unread_files options None names told maker = record { verdicts = []; tied = tt; large = sym (append-nil maker.refused); text = tt }
unread_files options (Some files) names told maker = record {
  verdicts = [];
  tied = no_ties (file_items files names);
  large = sym (append-nil maker.refused);
  text = λ later. front_none told (answer_files options later (file_items files names)).text;
}

-- then nothing was done of what settings ask for
pub nothing_run : (settings : SettingsView) (files : Folder) (before : Outside) (maker : Maker)
    → RunsSettings settings (Err stops.OutOfMemory) files files before before maker maker
nothing_run settings files before maker = by settings.sample
  where
    options : Options
    options = options_of settings

    by : (sample : Option ℕ) → RunsSettings (record settings { sample = sample }) (Err stops.OutOfMemory) files files before before maker maker
    by None = inl (record {
      unread = refl;
      stops = unread_files options files.holds settings.configs before.output.taken maker;
      cause = (reads_nothing files, refl);
    })
    by (Some seed) = (
      refl,
      refl,
      record {
        verdicts = [];
        tied = no_ties (items_of (sample_of seed));
        large = sym (append-nil maker.refused);
        ends = refl;
      },
    )

-- and whether words are refused is not known
nothing_replayed : (words : List (List ℕ)) (files : Folder) (before : Outside) (maker : Maker)
    → ReplaysWords words OutOfMemory files files before before maker maker
nothing_replayed words files before maker = by (are_refused words)
  where
    by : (refused : Bool) → MatchBool refused (RefusesWords OutOfMemory files files before before maker maker)
        (Obeys (settings_of words) OutOfMemory files files before before maker maker)
    by true = record { unread = (refl, refl); unasked = refl; ends = refl }
    by false = record { result = Err stops.OutOfMemory; status_is = refl; runs = nothing_run (settings_of words) files before maker }

-- ---- words that are taken, and words that are refused

pub words_obeyed : (words : List (List ℕ)) (status : Status) (files files_now : Folder) (before now : Outside) (maker maker_now : Maker)
    → are_refused words ≡ false → Obeys (settings_of words) status files files_now before now maker maker_now
    → ReplaysWords words status files files_now before now maker maker_now
words_obeyed words status files files_now before now maker maker_now taken obeys =
    subst (λ (refused : Bool). MatchBool refused (RefusesWords status files files_now before now maker maker_now)
    (Obeys (settings_of words) status files files_now before now maker maker_now)) (sym taken) obeys

words_refused : (words : List (List ℕ)) (status : Status) (files files_now : Folder) (before now : Outside) (maker maker_now : Maker)
    → are_refused words ≡ true → RefusesWords status files files_now before now maker maker_now
    → ReplaysWords words status files files_now before now maker maker_now
words_refused words status files files_now before now maker maker_now taken refuses =
    subst (λ (refused : Bool). MatchBool refused (RefusesWords status files files_now before now maker maker_now)
    (Obeys (settings_of words) status files files_now before now maker maker_now)) (sym taken) refuses

pub words_unsettled : (words : List (List ℕ)) (fault : WordsFault) (status : Status) (files : Folder) (input : Input) (before now : Output) (maker : Maker)
    → (IsErrOf (let result : Result Settings WordsFault = Err fault in result) reasons.Usage → are_refused words ≡ true)
    → EndsUnsettled fault status before now → ReplaysWords words status files files (outside input before) (outside input now) maker maker
words_unsettled words reasons.Usage status files input before now maker usage ends =
    words_refused words status files files (outside input before) (outside input now) maker maker (usage refl)
    (record { unread = (refl, refl); unasked = refl; ends = ends })
words_unsettled words reasons.OutOfMemory status files input before now maker usage ends =
    subst (λ (status : Status). ReplaysWords words status files files (outside input before) (outside input now) maker maker) (sym ends.0)
    (subst (λ (output : Output). ReplaysWords words OutOfMemory files files (outside input before) (outside input output) maker maker) (sym ends.1)
    (nothing_replayed words files (outside input before) maker))

-- ---- files, and then the script

comes : (options : Options) (names : List (List ℕ)) (result : Result ℕ Stop) (files files_now : Folder) (before now : Outside) (maker maker_now : Maker)
    → ComesToScript options names result files files_now before now maker maker_now
    → RunsFiles options names result files files_now before now maker maker_now
comes options names (Ok refused) files files_now before now maker maker_now script = script
comes options names (Err stop) files files_now before now maker maker_now script = inr script

pub files_then_script : {L C : Type 0} (options : Options) (names : List (List ℕ)) (result : Result ℕ Stop) (files files_now : Folder) (input input_now : Input)
    (before mid now : Output) (maker asked maker_now : Maker) (taken begun : Run L C)
    → HasTaken options files.holds names before.taken mid.taken maker asked taken → begun ≡ record taken { number = 1 }
    → ReadsFiles files files_now → mid.calls.faults ≡ before.calls.faults
    → ((first : Answer) (printed : Output) → IsAfter first printed.taken mid.taken begun
    → Replays first result (outside input printed) (outside input_now now) asked maker_now)
    → HasReason result (outside input mid) (outside input_now now)
    → RunsFiles options names result files files_now (outside input before) (outside input_now now) maker maker_now
files_then_script {L} {C} options names result files files_now input input_now before mid now maker asked maker_now taken begun has same sound well script
    reason =
    comes options names result files files_now (outside input before) (outside input_now now) maker maker_now (record {
      items = has.items;
      verdicts = has.verdicts;
      read = has.read;
      each = has.each;
      tied = has.tied;
      asked = asked;
      large = has.large;
      sound = sound;
      script = script (answer_files options has.verdicts has.items) before (record {
        core = subst (λ (run : Run L C). Stands run.core first.past) (sym same) has.after.core;
        printed = subst (λ (run : Run L C). Printed before.taken mid.taken (string_bytes run.text) first.text) (sym same) has.after.printed;
        refused = ap (λ (run : Run L C). run.refused) same ∙ has.after.refused;
      });
      reason = reason_behind result (outside input before) (outside input mid) (outside input_now now) refl well reason;
    })
  where
    first : Answer
    first = answer_files options has.verdicts has.items
