-- What the command does, by its words.
use Rattle.std.specs.Prelude.{ℕ, ◌≡◌, ◌++◌, ◌⊎◌, ⊤, List, length, codes, decimal, Option, Some, None, Result, Ok, Err, MatchBool, MatchOption}
use Rattle.bmc_base.specs.Calls.{Fails}
use Rattle.bmc_base.specs.Counts.{raised}
use Rattle.bmc_io.specs.Files.{Folder}
use Rattle.bmc_io.specs.Told.{Told, added}
use Rattle.bmc_io.specs.Sinks.{Output, AppendsFront}
use Rattle.bmc_text.specs.Items.{Item, items_of}
use Rattle.pat_gate.specs.Makers.{Maker}
use Rattle.cfg_json.specs.Verdicts.{Verdict}
use Rattle.bmc_gen.specs.Scripts.{script_of}
use Rattle.bmc_machine.specs.Histories.{Options, begun}
use Rattle.bmc_machine.specs.Ties.{AreTied, large_texts}
use Rattle.bmc_machine.specs.Answers.{Answer, silent, answer_files, answer_after, out_after}
use Rattle.bmc_words.specs.Settings.{SettingsView, are_refused, settings_of, usage}
use Rattle.bmc_words.specs.declared.settings.WordsFault.{WordsFault}
use Rattle.bmc_words.specs.declared.settings.WordsFault.TheVariants as reasons
use Rattle.bmc_base.specs.declared.out_of_memory.OutOfMemory.{OutOfMemory as NoMemory}
use Rattle.bmc_run.specs.Outside.{Outside}
use Rattle.bmc_run.specs.Runs.{IsAfter, IsReady}
use Rattle.bmc_run.specs.declared.run.Run.{Run}
use Rattle.bmc_run.specs.Statuses.{Replays, HasReason}
use Rattle.bmc_run.specs.declared.stop.Stop.{Stop}
use Rattle.bmc_run.specs.declared.stop.Stop.TheVariants as stops
use Rattle.bmc_replay.specs.Files.{AreItems, StopsAtFile, ReadsFiles, FileCause}
use Rattle.bmc_replay.specs.Statuses.{status_of}
use Rattle.bmc_replay.specs.declared.sample.Counted.{Counted}
use Rattle.bmc_replay.specs.declared.status.Status.{Status}
use Rattle.bmc_replay.specs.declared.status.Status.TheVariants.{Done, Refused, Usage, OutOfMemory, ReadFault, WriteFault, TooLong}

-- ---- files and a script

-- The run stops at a file: nothing of the input was read.
pub record StopsBefore (options : Options) (names : List (List ℕ)) (stop : Stop) (files files_now : Folder) (before now : Outside) (maker maker_now : Maker)
    : Type 0 where
  pub unread : now.input ≡ before.input
  pub stops : StopsAtFile options files.holds names before.output.taken now.output.taken maker maker_now
  pub cause : FileCause stop names files files_now before.output.calls now.output.calls

-- The run comes to the script: each file was taken, with one verdict on it, and the script is replayed behind them. The first call of the outside that
-- fails ends the run.
pub record ComesToScript (options : Options) (names : List (List ℕ)) (result : Result ℕ Stop) (files files_now : Folder) (before now : Outside)
    (maker maker_now : Maker) : Type 0 where
  pub items : List Item
  pub verdicts : List Verdict
  pub read : AreItems files.holds names items
  pub each : length verdicts ≡ length items
  pub tied : AreTied items verdicts
  pub asked : Maker
  pub large : asked.refused ≡ maker.refused ++ large_texts verdicts
  pub sound : ReadsFiles files files_now
  pub script : Replays (answer_files options verdicts items) result before now asked maker_now
  pub reason : HasReason result before now

-- The files of these names are taken and then the script, or the run stops before that.
abbrev pub RunsFiles : Options → List (List ℕ) → Result ℕ Stop → Folder → Folder → Outside → Outside → Maker → Maker → Type 0
RunsFiles options names (Ok refused) files files_now before now maker maker_now =
    ComesToScript options names (Ok refused) files files_now before now maker maker_now
RunsFiles options names (Err stop) files files_now before now maker maker_now =
    StopsBefore options names stop files files_now before now maker maker_now
    ⊎ ComesToScript options names (Err stop) files files_now before now maker maker_now

-- ---- a sample

-- so many lines of a sample are chosen by its seed
abbrev pub sample_choices : ℕ
sample_choices = 20000

-- with two configurations and a list of the zones, it has so many
abbrev pub sample_lines : ℕ
sample_lines = 20003

abbrev pub sample_of : ℕ → List ℕ
sample_of seed = script_of seed sample_choices

-- what is said of a sample: its seed, its lines, how many are refused, and the length of what is printed for it
abbrev pub summary : ℕ → ℕ → ℕ → List ℕ
summary seed refused bytes =
    codes "sample " ++ decimal seed ++ codes " lines " ++ decimal sample_lines ++ codes " refused " ++ decimal refused ++ codes " bytes " ++ decimal bytes
    ++ codes "\n"

-- a sample is run in place of the input
abbrev pub alone : Options → Answer
alone options = silent (begun options)

abbrev pub refusals_in : Options → ℕ → List Verdict → ℕ
refusals_in options seed verdicts = raised 0 (answer_after (alone options) verdicts (sample_of seed)).refused

abbrev pub summary_of : Options → ℕ → List Verdict → List ℕ
summary_of options seed verdicts = summary seed (refusals_in options seed verdicts) (length (out_after (alone options) verdicts (sample_of seed)))

-- how it ends: with the summary written, and so much refused; or a write of the summary failed; or there was no memory, and nothing was written
abbrev pub EndsSample : Options → ℕ → List Verdict → Result ℕ Stop → Output → Output → Type 0
EndsSample options seed verdicts (Ok refused) old new =
    (length verdicts ≡ length (items_of (sample_of seed))) × (refused ≡ refusals_in options seed verdicts)
    × (new.taken ≡ added old.taken (summary_of options seed verdicts)) × (new.calls.faults ≡ old.calls.faults)
EndsSample options seed verdicts (Err stops.WriteFault) old new =
    (length verdicts ≡ length (items_of (sample_of seed))) × AppendsFront old.taken new.taken (summary_of options seed verdicts) × Fails old.calls new.calls
EndsSample options seed verdicts (Err stops.OutOfMemory) old new = new ≡ old
EndsSample options seed verdicts (Err stops.ReadFault) old new = ⊥
EndsSample options seed verdicts (Err stops.TooLong) old new = ⊥

-- Its verdicts are those of the maker.
pub record RunsSample (options : Options) (seed : ℕ) (result : Result ℕ Stop) (old new : Output) (maker maker_now : Maker) : Type 0 where
  pub verdicts : List Verdict
  pub tied : AreTied (items_of (sample_of seed)) verdicts
  pub large : maker_now.refused ≡ maker.refused ++ large_texts verdicts
  pub ends : EndsSample options seed verdicts result old new

-- what is counted by a run that ended so, behind which the sink tells so many bytes
abbrev pub counted_of : Result ℕ Stop → Option ℕ → Result Counted NoMemory
counted_of (Ok refused) (Some bytes) = Ok (record { refused = refused; bytes = bytes })
counted_of (Ok refused) None = Err (record {})
counted_of (Err stop) bytes = Err (record {})

-- what was counted of a sample: all of it, or not all for want of memory
abbrev pub IsCounted : Options → ℕ → List Verdict → Result Counted NoMemory → Type 0
IsCounted options seed verdicts (Ok counted) =
    (length verdicts ≡ length (items_of (sample_of seed))) × (counted.refused ≡ refusals_in options seed verdicts)
    × (counted.bytes ≡ length (out_after (alone options) verdicts (sample_of seed)))
IsCounted options seed verdicts (Err fault) = ⊤

pub record CountsSample (options : Options) (seed : ℕ) (result : Result Counted NoMemory) (maker maker_now : Maker) : Type 0 where
  pub verdicts : List Verdict
  pub tied : AreTied (items_of (sample_of seed)) verdicts
  pub large : maker_now.refused ≡ maker.refused ++ large_texts verdicts
  pub counted : IsCounted options seed verdicts result

-- a run to which nothing has happened
abbrev pub IsNew : {L C : Type 0} → Options → Run L C → Type 0
IsNew options run = IsReady run × ((told : Told) → IsAfter (alone options) told told run)

-- ---- words

abbrev pub options_of : SettingsView → Options
options_of settings = record { strict = settings.strict; log_cap = settings.log_cap }

-- What settings ask for is run: files and a script, or a sample, for which neither files nor the input are read.
abbrev pub RunsSettings : SettingsView → Result ℕ Stop → Folder → Folder → Outside → Outside → Maker → Maker → Type 0
RunsSettings settings result files files_now before now maker maker_now = MatchOption settings.sample
    (RunsFiles (options_of settings) settings.configs result files files_now before now maker maker_now)
    (λ seed. (files_now ≡ files) × (now.input ≡ before.input)
    × RunsSample (options_of settings) seed result before.output now.output maker maker_now)

-- it ends with this status
pub record Obeys (settings : SettingsView) (status : Status) (files files_now : Folder) (before now : Outside) (maker maker_now : Maker) : Type 0 where
  pub result : Result ℕ Stop
  pub status_is : status ≡ status_of result
  pub runs : RunsSettings settings result files files_now before now maker maker_now

-- the usage line is written, or a front of it; or there was no memory, and nothing was written
abbrev pub EndsRefused : Status → Output → Output → Type 0
EndsRefused Usage old new = (new.taken ≡ added old.taken usage) × (new.calls.faults ≡ old.calls.faults)
EndsRefused WriteFault old new = AppendsFront old.taken new.taken usage × Fails old.calls new.calls
EndsRefused OutOfMemory old new = new ≡ old
EndsRefused Done old new = ⊥
EndsRefused Refused old new = ⊥
EndsRefused ReadFault old new = ⊥
EndsRefused TooLong old new = ⊥

-- words give no settings, for this reason
abbrev pub EndsUnsettled : WordsFault → Status → Output → Output → Type 0
EndsUnsettled reasons.Usage status old new = EndsRefused status old new
EndsUnsettled reasons.OutOfMemory status old new = (status ≡ OutOfMemory) × (new ≡ old)

-- words are refused, and nothing is read or asked
pub record RefusesWords (status : Status) (files files_now : Folder) (before now : Outside) (maker maker_now : Maker) : Type 0 where
  pub unread : (files_now ≡ files) × (now.input ≡ before.input)
  pub unasked : maker_now ≡ maker
  pub ends : EndsRefused status before.output now.output

-- what the command does
abbrev pub ReplaysWords : List (List ℕ) → Status → Folder → Folder → Outside → Outside → Maker → Maker → Type 0
ReplaysWords words status files files_now before now maker maker_now =
    MatchBool (are_refused words) (RefusesWords status files files_now before now maker maker_now)
    (Obeys (settings_of words) status files files_now before now maker maker_now)
