-- The configuration files of a run.
use Rattle.std.specs.Prelude.{ℕ, ◌≡◌, ◌+◌, ◌++◌, nat_lt, if◌then◌else◌, ⊤, List, [], ◌∷◌, filter_map, length, Option, Some, option_map}
use Rattle.std.specs.List.{Contains}
use Rattle.bmc_base.specs.Calls.{Calls, Fails}
use Rattle.bmc_io.specs.Files.{Folder, bytes_of}
use Rattle.bmc_io.specs.Told.{Told}
use Rattle.bmc_io.specs.Sinks.{AppendsFront}
use Rattle.bmc_text.specs.Items.{Item, Block, BlockTooLong, longest_block}
use Rattle.pat_gate.specs.Makers.{Maker}
use Rattle.cfg_json.specs.Verdicts.{Verdict}
use Rattle.bmc_machine.specs.Histories.{Options}
use Rattle.bmc_machine.specs.Ties.{AreTied, large_texts}
use Rattle.bmc_machine.specs.Answers.{answer_files}
use Rattle.bmc_run.specs.Runs.{IsAfter}
use Rattle.bmc_run.specs.Statuses.{WhereTold}
use Rattle.bmc_run.specs.declared.run.Run.{Run}
use Rattle.bmc_run.specs.declared.run.Pending.TheVariants.{Nothing}
use Rattle.bmc_run.specs.declared.stop.Stop.{Stop}
use Rattle.bmc_run.specs.declared.stop.Stop.TheVariants.{OutOfMemory, ReadFault, WriteFault, TooLong}

-- what a file with these bytes is taken as: a block, or one that is too long
abbrev pub item_of : List ℕ → Item
item_of bytes = if nat_lt longest_block (length bytes) then BlockTooLong else Block bytes

-- the item of the file with this name, if there is one
abbrev pub item_named : List (List ℕ × List ℕ) → List ℕ → Option Item
item_named files name = option_map item_of (bytes_of files name)

-- the items of the files with these names, in order, as far as there are such files
abbrev pub file_items : List (List ℕ × List ℕ) → List (List ℕ) → List Item
file_items files names = filter_map (item_named files) names

-- these are the items of the files with these names, one each, where files tell what they hold
abbrev pub AreItems : Option (List (List ℕ × List ℕ)) → List (List ℕ) → List Item → Type 0
AreItems holds [] [] = ⊤
AreItems holds [] (item ∷ items) = ⊥
AreItems holds (name ∷ names) [] = ⊥
AreItems holds (name ∷ names) (item ∷ items) = WhereTold holds (λ files. item_named files name ≡ Some item) × AreItems holds names items

-- The files with these names were read and taken, under these verdicts on their patterns, and nothing is still to be done. What was printed since the
-- sink told the first of these is written or gathered.
pub record HasTaken {L C : Type 0} (options : Options) (holds : Option (List (List ℕ × List ℕ))) (names : List (List ℕ)) (old now : Told)
    (maker maker_now : Maker) (run : Run L C) : Type 0 where
  pub items : List Item
  pub verdicts : List Verdict
  pub read : AreItems holds names items
  pub each : length verdicts ≡ length items
  pub tied : AreTied items verdicts
  pub large : maker_now.refused ≡ maker.refused ++ large_texts verdicts
  pub after : IsAfter (answer_files options verdicts items) old now run
  pub pending : run.pending ≡ Nothing
  pub number : run.number ≡ length items + 1

-- The run stops at one of the files with these names: a front of what is printed of them is written, whatever later verdicts are.
pub record StopsAtFile (options : Options) (holds : Option (List (List ℕ × List ℕ))) (names : List (List ℕ)) (old now : Told) (maker maker_now : Maker)
    : Type 0 where
  pub verdicts : List Verdict
  pub tied : WhereTold holds (λ files. AreTied (file_items files names) verdicts)
  pub large : maker_now.refused ≡ maker.refused ++ large_texts verdicts
  pub text : WhereTold holds (λ files. (later : List Verdict)
      → AppendsFront old now (answer_files options (verdicts ++ later) (file_items files names)).text)

-- no file failed, and the files hold what they held
pub record ReadsFiles (old new : Folder) : Type 0 where
  pub holds : new.holds ≡ old.holds
  pub faults : new.calls.faults ≡ old.calls.faults
  pub failed_names : new.failed_names ≡ old.failed_names

-- one file failed, and no file was read after it: its name is one of these, and joins the list of those that failed
pub record FailsAtFile (names : List (List ℕ)) (old new : Folder) : Type 0 where
  pub holds : new.holds ≡ old.holds
  pub fails : Fails old.calls new.calls
  pub name : List ℕ
  pub is_one : Contains names name
  pub failed_names : new.failed_names ≡ old.failed_names ++ name ∷ []

-- why a run stops at one of the files with these names
abbrev pub FileCause : Stop → List (List ℕ) → Folder → Folder → Calls → Calls → Type 0
FileCause OutOfMemory names old new calls calls_now = ReadsFiles old new × (calls_now.faults ≡ calls.faults)
FileCause ReadFault names old new calls calls_now = FailsAtFile names old new × (calls_now.faults ≡ calls.faults)
FileCause WriteFault names old new calls calls_now = ReadsFiles old new × Fails calls calls_now
FileCause TooLong names old new calls calls_now = ⊥
