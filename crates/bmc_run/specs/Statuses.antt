-- How a run of a script ends: what it has written and taken by then, and why.
use Rattle.std.specs.Prelude.{ℕ, ◌≡◌, ◌<◌, ◌≤◌, ◌++◌, List, length, ⊤, Option, Some, None, Result, Ok, Err}
use Rattle.std.specs.Io.KnownBytes.{Consumes, IsAtEnd}
use Rattle.bmc_base.specs.Calls.{Calls, Fails}
use Rattle.bmc_base.specs.Counts.{raised}
use Rattle.bmc_io.specs.Told.{Told, added}
use Rattle.bmc_io.specs.Sinks.{AppendsFront}
use Rattle.bmc_text.specs.Feeds.{longest_script}
use Rattle.bmc_text.specs.declared.lines.LineFault.{LineFault}
use Rattle.bmc_text.specs.declared.lines.LineFault.TheVariants as faults
use Rattle.bmc_text.specs.Items.{items_of}
use Rattle.pat_gate.specs.Makers.{Maker}
use Rattle.cfg_json.specs.Verdicts.{Verdict}
use Rattle.bmc_machine.specs.Ties.{AreTied, large_texts}
use Rattle.bmc_machine.specs.Answers.{Answer, answer_after, whole_answer_after, out_after}
use Rattle.bmc_run.specs.Outside.{Outside}
use Rattle.bmc_run.specs.declared.stop.Stop.{Stop}
use Rattle.bmc_run.specs.declared.stop.Stop.TheVariants.{OutOfMemory, ReadFault, WriteFault, TooLong}

abbrev pub stop_of : LineFault → Stop
stop_of faults.ReadFault = ReadFault
stop_of faults.Spent = TooLong
stop_of faults.OutOfMemory = OutOfMemory

-- A run ends well with the number of what it refused, as far as a u64 counts, or it stops. What it printed before the script, and not yet wrote, is
-- the text of the first answer.

-- the whole text of the script was written behind that, with one verdict for each item
pub record WritesAll (first : Answer) (script : List ℕ) (verdicts : List Verdict) (refused : ℕ) (old new : Told) : Type 0 where
  pub each : length verdicts ≡ length (items_of script)
  pub text : new ≡ added old (out_after first verdicts script)
  pub refusals : refused ≡ raised 0 (answer_after first verdicts script).refused

-- a front of it was written, whatever the verdicts on later items are
abbrev pub WritesFront : Answer → List ℕ → List Verdict → Told → Told → Type 0
WritesFront first script verdicts old new = (later : List Verdict) → AppendsFront old new (out_after first (verdicts ++ later) script)

-- what is written of a script: all of it where the run ends well, and else a front
abbrev pub Writes : Answer → Result ℕ Stop → List ℕ → List Verdict → Told → Told → Type 0
Writes first (Ok refused) script verdicts old new = WritesAll first script verdicts refused old new
Writes first (Err stop) script verdicts old new = WritesFront first script verdicts old new

-- what is said of a script, where the source tells it
abbrev pub WhereTold : {X : Type 0} → Option X → (X → Type 0) → Type 0
WhereTold None Fact = ⊤
WhereTold (Some script) Fact = Fact script

-- so many bytes of the source were taken
pub record Takes (before now : Outside) (IsCount : ℕ → Type 0) : Type 0 where
  pub bytes : List ℕ
  pub consumed : Consumes before.input.left now.input.left bytes
  pub count : IsCount (length bytes)

-- so many bytes were taken, and written are exactly the texts of the items that are whole in them
pub record WritesWhole (first : Answer) (verdicts : List Verdict) (before now : Outside) (IsCount : ℕ → Type 0) : Type 0 where
  pub bytes : List ℕ
  pub consumed : Consumes before.input.left now.input.left bytes
  pub count : IsCount (length bytes)
  pub text : now.output.taken ≡ added before.output.taken (whole_answer_after first verdicts bytes).text

-- What was taken of the source: to its end, with fewer bytes than a script may have, where the run ends well; as many on TooLong, and
-- fewer on ReadFault. On these two exactly the texts of the items that are whole in the bytes taken were written. No more than that
-- was ever taken.
abbrev pub Reaches : Answer → Result ℕ Stop → List Verdict → Outside → Outside → Type 0
Reaches first (Ok refused) verdicts before now = IsAtEnd now.input.left × Takes before now (λ count. count < longest_script)
Reaches first (Err OutOfMemory) verdicts before now = Takes before now (λ count. count ≤ longest_script)
Reaches first (Err ReadFault) verdicts before now = WritesWhole first verdicts before now (λ count. count < longest_script)
Reaches first (Err WriteFault) verdicts before now = Takes before now (λ count. count ≤ longest_script)
Reaches first (Err TooLong) verdicts before now = WritesWhole first verdicts before now (λ count. count ≡ longest_script)

-- A script is replayed behind this answer, under verdicts on the patterns of its configurations: they are tied to its items, one after another, and the
-- maker lists in order the texts that they call too large.
pub record Replays (first : Answer) (result : Result ℕ Stop) (before now : Outside) (maker maker_now : Maker) : Type 0 where
  pub verdicts : List Verdict
  pub tied : WhereTold before.input.left (λ script. AreTied (items_of script) verdicts)
  pub large : maker_now.refused ≡ maker.refused ++ large_texts verdicts
  pub text : WhereTold before.input.left (λ script. Writes first result script verdicts before.output.taken now.output.taken)
  pub reached : Reaches first result verdicts before now

-- no call of the source failed; none of the sink
abbrev pub ReadsWell : Outside → Outside → Type 0
ReadsWell before now = now.input.calls.faults ≡ before.input.calls.faults

abbrev pub WritesWell : Outside → Outside → Type 0
WritesWell before now = now.output.calls.faults ≡ before.output.calls.faults

-- Why it ended. The first call of the outside that fails ends the run: on ReadFault one call of the source failed and none was made after
-- it, on WriteFault one call of the sink; else no call failed.
abbrev pub HasReason : Result ℕ Stop → Outside → Outside → Type 0
HasReason (Ok refused) before now = ReadsWell before now × WritesWell before now
HasReason (Err OutOfMemory) before now = ReadsWell before now × WritesWell before now
HasReason (Err ReadFault) before now = Fails before.input.calls now.input.calls × WritesWell before now
HasReason (Err WriteFault) before now = ReadsWell before now × Fails before.output.calls now.output.calls
HasReason (Err TooLong) before now = ReadsWell before now × WritesWell before now

-- why a write stops; it makes no other faults
abbrev pub WriteCause : Stop → Calls → Calls → Type 0
WriteCause OutOfMemory before now = now.faults ≡ before.faults
WriteCause WriteFault before now = Fails before now
WriteCause ReadFault before now = ⊥
WriteCause TooLong before now = ⊥
