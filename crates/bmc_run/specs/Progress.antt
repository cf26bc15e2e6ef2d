-- How far the machine has come in a script.
use Rattle.std.specs.Prelude.{ℕ, ◌≡◌, ◌+◌, ◌≤◌, ◌++◌, Bool, true, false, List, [], length, Err}
use Rattle.std.specs.Io.KnownBytes.{Consumes}
use Rattle.bmc_base.specs.Counts.{raised}
use Rattle.bmc_text.specs.Items.{items_of, whole_items}
use Rattle.bmc_text.specs.Feeds.{ItemFeed}
use Rattle.pat_gate.specs.Makers.{Maker}
use Rattle.cfg_json.specs.Verdicts.{Verdict}
use Rattle.bmc_machine.specs.Ties.{AreTied, large_texts}
use Rattle.bmc_report.specs.declared.refusal.Origin.TheVariants.{Line}
use Rattle.bmc_machine.specs.Answers.{Answer, and_then, answers, answer_after, whole_answer_after}
use Rattle.bmc_core.specs.Cores.{Stands}
use Rattle.bmc_run.specs.Outside.{Outside}
use Rattle.bmc_run.specs.Gathering.{Printed}
use Rattle.bmc_run.specs.Runs.{gathered, settled}
use Rattle.bmc_run.specs.Statuses.{Replays}
use Rattle.bmc_run.specs.declared.run.Run.{Run}
use Rattle.bmc_run.specs.declared.stop.Stop.{Stop}

-- Behind a first answer, the machine has taken all of these bytes of a script but those that wait, with these verdicts and this answer so far, and
-- goes on with what waits and whatever follows, and with whatever verdicts on it.
pub record SoFar (first : Answer) (taken waiting : List ℕ) (verdicts : List Verdict) (number : ℕ) (so_far : Answer) : Type 0 where
  pub all : (more : List ℕ) (later : List Verdict)
      → answer_after first (verdicts ++ later) (taken ++ more) ≡ and_then so_far (answers Line number so_far.past later (items_of (waiting ++ more)))
  pub whole : (more : List ℕ) (later : List Verdict)
      → whole_answer_after first (verdicts ++ later) (taken ++ more)
      ≡ and_then so_far (answers Line number so_far.past later (whole_items (waiting ++ more)))
  pub tied : (more : List ℕ) (later : List Verdict) → AreTied (items_of (waiting ++ more)) later → AreTied (items_of (taken ++ more)) (verdicts ++ later)
  pub each : (more : List ℕ) → length (items_of (taken ++ more)) ≡ length verdicts + length (items_of (waiting ++ more))

-- The script has ended: the bytes that were taken are all of it, with these verdicts and this answer.
pub record HasEnded (first : Answer) (taken : List ℕ) (verdicts : List Verdict) (so_far : Answer) : Type 0 where
  pub all : (later : List Verdict) → answer_after first (verdicts ++ later) taken ≡ so_far
  pub tied : AreTied (items_of taken) verdicts
  pub each : length verdicts ≡ length (items_of taken)

-- How far the machine has come: with what waits and follows, or at the end of the script.
abbrev pub HasCome : Answer → Bool → List ℕ → List ℕ → List Verdict → ℕ → Answer → Type 0
HasCome first false taken waiting verdicts number so_far = SoFar first taken waiting verdicts number so_far
HasCome first true taken waiting verdicts number so_far = HasEnded first taken verdicts so_far

-- The bytes of the source that were read have taken the machine this far behind a first answer, under these verdicts, and what it printed is written or
-- gathered.
pub record Along {L C : Type 0} (first : Answer) (ended : Bool) (before now : Outside) (maker maker_now : Maker) (feed : ItemFeed)
    (run : Run L C) : Type 0 where
  pub taken : List ℕ
  pub verdicts : List Verdict
  pub so_far : Answer
  pub consumed : Consumes before.input.left now.input.left taken
  pub read : length taken ≡ feed.read
  pub large : maker_now.refused ≡ maker.refused ++ large_texts verdicts
  pub printed : Printed before.output.taken now.output.taken (gathered run) so_far.text
  pub stands : Stands (settled run.pending run.core) so_far.past
  pub refused : run.refused ≡ raised 0 so_far.refused
  pub machine : HasCome first ended taken feed.waiting verdicts run.number so_far

-- nothing of the script was read
abbrev pub unread : ItemFeed
unread = record { line = []; block = []; waiting = []; read = 0; ended = false }

-- However a run came so far, with the next item of the script it has come on.
abbrev pub ComesOn : {L C : Type 0} → Outside → Outside → Maker → Maker → ItemFeed → ItemFeed → Run L C → Run L C → Type 0
ComesOn now new maker maker_new feed feed_new run run_new = (first : Answer) (before : Outside) (maker_before : Maker)
    → Along first false before now maker_before maker feed run → Along first feed_new.ended before new maker_before maker_new feed_new run_new

-- However a run came so far, here it stops as a run of the whole script does.
abbrev pub StopsAlong : {L C : Type 0} → Stop → Outside → Outside → Maker → Maker → ItemFeed → Run L C → Type 0
StopsAlong stop now new maker maker_new feed run = (first : Answer) (before : Outside) (maker_before : Maker)
    → Along first false before now maker_before maker feed run → Replays first (Err stop) before new maker_before maker_new

-- an item was counted, and at least a byte of the script was taken for it
pub record CountsNext {L C : Type 0} (feed feed_new : ItemFeed) (run run_new : Run L C) : Type 0 where
  pub number : run_new.number ≡ run.number + 1
  pub spent : feed.read + length feed_new.waiting + 1 ≤ feed_new.read + length feed.waiting
