-- What a run does with an item.
use Rattle.std.specs.Prelude.{ℕ, ◌≡◌, ◌+◌, ◌++◌, ⊤, List, [], ◌∷◌, Option, Some, None, Result, Ok, Err, string_bytes}
use Rattle.bmc_base.specs.Counts.{raised}
use Rattle.bmc_io.specs.Told.{Told}
use Rattle.bmc_io.specs.declared.files.Whole.{Whole}
use Rattle.bmc_io.specs.declared.files.Whole.TheVariants.{Given, Longer}
use Rattle.bmc_text.specs.Items.{Item, Block, BlockTooLong}
use Rattle.pat_gate.specs.Makers.{Maker}
use Rattle.cfg_json.specs.Verdicts.{Verdict, large_in}
use Rattle.bmc_report.specs.Refusals.{refused_line}
use Rattle.bmc_report.specs.declared.refusal.Origin.{Origin}
use Rattle.bmc_report.specs.declared.refusal.Origin.TheVariants.{Line}
use Rattle.bmc_report.specs.declared.refusal.Refusal.{Refusal}
use Rattle.bmc_machine.specs.Histories.{Step}
use Rattle.bmc_machine.specs.Answers.{Answer, answer}
use Rattle.bmc_machine.specs.Ties.{IsTied, AreTied, large_texts}
use Rattle.bmc_core.specs.Cores.{CoreView, Stands}
use Rattle.bmc_core.specs.Lists.{core_list}
use Rattle.bmc_core.specs.declared.fault.CoreFault.{CoreFault}
use Rattle.bmc_core.specs.declared.fault.CoreFault.TheVariants as faults
use Rattle.bmc_run.specs.declared.run.Run.{Run}
use Rattle.bmc_run.specs.declared.run.Effect.{Effect}
use Rattle.bmc_run.specs.declared.run.Effect.TheVariants.{Nothing, Changed, Shown, Ticks, Refused}
use Rattle.bmc_run.specs.declared.run.Pending.{Pending}
use Rattle.bmc_run.specs.declared.run.Pending.TheVariants as pendings
use Rattle.bmc_run.specs.Gathering.{Printed}
use Rattle.bmc_run.specs.Ticks.{after_ticks, change_text, tick_text}

-- what is printed of an item, of which this is the line of a refusal: the changes of its step or of its ticks, a list, or why it is refused
abbrev pub effect_text : (Refusal → List ℕ) → Effect → CoreView → List ℕ
effect_text line Nothing core = []
effect_text line Changed core = change_text core
effect_text line (Shown topic) core = core_list topic core
effect_text line (Ticks count) core = tick_text count core
effect_text line (Refused refusal) core = line refusal

-- what is gathered of it at once
abbrev pub line_text : (Refusal → List ℕ) → Effect → CoreView → List ℕ
line_text line Nothing core = []
line_text line Changed core = change_text core
line_text line (Shown topic) core = []
line_text line (Ticks count) core = []
line_text line (Refused refusal) core = line refusal

-- what is still to be done of it then
abbrev pub leaves : Effect → Pending
leaves Nothing = pendings.Nothing
leaves Changed = pendings.Nothing
leaves (Shown topic) = pendings.List topic
leaves (Ticks count) = pendings.Ticks count
leaves (Refused refusal) = pendings.Nothing

-- the text that is still to come
abbrev pub asked : Pending → CoreView → List ℕ
asked pendings.Nothing core = []
asked (pendings.List topic) core = core_list topic core
asked (pendings.Ticks count) core = tick_text count core

-- the core once that is done
abbrev pub settled : Pending → CoreView → CoreView
settled pendings.Nothing core = core
settled (pendings.List topic) core = core
settled (pendings.Ticks count) core = after_ticks count core

-- what a run has to print and has not written: the text that is gathered, and the text that is still to come
abbrev pub gathered : {L C : Type 0} → Run L C → List ℕ
gathered run = string_bytes run.text ++ asked run.pending run.core

-- what came of an act
abbrev pub effect_of : Result ⊤ CoreFault → Option Effect
effect_of (Ok done) = Some Changed
effect_of (Err (faults.Refused refusal)) = Some (Refused refusal)
effect_of (Err faults.OutOfMemory) = None

-- how many items are refused by it
abbrev pub refusals : Effect → ℕ
refusals Nothing = 0
refusals Changed = 0
refusals (Shown topic) = 0
refusals (Ticks count) = 0
refusals (Refused refusal) = 1

-- how many are refused with it, where so many were before
abbrev pub refused_with : Effect → ℕ → ℕ
refused_with Nothing count = count
refused_with Changed count = count
refused_with (Shown topic) count = count
refused_with (Ticks n) count = count
refused_with (Refused refusal) count = raised count 1

-- what came of an item is this answer, once all of it is done
pub record IsAnswer (answer : Answer) (line : Refusal → List ℕ) (effect : Effect) (new : CoreView) : Type 0 where
  pub stands : Stands (settled (leaves effect) new) answer.past
  pub text : effect_text line effect new ≡ answer.text
  pub refused : refusals effect ≡ answer.refused

-- the same, for every history for which the core stood
abbrev pub Answers : ((Refusal → List ℕ) → List Step → Answer) → Effect → CoreView → CoreView → Type 0
Answers to effect old new = (line : Refusal → List ℕ) (past : List Step) → Stands old past → IsAnswer (to line past) line effect new

-- a verdict on an item, which the maker gave: it lists the text that it calls too large
pub record IsVerdict (item : Item) (verdict : Verdict) (old new : Maker) : Type 0 where
  pub tied : IsTied item verdict
  pub large : new.refused ≡ old.refused ++ large_in verdict

-- an item is answered, under this verdict
pub record AnswersItem (item : Item) (effect : Effect) (old new : CoreView) (maker maker_now : Maker) : Type 0 where
  pub verdict : Verdict
  pub is_verdict : IsVerdict item verdict maker maker_now
  pub answers : Answers (λ line past. answer line past verdict item) effect old new

-- a run answers what came: an item, or nothing at the end
abbrev pub AnswersNext : {L C : Type 0} → Option Item → Option Effect → Run L C → Run L C → Maker → Maker → Type 0
AnswersNext (Some item) (Some effect) old new maker maker_now =
    AnswersItem item effect old.core new.core maker maker_now × (new ≡ record old { core = new.core })
AnswersNext None None old new maker maker_now = (new ≡ old) × (maker_now ≡ maker)
AnswersNext (Some item) None old new maker maker_now = ⊥
AnswersNext None (Some effect) old new maker maker_now = ⊥

-- an item is not answered for want of memory: there is a verdict on it, or none yet
pub record LeavesItem (item : Item) (maker maker_now : Maker) : Type 0 where
  pub verdicts : List Verdict
  pub tied : AreTied (item ∷ []) verdicts
  pub large : maker_now.refused ≡ maker.refused ++ large_texts verdicts

-- an item is counted, and what is printed of it is gathered, or what is still to be done of it is noted
pub record CountsItem {L C : Type 0} (origin : Origin) (effect : Effect) (old new : Run L C) : Type 0 where
  pub core : new.core ≡ old.core
  pub text : string_bytes new.text ≡ string_bytes old.text ++ line_text (refused_line origin old.number) effect old.core
  pub pending : new.pending ≡ leaves effect
  pub number : new.number ≡ old.number + 1
  pub refused : new.refused ≡ refused_with effect old.refused

-- what a run gathers and remembers of an answer
pub record Follows {L C : Type 0} (answer : Answer) (old new : Run L C) : Type 0 where
  pub stands : Stands (settled new.pending new.core) answer.past
  pub text : gathered new ≡ string_bytes old.text ++ answer.text
  pub refused : (count : ℕ) → old.refused ≡ raised 0 count → new.refused ≡ raised 0 (count + answer.refused)

-- an item is taken under a verdict, and counted
pub record TakesItem {L C : Type 0} (origin : Origin) (item : Item) (old new : Run L C) (maker maker_now : Maker) : Type 0 where
  pub verdict : Verdict
  pub is_verdict : IsVerdict item verdict maker maker_now
  pub number : new.number ≡ old.number + 1
  pub follows : (past : List Step) → Stands old.core past → Follows (answer (refused_line origin old.number) past verdict item) old new

-- what came of a script is taken; at the end nothing is
abbrev pub TakesNext : {L C : Type 0} → Option Item → Run L C → Run L C → Maker → Maker → Type 0
TakesNext None old new maker maker_now = (new ≡ old) × (maker_now ≡ maker)
TakesNext (Some item) old new maker maker_now = TakesItem Line item old new maker maker_now

-- what came is not taken for want of memory
abbrev pub LeavesNext : Option Item → Maker → Maker → Type 0
LeavesNext None maker maker_now = maker_now ≡ maker
LeavesNext (Some item) maker maker_now = LeavesItem item maker maker_now

-- nothing is still to be done, and the next item is the first of its origin
pub record IsReady {L C : Type 0} (run : Run L C) : Type 0 where
  pub pending : run.pending ≡ pendings.Nothing
  pub number : run.number ≡ 1

-- The run has come to this answer, and its text was printed since the sink told the first of these.
pub record IsAfter {L C : Type 0} (answer : Answer) (old now : Told) (run : Run L C) : Type 0 where
  pub core : Stands run.core answer.past
  pub printed : Printed old now (string_bytes run.text) answer.text
  pub refused : run.refused ≡ raised 0 answer.refused

-- the item of a file
abbrev pub file_item : Whole → Item
file_item (Given bytes) = Block bytes
file_item Longer = BlockTooLong
