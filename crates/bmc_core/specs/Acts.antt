-- What an act leaves.
use Rattle.std.specs.Prelude.{◌≡◌, ⊤, Bool, true, false, List, [], ◌∷◌, ◌++◌, Option, Some, None, Result, Ok, Err}
use Rattle.bmc_base.specs.Steps.{Counts, IsWithin}
use Rattle.bmc_base.specs.declared.out_of_memory.OutOfMemory.{OutOfMemory as NoMemory}
use Rattle.bmc_report.specs.declared.refusal.Refusal.{Refusal}
use Rattle.bmc_machine.specs.Histories.{Step, Start, Configure, Plug, RefusedPlug, Unplug, Read, Lose, Tick}
use Rattle.bmc_machine.specs.Refusals.{refusal_after}
use Rattle.bmc_machine.specs.Changes.{changes}
use Rattle.bmc_machine.specs.Answers.{past_refused}
use Rattle.bmc_watch.specs.Counting.{most_evals, TestsPlug}
use Rattle.bmc_core.specs.declared.act.Act.{Act}
use Rattle.bmc_core.specs.declared.act.Act.TheVariants as acts
use Rattle.bmc_core.specs.declared.fault.CoreFault.{CoreFault}
use Rattle.bmc_core.specs.declared.fault.CoreFault.TheVariants.{Refused, OutOfMemory}
use Rattle.bmc_core.specs.Senses.{SensesView, SensesStand, quiet_senses, AreUnchanged}
use Rattle.bmc_core.specs.States.{StateView, StateStands, quiet, IsUnchanged}
use Rattle.bmc_core.specs.Logging.{log_refused}
use Rattle.bmc_core.specs.Cores.{CoreView, Stands}

-- the step that an act is
abbrev pub step_of : {L : Type 0} → Act L → Step
step_of (acts.Config config) = Configure config
step_of (acts.Plug place bytes) = Plug place bytes.now
step_of (acts.Unplug place) = Unplug place
step_of (acts.Good name raw) = Read name.now raw
step_of (acts.Lost name) = Lose name.now
step_of acts.Tick = Tick

-- what came of a step that was tried: it was accepted, or refused for a reason
abbrev pub answer_of : Result (Option Refusal) NoMemory → Result ⊤ CoreFault
answer_of (Ok None) = Ok tt
answer_of (Ok (Some refusal)) = Err (Refused refusal)
answer_of (Err fault) = Err OutOfMemory

-- whether a step takes memory: a reading, a loss and a tick take none
abbrev pub TakesMemory : Step → Type 0
TakesMemory (Start options) = ⊥
TakesMemory (Configure config) = ⊤
TakesMemory (Plug place bytes) = ⊤
TakesMemory (RefusedPlug place bytes refusal) = ⊥
TakesMemory (Unplug place) = ⊤
TakesMemory (Read name raw) = ⊥
TakesMemory (Lose name) = ⊥
TakesMemory Tick = ⊥

-- what is left of a step that is not done, whatever happened before: a refusal leaves all but the last changes, and want of memory all
abbrev pub AreLeft : Result ⊤ CoreFault → SensesView → Step → SensesView → Type 0
AreLeft (Ok done) old step new = ⊤
AreLeft (Err (Refused refusal)) old step new = new ≡ quiet_senses old
AreLeft (Err OutOfMemory) old step new = TakesMemory step × AreUnchanged old new

-- what the senses stand for after a step, where they stood for this history before: the step is accepted and told, or refused for its reason
abbrev pub SensesStandAfter : Result ⊤ CoreFault → SensesView → List Step → Step → Type 0
SensesStandAfter (Ok done) new past step = (refusal_after past step ≡ None) × SensesStand new (step ∷ past) × (new.watch.changes ≡ changes past step)
SensesStandAfter (Err (Refused refusal)) new past step = (refusal_after past step ≡ Some refusal) × SensesStand new (past_refused past step refusal)
SensesStandAfter (Err OutOfMemory) new past step = SensesStand new past

-- the senses note a step, or not: for each history that they stood for
pub record Notes (old : SensesView) (step : Step) (result : Result ⊤ CoreFault) (new : SensesView) : Type 0 where
  pub stand : (past : List Step) → SensesStand old past → SensesStandAfter result new past step
  pub left : AreLeft result old step new

-- what the state stands for after a step, where it stood for this history before: the step is accepted and told, or refused for its reason
abbrev pub StateStandsAfter : Result ⊤ CoreFault → StateView → List Step → Step → Type 0
StateStandsAfter (Ok done) new past step =
    (refusal_after past step ≡ None) × StateStands new (step ∷ past) × (new.senses.watch.changes ≡ changes past step)
StateStandsAfter (Err (Refused refusal)) new past step = (refusal_after past step ≡ Some refusal) × StateStands new (past_refused past step refusal)
StateStandsAfter (Err OutOfMemory) new past step = StateStands new past

-- what of the state a step leaves that is not done, whatever happened before: a refusal leaves all but the last changes, and want of memory all
abbrev pub IsStateLeft : Result ⊤ CoreFault → StateView → Step → StateView → Type 0
IsStateLeft (Ok done) old step new = ⊤
IsStateLeft (Err (Refused refusal)) old step new = new ≡ quiet old
IsStateLeft (Err OutOfMemory) old step new = TakesMemory step × IsUnchanged old new

-- an act is done to the state, or not: for each history that the state stood for
pub record StateApplies (old : StateView) (step : Step) (result : Result ⊤ CoreFault) (new : StateView) : Type 0 where
  pub stands : (past : List Step) → StateStands old past → StateStandsAfter result new past step
  pub left : IsStateLeft result old step new

-- what the core stands for after a step, where it stood for this history before: the step is accepted and told, or refused for its reason
abbrev pub StandsAfter : Result ⊤ CoreFault → CoreView → List Step → Step → Type 0
StandsAfter (Ok done) new past step =
    (refusal_after past step ≡ None) × Stands new (step ∷ past) × (new.state.senses.watch.changes ≡ changes past step)
StandsAfter (Err (Refused refusal)) new past step = (refusal_after past step ≡ Some refusal) × Stands new (past_refused past step refusal)
StandsAfter (Err OutOfMemory) new past step = Stands new past

-- What a step leaves that is not done, whatever happened before: a refusal leaves the state but for the last changes, and the log but for the one
-- entry that a refused plug adds; and want of memory leaves all.
abbrev pub IsLeft : Result ⊤ CoreFault → CoreView → Step → CoreView → Type 0
IsLeft (Ok done) old step new = ⊤
IsLeft (Err (Refused refusal)) old step new =
    (new.state ≡ quiet old.state) × (new.log ≡ log_refused step refusal old.state.senses.ticks old.log)
IsLeft (Err OutOfMemory) old step new = TakesMemory step × IsUnchanged old.state new.state × (new.log ≡ old.log)

-- an act is done, or not: for each history that the core stood for
pub record Applies (old : CoreView) (step : Step) (result : Result ⊤ CoreFault) (new : CoreView) : Type 0 where
  pub stands : (past : List Step) → Stands old past → StandsAfter result new past step
  pub left : IsLeft result old step new

-- whether memory was wanting
abbrev pub is_short : Result ⊤ CoreFault → Bool
is_short (Ok done) = false
is_short (Err (Refused refusal)) = false
is_short (Err OutOfMemory) = true

-- The work of a step: a plug that is tested counts a match for each pattern, and nothing else counts any. Where a FRU comes or goes, or a
-- configuration comes, at most twice as many evaluations are counted as there are configurations.
abbrev pub IsCounted : Result ⊤ CoreFault → SensesView → Step → Counts → Counts → Type 0
IsCounted result old (Start options) before after = after ≡ before
IsCounted result old (Configure config) before after = IsWithin before after (most_evals (old.watch.configs ++ config ∷ []))
IsCounted result old (Plug place bytes) before after = TestsPlug (is_short result) old.watch place bytes before after
IsCounted result old (RefusedPlug place bytes refusal) before after = after ≡ before
IsCounted result old (Unplug place) before after = IsWithin before after (most_evals old.watch.configs)
IsCounted result old (Read name raw) before after = after ≡ before
IsCounted result old (Lose name) before after = after ≡ before
IsCounted result old Tick before after = after ≡ before
