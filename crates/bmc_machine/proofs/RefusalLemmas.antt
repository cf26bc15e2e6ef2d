-- What is refused leaves the moment and the indexes.
use Rattle.std.proofs.Common.{◌≡◌, ℕ, zero, suc, List, ◌∷◌, Option, arith, Some, None, refl, ap}
use Rattle.std.specs.Prelude.{Result, Ok, Err}
use Rattle.bmc_base.specs.Places.{Place}
use Rattle.bmc_text.specs.Items.{Item, Line, LineTooLong, Block, BlockTooLong, BlockShort}
use Rattle.bmc_script.specs.Commands.{command_of}
use Rattle.bmc_script.specs.declared.command.Command.{Command}
use Rattle.bmc_script.specs.declared.command.Command.TheVariants as commands
use Rattle.bmc_script.specs.declared.command.ScriptFault.{ScriptFault}
use Rattle.bmc_report.specs.declared.refusal.Refusal.{Refusal}
use Rattle.cfg_json.specs.Configs.{Config}
use Rattle.cfg_json.specs.Documents.{config_read}
use Rattle.cfg_json.specs.Verdicts.{Verdict, Accepted, BadPattern, LargePattern}
use Rattle.cfg_json.specs.declared.config_fault.ConfigFault.{ConfigFault}
use Rattle.bmc_machine.specs.Histories.{Step, Start, Configure, Plug, RefusedPlug, Unplug, Read, Lose, Tick, standing}
use Rattle.bmc_machine.specs.Indexes.{kept}
use Rattle.bmc_machine.specs.Refusals.{command_refusal, config_refusal, refusal_after}
use Rattle.bmc_machine.specs.Answers.{past_refused, answer_by, answer_step, answer_command, answer_broken, answer_config, answer_ticks, answer}
use Rattle.bmc_machine.proofs.IndexLemmas.{kept_idle}

-- ---- a plug that is refused

pub standing_refused_plug : (past : List Step) (place : Place) (bytes : List ℕ) (refusal : Refusal)
    → standing (RefusedPlug place bytes refusal ∷ past) ≡ standing past
unfolding standing
standing_refused_plug past place bytes refusal = refl

pub kept_refused_plug : (past : List Step) (place : Place) (bytes : List ℕ) (refusal : Refusal) (number : ℕ)
    → kept (RefusedPlug place bytes refusal ∷ past) number ≡ kept past number
kept_refused_plug past place bytes refusal number = kept_idle (RefusedPlug place bytes refusal) past number (standing_refused_plug past place bytes refusal)

-- the history after a step that is refused
pub past_of_refused : (line : Refusal → List ℕ) (past : List Step) (step : Step) (refusal : Refusal) → refusal_after past step ≡ Some refusal
    → (answer_step line past step).past ≡ past_refused past step refusal
past_of_refused line past step refusal refused = ap (λ (why : Option Refusal). (answer_by why line past step).past) refused

-- ---- an item that is refused

-- a history after which the moment and the indexes are as after another
pub record IsAlike (past other : List Step) : Type 0 where
  pub standing : standing other ≡ standing past
  pub kept : (number : ℕ) → kept other number ≡ kept past number

-- no tick is refused
ticks_accepted : (n : ℕ) (past : List Step) → (answer_ticks n past).refused ≡ 0
unfolding answer_ticks
ticks_accepted zero past = refl
ticks_accepted (suc n) past = let later = ticks_accepted n (Tick ∷ past) in omega (arith, later)

module _ (line : Refusal → List ℕ) (past : List Step) where
  the_same : IsAlike past past
  the_same = record { standing = refl; kept = λ number. refl }

  step_refused : (step : Step) (refusal : Refusal) → IsAlike past (past_refused past step refusal)
  step_refused (Start options) refusal = the_same
  step_refused (Configure config) refusal = the_same
  step_refused (Plug place bytes) refusal =
      record { standing = standing_refused_plug past place bytes refusal; kept = kept_refused_plug past place bytes refusal }
  step_refused (RefusedPlug place bytes reason) refusal = the_same
  step_refused (Unplug place) refusal = the_same
  step_refused (Read name raw) refusal = the_same
  step_refused (Lose name) refusal = the_same
  step_refused Tick refusal = the_same

  step_is_idle : (step : Step) → (answer_step line past step).refused ≡ 1 → IsAlike past (answer_step line past step).past
  step_is_idle step = by (refusal_after past step)
    where
      by : (refusal : Option Refusal) → (answer_by refusal line past step).refused ≡ 1 → IsAlike past (answer_by refusal line past step).past
      by None refused = absurd (omega (arith, refused))
      by (Some refusal) refused = step_refused step refusal

  broken_is_idle : (refusal : Option Refusal) → IsAlike past (answer_broken refusal line past).past
  broken_is_idle None = the_same
  broken_is_idle (Some refusal) = the_same

  command_is_idle : (command : Result Command ScriptFault) → (answer_command line past command).refused ≡ 1
      → IsAlike past (answer_command line past command).past
  command_is_idle (Ok commands.Nothing) refused = the_same
  command_is_idle (Ok (commands.Config size)) refused = the_same
  command_is_idle (Ok (commands.Plug place bytes)) refused = step_is_idle (Plug place bytes) refused
  command_is_idle (Ok (commands.Unplug place)) refused = step_is_idle (Unplug place) refused
  command_is_idle (Ok (commands.Good name raw)) refused = step_is_idle (Read name raw) refused
  command_is_idle (Ok (commands.Lost name)) refused = step_is_idle (Lose name) refused
  command_is_idle (Ok (commands.Ticks n)) refused = absurd (omega (arith, refused, ticks_accepted n past))
  command_is_idle (Ok (commands.Show topic)) refused = the_same
  command_is_idle (Err fault) refused = broken_is_idle (command_refusal fault)

  config_is_idle : (verdict : Verdict) (config : Result Config ConfigFault) → (answer_config line past verdict config).refused ≡ 1
      → IsAlike past (answer_config line past verdict config).past
  config_is_idle Accepted (Ok config) refused = step_is_idle (Configure config) refused
  config_is_idle (BadPattern text) (Ok config) refused = the_same
  config_is_idle (LargePattern text) (Ok config) refused = the_same
  config_is_idle verdict (Err rule) refused = broken_is_idle (config_refusal rule)

  pub item_is_idle : (verdict : Verdict) (item : Item) → (answer line past verdict item).refused ≡ 1
      → IsAlike past (answer line past verdict item).past
  item_is_idle verdict (Line bytes) refused = command_is_idle (command_of bytes) refused
  item_is_idle verdict LineTooLong refused = the_same
  item_is_idle verdict (Block bytes) refused = config_is_idle verdict (config_read bytes) refused
  item_is_idle verdict BlockTooLong refused = the_same
  item_is_idle verdict BlockShort refused = the_same
