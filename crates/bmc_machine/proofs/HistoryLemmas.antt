-- Items add legal steps alone to a history.
use Rattle.std.proofs.Common.{◌≡◌, ℕ, zero, suc, ◌+◌, ℤ, List, [], ◌∷◌, Option, Some, None, refl}
use Rattle.std.specs.Prelude.{Result, Ok, Err}
use Rattle.bmc_base.specs.Places.{Place}
use Rattle.bmc_text.specs.Items.{Item, Line, LineTooLong, Block, BlockTooLong, BlockShort}
use Rattle.bmc_script.specs.Commands.{command_of}
use Rattle.bmc_script.specs.declared.command.Command.{Command}
use Rattle.bmc_script.specs.declared.command.Command.TheVariants as commands
use Rattle.bmc_script.specs.declared.command.ScriptFault.{ScriptFault}
use Rattle.bmc_report.specs.Refusals.{refused_line}
use Rattle.bmc_report.specs.declared.refusal.Origin.{Origin}
use Rattle.bmc_report.specs.declared.refusal.Refusal.{Refusal}
use Rattle.cfg_json.specs.Configs.{Config}
use Rattle.cfg_json.specs.Documents.{config_read}
use Rattle.cfg_json.specs.Verdicts.{Verdict, Accepted, BadPattern, LargePattern}
use Rattle.cfg_json.specs.declared.config_fault.ConfigFault.{ConfigFault}
use Rattle.bmc_machine.specs.Histories.{Options, Step, Configure, Plug, Unplug, Read, Lose, Tick, begun}
use Rattle.bmc_machine.specs.Refusals.{command_refusal, config_refusal, refusal_after, IsLegalStep, IsLegal}
use Rattle.bmc_machine.specs.Answers.{past_refused, answer_by, answer_step, answer_command, answer_broken, answer_config, answer_ticks, answer}
use Rattle.bmc_machine.specs.Answers.{first_verdict, later_verdicts, answers}

-- ticks may follow any history
ticks_are_legal : (n : ℕ) (past : List Step) → IsLegal past → IsLegal (answer_ticks n past).past
unfolding answer_ticks IsLegal
ticks_are_legal zero past legal = legal
ticks_are_legal (suc n) past legal = ticks_are_legal n (Tick ∷ past) (legal, tt)

module _ (line : Refusal → List ℕ) (past : List Step) (legal : IsLegal past) where
  -- what comes of a step, where it may follow once it is not refused, and what is left once it is
  step_is_legal : (step : Step) → (refusal_after past step ≡ None → IsLegalStep past step)
      → ((refusal : Refusal) → refusal_after past step ≡ Some refusal → IsLegal (past_refused past step refusal))
      → IsLegal (answer_step line past step).past
  unfolding IsLegal
  step_is_legal step may_follow is_left = by (refusal_after past step) refl
    where
      by : (refusal : Option Refusal) → refusal_after past step ≡ refusal → IsLegal (answer_by refusal line past step).past
      by None accepted = (legal, may_follow accepted)
      by (Some refusal) refused = is_left refusal refused

  configure_is_legal : (config : Config) → IsLegal (answer_step line past (Configure config)).past
  configure_is_legal config = step_is_legal (Configure config) (λ accepted. accepted) (λ refusal refused. legal)

  -- a plug joins in any case, with the reason where it is refused
  plug_is_legal : (place : Place) (bytes : List ℕ) → IsLegal (answer_step line past (Plug place bytes)).past
  unfolding IsLegal
  plug_is_legal place bytes = step_is_legal (Plug place bytes) (λ accepted. accepted) (λ refusal refused. (legal, refused))

  unplug_is_legal : (place : Place) → IsLegal (answer_step line past (Unplug place)).past
  unplug_is_legal place = step_is_legal (Unplug place) (λ accepted. accepted) (λ refusal refused. legal)

  read_is_legal : (name : List ℕ) (raw : ℤ) → IsLegal (answer_step line past (Read name raw)).past
  read_is_legal name raw = step_is_legal (Read name raw) (λ accepted. accepted) (λ refusal refused. legal)

  lose_is_legal : (name : List ℕ) → IsLegal (answer_step line past (Lose name)).past
  lose_is_legal name = step_is_legal (Lose name) (λ accepted. accepted) (λ refusal refused. legal)

  broken_is_legal : (refusal : Option Refusal) → IsLegal (answer_broken refusal line past).past
  broken_is_legal None = legal
  broken_is_legal (Some refusal) = legal

  command_is_legal : (command : Result Command ScriptFault) → IsLegal (answer_command line past command).past
  command_is_legal (Ok commands.Nothing) = legal
  command_is_legal (Ok (commands.Config size)) = legal
  command_is_legal (Ok (commands.Plug place bytes)) = plug_is_legal place bytes
  command_is_legal (Ok (commands.Unplug place)) = unplug_is_legal place
  command_is_legal (Ok (commands.Good name raw)) = read_is_legal name raw
  command_is_legal (Ok (commands.Lost name)) = lose_is_legal name
  command_is_legal (Ok (commands.Ticks n)) = ticks_are_legal n past legal
  command_is_legal (Ok (commands.Show topic)) = legal
  command_is_legal (Err fault) = broken_is_legal (command_refusal fault)

  config_is_legal : (verdict : Verdict) (config : Result Config ConfigFault) → IsLegal (answer_config line past verdict config).past
  config_is_legal Accepted (Ok config) = configure_is_legal config
  config_is_legal (BadPattern text) (Ok config) = legal
  config_is_legal (LargePattern text) (Ok config) = legal
  config_is_legal verdict (Err rule) = broken_is_legal (config_refusal rule)

  item_is_legal : (verdict : Verdict) (item : Item) → IsLegal (answer line past verdict item).past
  item_is_legal verdict (Line bytes) = command_is_legal (command_of bytes)
  item_is_legal verdict LineTooLong = legal
  item_is_legal verdict (Block bytes) = config_is_legal verdict (config_read bytes)
  item_is_legal verdict BlockTooLong = legal
  item_is_legal verdict BlockShort = legal

-- what items leave of a legal history is legal
pub items_are_legal : (origin : Origin) (number : ℕ) (past : List Step) (verdicts : List Verdict) (items : List Item) → IsLegal past
    → IsLegal (answers origin number past verdicts items).past
unfolding answers
items_are_legal origin number past verdicts [] legal = legal
items_are_legal origin number past verdicts (item ∷ items) legal =
    items_are_legal origin (number + 1) _ (later_verdicts verdicts) items (item_is_legal (refused_line origin number) past legal (first_verdict verdicts) item)

pub nothing_is_legal : IsLegal []
unfolding IsLegal
nothing_is_legal = tt

pub start_is_legal : (options : Options) → IsLegal (begun options)
unfolding IsLegal
start_is_legal options = (tt, tt)
