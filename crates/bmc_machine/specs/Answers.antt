-- The machine: it takes the items of a script in turn, and what it prints follows from what is present then.
use Rattle.std.specs.Prelude.{ℕ, zero, suc, ◌+◌, List, [], ◌∷◌, ◌++◌, Option, Some, None, Result, Ok, Err}
use Rattle.std.specs.List.{flat_map}
use Rattle.bmc_text.specs.Items.{Item, Line, LineTooLong, Block, BlockTooLong, BlockShort, items_of, whole_items}
use Rattle.bmc_script.specs.Commands.{command_of}
use Rattle.bmc_script.specs.declared.command.Command.{Command}
use Rattle.bmc_script.specs.declared.command.Command.TheVariants as commands
use Rattle.bmc_script.specs.declared.command.ScriptFault.{ScriptFault}
use Rattle.bmc_report.specs.Refusals.{refused_line}
use Rattle.bmc_report.specs.declared.refusal.Origin.{Origin}
use Rattle.bmc_report.specs.declared.refusal.Origin.TheVariants.{File, Line as OfScript}
use Rattle.bmc_report.specs.declared.topic.Topic.{Topic}
use Rattle.bmc_report.specs.declared.topic.Topic.TheVariants.{Frus}
use Rattle.bmc_report.specs.Changes.{change_line}
use Rattle.bmc_report.specs.declared.refusal.Refusal.{Refusal}
use Rattle.bmc_report.specs.declared.refusal.Refusal.TheVariants as refusals
use Rattle.bmc_report.specs.declared.refusal.Refusal.TheVariants.{ConfigTooLong, ConfigShort, PatternSyntax, PatternTooLarge}
use Rattle.cfg_json.specs.Configs.{Config}
use Rattle.cfg_json.specs.Documents.{config_read}
use Rattle.cfg_json.specs.Verdicts.{Verdict, Accepted, BadPattern, LargePattern}
use Rattle.cfg_json.specs.declared.config_fault.ConfigFault.{ConfigFault}
use Rattle.bmc_machine.specs.Shows.{shown}
use Rattle.bmc_machine.specs.Histories.{Step, Start, Configure, Plug, RefusedPlug, Unplug, Read, Lose, Tick, Options, begun, tick_of}
use Rattle.bmc_machine.specs.Refusals.{command_refusal, config_refusal, refusal_after}
use Rattle.bmc_machine.specs.Changes.{changes}

-- what comes of items after a history: the history then, what is printed of them, and how many of them were refused
pub record Answer : Type 0 where
  pub past : List Step
  pub text : List ℕ
  pub refused : ℕ

-- one answer, and then that of what follows
abbrev pub and_then : Answer → Answer → Answer
and_then first later = record { past = later.past; text = first.text ++ later.text; refused = first.refused + later.refused }

-- nothing happens
abbrev pub silent : List Step → Answer
silent past = record { past = past; text = []; refused = 0 }

-- a list is printed, and nothing else happens
abbrev pub showing : List Step → Topic → Answer
showing past topic = record { past = past; text = shown topic past; refused = 0 }

-- a step is accepted: it joins the history, and its changes are printed
abbrev pub accepting : List Step → Step → Answer
accepting past step = record { past = step ∷ past; text = flat_map (change_line (tick_of (step ∷ past))) (changes past step); refused = 0 }

-- an item is refused, and the line of its refusal is printed
abbrev pub refusing : (Refusal → List ℕ) → List Step → Refusal → Answer
refusing line past refusal = record { past = past; text = line refusal; refused = 1 }

-- the history after a step that was refused: a plug joins it
abbrev pub past_refused : List Step → Step → Refusal → List Step
past_refused past (Plug place bytes) refusal = RefusedPlug place bytes refusal ∷ past
past_refused past (Start options) refusal = past
past_refused past (Configure config) refusal = past
past_refused past (RefusedPlug place bytes reason) refusal = past
past_refused past (Unplug place) refusal = past
past_refused past (Read name raw) refusal = past
past_refused past (Lose name) refusal = past
past_refused past Tick refusal = past

abbrev pub answer_by : Option Refusal → (Refusal → List ℕ) → List Step → Step → Answer
answer_by None line past step = accepting past step
answer_by (Some refusal) line past step = refusing line (past_refused past step refusal) refusal

-- what comes of a step
abbrev pub answer_step : (Refusal → List ℕ) → List Step → Step → Answer
answer_step line past step = answer_by (refusal_after past step) line past step

-- so many ticks pass, each of which is accepted
unfoldable pub answer_ticks : ℕ → List Step → Answer
answer_ticks zero past = silent past
answer_ticks (suc n) past = and_then (accepting past Tick) (answer_ticks n (Tick ∷ past))

abbrev pub answer_broken : Option Refusal → (Refusal → List ℕ) → List Step → Answer
answer_broken None line past = silent past
answer_broken (Some refusal) line past = refusing line past refusal

-- what comes of a line with this command. Items have no line that asks for a block alone, as its block is cut short then
abbrev pub answer_command : (Refusal → List ℕ) → List Step → Result Command ScriptFault → Answer
answer_command line past (Ok commands.Nothing) = silent past
answer_command line past (Ok (commands.Config size)) = refusing line past ConfigShort
answer_command line past (Ok (commands.Plug place bytes)) = answer_step line past (Plug place bytes)
answer_command line past (Ok (commands.Unplug place)) = answer_step line past (Unplug place)
answer_command line past (Ok (commands.Good name raw)) = answer_step line past (Read name raw)
answer_command line past (Ok (commands.Lost name)) = answer_step line past (Lose name)
answer_command line past (Ok (commands.Ticks n)) = answer_ticks n past
answer_command line past (Ok (commands.Show topic)) = showing past topic
answer_command line past (Err fault) = answer_broken (command_refusal fault) line past

-- what comes of a configuration that was read of its block, with this verdict on its patterns
abbrev pub answer_config : (Refusal → List ℕ) → List Step → Verdict → Result Config ConfigFault → Answer
answer_config line past Accepted (Ok config) = answer_step line past (Configure config)
answer_config line past (BadPattern text) (Ok config) = refusing line past PatternSyntax
answer_config line past (LargePattern text) (Ok config) = refusing line past PatternTooLarge
answer_config line past verdict (Err rule) = answer_broken (config_refusal rule) line past

-- what comes of an item, of which this is the line of a refusal; where it is a configuration, with this verdict on its patterns
abbrev pub answer : (Refusal → List ℕ) → List Step → Verdict → Item → Answer
answer line past verdict (Line bytes) = answer_command line past (command_of bytes)
answer line past verdict LineTooLong = refusing line past refusals.LineTooLong
answer line past verdict (Block bytes) = answer_config line past verdict (config_read bytes)
answer line past verdict BlockTooLong = refusing line past ConfigTooLong
answer line past verdict BlockShort = refusing line past ConfigShort

-- verdicts stand beside items, one each; where they end, the patterns of the rest are accepted
abbrev pub first_verdict : List Verdict → Verdict
first_verdict [] = Accepted
first_verdict (verdict ∷ verdicts) = verdict

abbrev pub later_verdicts : List Verdict → List Verdict
later_verdicts [] = []
later_verdicts (verdict ∷ verdicts) = verdicts

-- what comes of files or of items of a script, from this number and this history on, one after another
unfoldable pub answers : Origin → ℕ → List Step → List Verdict → List Item → Answer
answers origin number past verdicts [] = silent past
answers origin number past verdicts (item ∷ items) =
    let first = answer (refused_line origin number) past (first_verdict verdicts) item in
    and_then first (answers origin (number + 1) first.past (later_verdicts verdicts) items)

-- what comes of the files of a run that is started with these options; files are numbered from 1
abbrev pub answer_files : Options → List Verdict → List Item → Answer
answer_files options verdicts files = answers File 1 (begun options) verdicts files

-- what comes of a script behind that, and of the items that are whole in the bytes that were taken of one; items are numbered from 1
abbrev pub answer_after : Answer → List Verdict → List ℕ → Answer
answer_after first verdicts script = and_then first (answers OfScript 1 first.past verdicts (items_of script))

abbrev pub whole_answer_after : Answer → List Verdict → List ℕ → Answer
whole_answer_after first verdicts bytes = and_then first (answers OfScript 1 first.past verdicts (whole_items bytes))

-- all that is printed of an answer to a whole script: its text, and then the list of FRUs
abbrev pub with_list : Answer → List ℕ
with_list answer = answer.text ++ shown Frus answer.past

-- what is printed for a script behind that
abbrev pub out_after : Answer → List Verdict → List ℕ → List ℕ
out_after first verdicts script = with_list (answer_after first verdicts script)

-- what comes of a script alone, and what is printed for it
abbrev pub answer_of : List Verdict → List ℕ → Answer
answer_of verdicts script = answers OfScript 1 [] verdicts (items_of script)

abbrev pub out : List Verdict → List ℕ → List ℕ
out verdicts script = with_list (answer_of verdicts script)
