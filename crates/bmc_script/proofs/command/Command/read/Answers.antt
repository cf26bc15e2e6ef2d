use Rattle.std.proofs.Common.{◌≡◌, ◌≢◌, ◌<◌, ◌≤◌, ◌∙◌, sym, ap, ◌∷◌, ◌++◌, length, get_or, drop, arith}
use Rattle.std.specs.Prelude.{codes, Err}
use Rattle.std.proofs.lemmas.List.{take_rest}
use Rattle.bmc_script.specs.Commands.{command_of, plug_of, unplug_of, config_of, read_of, lose_of, ticks_of, show_of}
use Rattle.bmc_script.proofs.CommandsLemmas.{as_read, gives_line, five_bytes, seven_front}
use Rattle.bmc_script.proofs.CommandsLemmas.{read_line, plug_line, unplug_line, config_line, lose_line, tick_line, show_line}
use Rattle.bmc_script.proofs.CommandsLemmas.{BeginsWithNoVerb, words_line, other_line}
use Rattle.bmc_script.proofs.command.Command.read.Goals as goal

pub returns-in-114 : goal.returns-in-114
returns-in-114 c =
    let line = c.args.line.now in
    let long : 5 ≤ length line = grind arith in
    let starts : line ≡ codes "read" ++ 32 ∷ drop 5 line = grind (arith, five_bytes line long) in
    let read = ap command_of starts ∙ read_line (drop 5 line) ∙ ap read_of (sym (take_rest line 5)) in
    as_read c.read_read.result (command_of line) (read ∙ sym c.read_read.ensures)

pub returns-in-112 : goal.returns-in-112
returns-in-112 c =
    let line = c.args.line.now in
    let long : 5 ≤ length line = grind arith in
    let starts : line ≡ codes "plug" ++ 32 ∷ drop 5 line = grind (arith, five_bytes line long) in
    let read = ap command_of starts ∙ plug_line (drop 5 line) ∙ ap plug_of (sym (take_rest line 5)) in
    gives_line line c.read_plug.result _ read c.read_plug.ensures

pub returns-in-117 : goal.returns-in-117
returns-in-117 c =
    let line = c.args.line.now in
    let starts : line ≡ codes "unplug" ++ 32 ∷ drop 7 line = cc (seven_front line (omega arith)) in
    let read = ap command_of starts ∙ unplug_line (drop 7 line) ∙ ap unplug_of (sym (take_rest line 7)) in
    as_read c.read_unplug.result (command_of line) (read ∙ sym c.read_unplug.ensures)

pub returns-in-99 : goal.returns-in-99
returns-in-99 c =
    let line = c.args.line.now in
    let starts : line ≡ codes "config" ++ 32 ∷ drop 7 line = cc (seven_front line (omega arith)) in
    let read = ap command_of starts ∙ config_line (drop 7 line) ∙ ap config_of (sym (take_rest line 7)) in
    as_read c.read_config.result (command_of line) (read ∙ sym c.read_config.ensures)

pub returns-in-108 : goal.returns-in-108
returns-in-108 c =
    let line = c.args.line.now in
    let long : 5 ≤ length line = grind arith in
    let starts : line ≡ codes "lose" ++ 32 ∷ drop 5 line = grind (arith, five_bytes line long) in
    let read = ap command_of starts ∙ lose_line (drop 5 line) ∙ ap lose_of (sym (take_rest line 5)) in
    as_read c.read_lose.result (command_of line) (read ∙ sym c.read_lose.ensures)

pub returns-in-116 : goal.returns-in-116
returns-in-116 c =
    let line = c.args.line.now in
    let long : 5 ≤ length line = grind arith in
    let starts : line ≡ codes "tick" ++ 32 ∷ drop 5 line = grind (arith, five_bytes line long) in
    let read = ap command_of starts ∙ tick_line (drop 5 line) ∙ ap ticks_of (sym (take_rest line 5)) in
    as_read c.read_ticks.result (command_of line) (read ∙ sym c.read_ticks.ensures)

pub returns-in-115 : goal.returns-in-115
returns-in-115 c =
    let line = c.args.line.now in
    let long : 5 ≤ length line = grind arith in
    let starts : line ≡ codes "show" ++ 32 ∷ drop 5 line = grind (arith, five_bytes line long) in
    let read = ap command_of starts ∙ show_line (drop 5 line) ∙ ap show_of (sym (take_rest line 5)) in
    as_read c.read_show.result (command_of line) (read ∙ sym c.read_show.ensures)

pub returns-in_default : goal.returns-in_default
returns-in_default c =
    let line = c.args.line.now in
    let some : 0 < length line = grind arith in
    let other : get_or line 0 0 ≢ 35 = λ is. grind arith in
    let others : BeginsWithNoVerb line =
    λ rest. (
      (λ is. grind arith),
      (λ is. grind arith),
      (λ is. grind arith),
      (λ is. grind arith),
      (λ is. grind arith),
      (λ is. grind arith),
      (λ is. grind arith),
    ) in
    let read = words_line line some other ∙ other_line line others ∙ c.other_fault.ensures in
    as_read (Err c.other_fault.result) (command_of line) read
