use Rattle.std.proofs.lemmas.List.{take_rest}
use Rattle.bmc_text.proofs.NewlinesLemmas.{newline-behind, no_newline-behind}
use Rattle.bmc_text.proofs.buffer.newline_behind.Goals as goal

pub returns : goal.returns
returns c =
    newline-behind c.args.bytes.now _ c.args.from c.in_ok-behind.behind
    (take_rest c.args.bytes.now c.args.from) c.requires.within c.requires.none c.in_ok-behind.ensures

pub returns-in_err-behind : goal.returns-in_err-behind
returns-in_err-behind c =
    rw c.from_residual.ensures
    (no_newline-behind c.args.bytes.now _ c.args.from (take_rest c.args.bytes.now c.args.from) c.requires.within c.requires.none c.in_err-behind.ensures)
