use Rattle.std.proofs.Common.{◌∙◌, sym}
use Rattle.bmc_core.proofs.ActingLemmas.{none_of_boards}
use Rattle.bmc_core.proofs.acting.some_concern_zones.Goals as goal

pub returns-else-some_act : goal.returns-else-some_act
returns-else-some_act c is =
    none_of_boards c.args.boards.now c.args.changes.now (sym c.some_act.ensures ∙ c.if-some_act.false) (sym c.some_have_asking.ensures ∙ is)
