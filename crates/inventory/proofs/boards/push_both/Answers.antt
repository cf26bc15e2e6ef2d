use Rattle.inventory.proofs.DifferencesLemmas.{gone_none, new_none}
use Rattle.inventory.proofs.boards.push_both.Goals as goal

pub returns-then-eq-clause-gone : goal.returns-then-eq-clause-gone
returns-then-eq-clause-gone c = gone_none c.args.number c.args.before.now c.args.after.now c.args.gone.now c.if-eq.ensures

pub returns-then-eq-clause-new : goal.returns-then-eq-clause-new
returns-then-eq-clause-new c = new_none c.args.number c.args.before.now c.args.after.now c.args.new.now c.if-eq.ensures
