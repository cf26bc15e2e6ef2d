-- The id is put in, or taken out.
use Rattle.std.proofs.Common.{Bool, sym, subst}
use Rattle.std.specs.Result.{OnOk}
use Rattle.inventory.specs.Bearers.{noted_by, Lists}
use Rattle.inventory.specs.Items.{id_eq}
use Rattle.inventory.proofs.tags.change_ids.Goals as goal

pub returns-then-comes : goal.returns-then-comes
returns-then-comes c test lists =
    subst (λ (comes : Bool). OnOk c.add.result (Lists c.add.new.self (λ each. noted_by comes (test each) (id_eq each c.args.id.now)))) (sym c.if-comes.true)
    (c.add.ensures test lists)

pub returns-else-comes : goal.returns-else-comes
returns-else-comes c test lists =
    subst (λ (comes : Bool). Lists c.remove.new.self (λ each. noted_by comes (test each) (id_eq each c.args.id.now))) (sym c.if-comes.false)
    (c.remove.ensures test lists)
