-- Those of the shelf are valid, and so is the one more.
use Rattle.std.proofs.Common.{Some, None}
use Rattle.inventory.proofs.ValidLemmas.{plus_valid}
use Rattle.inventory.proofs.configs.config_count.Goals as goal

pub returns-in-Some-clause-valid : goal.returns-in-Some-clause-valid
returns-in-Some-clause-valid g c =
    rw c.in-Some.is (plus_valid c.args.shelf.now (Some c.in-Some.config.now) c.len-count.ensures.valid c.exposes-exposes.ensures.valid)

pub returns-in-None-clause-valid : goal.returns-in-None-clause-valid
returns-in-None-clause-valid g c = rw c.in-None.is (plus_valid c.args.shelf.now None c.len-count.ensures.valid tt)
