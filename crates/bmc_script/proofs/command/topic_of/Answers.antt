use Rattle.std.proofs.Common.{◌≡◌, refl, arith}
use Rattle.std.specs.Prelude.{codes}
use Rattle.bmc_script.proofs.CommandsLemmas.{seven_bytes, nine_bytes}
use Rattle.bmc_script.proofs.command.topic_of.Goals as goal

pub returns-in-inventory : goal.returns-in-inventory
returns-in-inventory c = let word : c.args.word.now ≡ codes "inventory" = cc (nine_bytes c.args.word.now (omega arith)) in rw word refl

pub returns-in-sensors : goal.returns-in-sensors
returns-in-sensors c = let word : c.args.word.now ≡ codes "sensors" = cc (seven_bytes c.args.word.now (omega arith)) in rw word refl

pub returns-in-indexes : goal.returns-in-indexes
returns-in-indexes c = let word : c.args.word.now ≡ codes "indexes" = cc (seven_bytes c.args.word.now (omega arith)) in rw word refl
