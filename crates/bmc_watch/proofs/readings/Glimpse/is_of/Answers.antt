use Rattle.std.proofs.Common.{rules, ◌∙◌}
use Rattle.std.specs.Cmp.{booleans_Decides}
use Rattle.std.proofs.lemmas.Slice.Eq.{slice_eq-Decides}
use Rattle.bmc_watch.proofs.readings.Glimpse.is_of.Goals as goal

pub returns-then-self-is_failed : goal.returns-then-self-is_failed
returns-then-self-is_failed c is = record {
  failed = search rules;
  alarms = (slice_eq-Decides booleans_Decides c.args.self.now.alarms c.all_alarms.result c.eq.result c.eq.ensures).0 is ∙ c.all_alarms.ensures;
}
