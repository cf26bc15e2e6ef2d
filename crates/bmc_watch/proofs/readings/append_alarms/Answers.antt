use Rattle.std.proofs.Common.{arith, ◌∙◌}
use Rattle.bmc_machine.specs.Changes.{alarm_change}
use Rattle.bmc_watch.proofs.ReadingsLemmas.{told_more}
use Rattle.bmc_watch.proofs.readings.append_alarms.Goals as goal

pub loop-position-preserved : goal.loop-position-preserved
loop-position-preserved c =
    let more = c.append_alarm.ensures.len in
    let same = c.append_alarm.ensures.capacity in
    let len = c.loop-position.invariant.len in
    record {
      items = λ sensor shows. told_more (alarm_change c.args.name.now sensor c.args.after.now) c.limits_in_use-limit-items.result.now
          c.loop-position.position _ c.args.changes.now.items c.loop-position.changes.items c.append_alarm.new.changes.items c.loop-position-test.true
          (c.loop-position.invariant.items sensor shows) (c.append_alarm.ensures.items sensor shows);
      len = omega (arith, more, len);
      capacity = same ∙ c.loop-position.invariant.capacity;
    }
