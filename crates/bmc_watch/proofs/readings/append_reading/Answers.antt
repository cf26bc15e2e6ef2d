-- The failure is told first, and then the alarms.
use Rattle.std.proofs.Common.{◌∙◌, ◌++◌, List, ap, append_assoc}
use Rattle.std.specs.List.{flat_map, enumerate_from}
use Rattle.sensor_core.specs.Settings.{limits_of}
use Rattle.bmc_report.specs.declared.change.Change.{Change}
use Rattle.bmc_machine.specs.Changes.{failure_change, alarm_change, sensor_changes}
use Rattle.bmc_watch.proofs.readings.append_reading.Goals as goal

pub returns-clause-items : goal.returns-clause-items
unfolding sensor_changes
returns-clause-items c =
    λ sensor shows.
    let alarms = flat_map (alarm_change c.args.name.now sensor c.args.after.now) (enumerate_from 0 (limits_of c.args.after.now.setting)) in
    c.append_alarms.ensures.items sensor shows
    ∙ ap (λ (first : List Change). first ++ alarms) (c.append_failure.ensures.items
    ∙ (λ i. c.args.changes.now.items ++ failure_change c.args.name.now (shows.failed i) (c.is_failed.ensures i)))
    ∙ append_assoc c.args.changes.now.items _ alarms
