use Rattle.std.proofs.Common.{◌≡◌, ◌++◌, drop, string_bytes}
use Rattle.std.specs.List.{flat_map, enumerate_from}
use Rattle.bmc_report.specs.SensorRows.{alarm_text}
use Rattle.bmc_report.proofs.sensor_row.push_positions.Given as goal

abbrev pub invariant-loop-position : goal.invariant-loop-position
invariant-loop-position l =
    string_bytes l.out ++ flat_map alarm_text (enumerate_from l.position (drop l.position l.alarms))
    ≡ string_bytes l.fn.out ++ flat_map alarm_text (enumerate_from 0 l.alarms)
