use Rattle.std.proofs.Common.{◌≡◌, Bool, false, List, length, None, ap, rules, arith}
use Rattle.std.proofs.lemmas.List.{drop-replicate}
use Rattle.std.proofs.lemmas.Option.{none-some}
use Rattle.sensor_core.specs.Sensors.{Sensor}
use Rattle.sensor_core.proofs.AlarmsLemmas.{alarms_none}
use Rattle.sensor_core.proofs.sensor.Sensor.new.Goals as goal

pub returns : goal.returns
returns c =
    let setting = c.args.setting in
    let all : length setting.limits ≡ 8 = search rules in
    let of : List Bool → Sensor = λ on. record { setting = setting; value = None; read_at = None; lost = 0; alarms = on } in
    ap of (alarms_none 8 setting.count setting.limits all)

pub invariant_of-result : goal.invariant_of-result
invariant_of-result c = (c.requires, omega arith, (λ x is. absurd (none-some x is)), drop-replicate c.args.setting.count 8 false)
