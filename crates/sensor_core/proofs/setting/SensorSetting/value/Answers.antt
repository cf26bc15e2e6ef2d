use Rattle.sensor_core.proofs.ValuesLemmas.{quotient_is, sum_fits, value_is}
use Rattle.sensor_core.proofs.setting.SensorSetting.value.Goals as goal

pub overflow_add-result : goal.overflow_add-result
overflow_add-result c =
    let setting = c.args.self.now in
    let scale = c.requires.setting.scale in
    let is = quotient_is c.args.raw setting.num setting.den _ c.requires.raw scale.factor scale.divides scale.divisor c.quotient.ensures in
    sum_fits c.quotient.result setting.offset.0 is.small scale.shift

pub returns : goal.returns
returns c =
    let setting = c.args.self.now in
    let scale = c.requires.setting.scale in
    let is = quotient_is c.args.raw setting.num setting.den _ c.requires.raw scale.factor scale.divides scale.divisor c.quotient.ensures in
    value_is c.args.raw setting.num setting.den c.quotient.result setting.offset.0 is scale.shift
