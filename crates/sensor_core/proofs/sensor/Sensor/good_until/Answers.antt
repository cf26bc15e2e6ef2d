use Rattle.std.proofs.Common.{◌≡◌, ◌∙◌, ℕ, false, not, ap, sym, subst, option_map, Some}
use Rattle.std.proofs.lemmas.Option.{same_Some}
use Rattle.sensor_core.specs.Fresh.{fresh_until, IsLastGood}
use Rattle.sensor_core.specs.Sensors.{Sensor, is_bad}
use Rattle.sensor_core.specs.declared.sensor.Reading.{Reading}
use Rattle.sensor_core.proofs.FreshLemmas.{good_to}
use Rattle.sensor_core.proofs.sensor.Sensor.good_until.Goals as goal

pub returns-in-Some : goal.returns-in-Some
returns-in-Some c =
    let sensor = c.args.self.now in
    let reading = c.in-Some.reading in
    let good : is_bad sensor c.args.tick ≡ false = sym c.is_bad.ensures ∙ c.if-not-is_bad.true in
    let read : sensor.read_at ≡ Some reading.tick =
    sym (ap (λ (it : Sensor). it.read_at) c.self.view_is) ∙ ap (option_map (λ (reading : Reading). reading.tick)) c.in-Some.is in
    let fresh : fresh_until sensor.setting.timeout reading.tick ≡ reading.fresh_until =
    ap (λ (it : Sensor). fresh_until it.setting.timeout reading.tick) (sym c.self.view_is) ∙ sym (c.self.invariant.2 reading c.in-Some.is) in
    let last : IsLastGood (is_bad sensor) reading.fresh_until =
    subst (IsLastGood (is_bad sensor)) fresh (good_to sensor reading.tick c.args.tick read good) in
    record { some = sym (ap not good); last = λ until e. subst (IsLastGood (is_bad sensor)) (same_Some reading.fresh_until until e) last }
