use Rattle.std.proofs.Common.{ℤ, w64, ap, ◌∙◌}
use Rattle.std.proofs.lemmas.Int.{to_z-of_z}
use Rattle.sensor_core.specs.Updates.{good_after}
use Rattle.sensor_core.proofs.SensorsLemmas.{good_takes}
use Rattle.sensor_core.proofs.sensor.Sensor.good.Goals as goal

pub returns-clause-takes : goal.returns-clause-takes
returns-clause-takes c setting outcomes e =
    c.take_reading.ensures.after
    ∙ ap (λ (raw : ℤ). good_after c.args.self.now raw c.args.tick) (to_z-of_z w64 c.args.raw c.ranges.raw)
    ∙ good_takes c.args.self.now c.args.raw c.args.tick c.take_reading.ensures.valid setting outcomes e
