use Rattle.std.proofs.Common.{ℕ, min, refl, ap}
use Rattle.indexmap.specs.IndexMap.{spare}
use Rattle.live_sensors.proofs.SlotsLemmas.{changes}
use Rattle.live_sensors.proofs.sensors.LiveSensors.lost.Goals as goal

pub returns-clause-changes : goal.returns-clause-changes
returns-clause-changes c =
    changes _ _ _ _ _ c.self.view_is c.self.invariant refl (ap (λ (n : ℕ). min n (spare c.self.inside.slots)) c.lost_at.ensures.spare)
    c.lost_at.ensures.puts.changed c.lost_at.ensures.puts.others
