use Rattle.std.proofs.Common.{◌∙◌, ◌<◌, ◌≤◌, length, true≢false, sym, arith}
use Rattle.sensor_core.proofs.AlarmsLemmas.{mixed_next, mixed_all, mixed_behind, put_same, same_before, put_as_before}
use Rattle.sensor_core.proofs.sensor.update_alarms.Goals as goal
use Rattle.sensor_core.proofs.sensor.update_alarms.Goals.{then-is_on-was_on, else-is_on-was_on}

pub loop-n-preserved : goal.loop-n-preserved
loop-n-preserved c =
    let fits : c.loop-n.n < length c.args.alarms.now = omega (arith, c.told-alarms) in (
      mixed_next c.args.limits.now c.args.alarms.now c.loop-n.alarms c.args.value c.loop-n.n _ _ c.is_on_after-is_on.result c.loop-n-test.true fits
          c.loop-n.invariant.0 c.is_on_after-is_on.ensures,
      (
        (λ still. elim c.if-is_on-was_on.branch [
          | then-is_on-was_on w ↦ absurd (true≢false (sym w.switched-is ∙ still))
          | else-is_on-was_on w ↦
              put_same c.loop-n.alarms c.loop-n.n _ _ w.if-is_on-was_on.false ∙ c.loop-n.invariant.1.0 (sym w.switched-is ∙ still)
        ]),
        (λ same.
            let few : c.loop-n.n ≤ length c.args.limits.now = omega (arith, c.loop-n-test.true) in
            let was = same_before c.args.limits.now c.args.alarms.now c.loop-n.alarms c.args.value c.loop-n.n _ few c.loop-n.invariant.0 same in
            elim c.if-is_on-was_on.branch [
              | then-is_on-was_on w ↦
                  absurd (true≢false (sym w.if-is_on-was_on.true ∙ put_as_before c.args.alarms.now c.loop-n.alarms c.loop-n.n _ _ fits was same))
              | else-is_on-was_on w ↦ w.switched-is ∙ c.loop-n.invariant.1.1 was
            ]),
      ),
    )

pub returns-clause-in_use : goal.returns-clause-in_use
returns-clause-in_use c =
    mixed_all c.args.limits.now c.args.alarms.now c.loop-n.alarms c.args.value c.loop-n.n (omega arith) c.loop-n.invariant.0

pub returns-clause-behind : goal.returns-clause-behind
returns-clause-behind c =
    mixed_behind c.args.limits.now c.args.alarms.now c.loop-n.alarms c.args.value c.loop-n.n (omega arith) c.loop-n.invariant.0
