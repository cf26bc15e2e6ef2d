-- An expose more.
use Rattle.match_rows.proofs.BusesLemmas.{expose_more}
use Rattle.match_rows.proofs.matching.append_channels.Goals as goal

pub loop-expose-preserved : goal.loop-expose-preserved
loop-expose-preserved g c =
    expose_more c.args.number c.args.spot.now c.exposes-expose-items.result.now c.loop-expose.expose-index c.expose-item.result
    c.args.channels.now c.loop-expose.channels c.append_moving.new.channels c.loop-expose-test.true c.expose-item.is
    c.loop-expose.invariant c.in_ok-append_moving.ensures
