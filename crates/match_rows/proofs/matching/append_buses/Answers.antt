-- A template more.
use Rattle.match_rows.proofs.BusesLemmas.{bus_within, template_more}
use Rattle.match_rows.proofs.matching.append_buses.Goals as goal

pub push_channel-requires : goal.push_channel-requires
push_channel-requires c = bus_within c.args.spot.now c.template-item.result c.render_number-bus.result c.render_number-bus.ensures

pub loop-template-preserved : goal.loop-template-preserved
loop-template-preserved c =
    template_more c.args.number c.args.spot.now c.args.templates.now c.loop-template.template-index c.template-item.result c.render_number-bus.result
    c.args.channels.now c.loop-template.channels c.push_channel.new.channels c.loop-template-test.true c.template-item.is c.render_number-bus.ensures
    c.loop-template.invariant c.in_ok-push_channel.ensures
