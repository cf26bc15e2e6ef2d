-- An expose more.
use Rattle.std.proofs.Common.{◌∙◌}
use Rattle.cfg_json.specs.Exposes.{expose_of}
use Rattle.cfg_json.proofs.ListsLemmas.{after_more}
use Rattle.cfg_json.proofs.exposes.read_list.Goals as goal

pub loop-item-preserved : goal.loop-item-preserved
loop-item-preserved c =
    after_more expose_of c.args.items.now c.loop-item.item-index c.item-item.result c.in_ok-read_expose.field-0 c.loop-item.exposes c.push.new.self
    c.loop-item-test.true c.item-item.is c.in_ok-read_expose.ensures c.in_ok-push.ensures.ok
    ∙ c.loop-item.invariant
