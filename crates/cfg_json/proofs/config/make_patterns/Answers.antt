-- A pattern more, or the fault of one.
use Rattle.std.proofs.Common.{◌∙◌}
use Rattle.cfg_json.proofs.ReadingsLemmas.{one_made, one_read, one_refused}
use Rattle.cfg_json.proofs.config.make_patterns.Goals as goal

pub returns-in_err-make : goal.returns-in_err-make
returns-in_err-make g c =
    one_refused _ _ _ c.args.texts.now c.loop-text.text-index c.text-item.result c.in_err-make.field-0.0 c.from_residual-in_err-make.result
    c.loop-text.invariant.same c.loop-text-test.true c.text-item.is c.in_err-make.ensures c.from_residual-in_err-make.ensures.1

pub loop-text-preserved : goal.loop-text-preserved
loop-text-preserved g c = record {
  made = one_made c.args.texts.now c.loop-text.text-index c.text-item.result _ _ c.loop-text-test.true c.text-item.is
      c.loop-text.invariant.made c.in_ok-push.ensures.items c.in_ok-make.ensures.0;
  read = one_read c.args.texts.now c.loop-text.text-index c.text-item.result c.loop-text-test.true c.text-item.is
      c.loop-text.invariant.read c.in_ok-make.ensures.1;
  same = c.in_ok-make.ensures.2 ∙ c.loop-text.invariant.same;
}
