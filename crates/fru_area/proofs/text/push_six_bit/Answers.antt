use Rattle.std.proofs.Common.{◌∙◌, ap, arith, length, length-append}
use Rattle.fru_area.proofs.TextsLemmas.{six_bit_chars_more}
use Rattle.fru_area.proofs.text.push_six_bit.Goals as goal

pub loop-preserved : goal.loop-preserved
loop-preserved c = record {
  text = six_bit_chars_more _ _ _ c.args.count c.loop.counter c.loop.bits c.loop-test.true c.push_ascii.ensures c.loop.invariant.text;
  room = simp length-append at (ap length c.push_ascii.ensures) ∙ omega arith;
}
