use Rattle.std.proofs.Common.{ap, arith, length, length-append}
use Rattle.fru_area.proofs.TextsLemmas.{six_bit_text_more, three_or_all, length-six_bit_chars}
use Rattle.fru_area.proofs.text.write_six_bit.Goals as goal

pub loop-rest-preserved : goal.loop-rest-preserved
loop-rest-preserved c =
    let parts = c.split_at.ensures in
    let group = c.group_bits.ensures in
    let grown = simp (length-append, length-six_bit_chars) at (ap length c.push_six_bit.ensures) in
    record {
      text = six_bit_text_more c.loop-rest.text _ c.loop-rest.rest.now _ _ _ _ parts.by_index.0
          (three_or_all _ _ (length c.loop-rest.rest.now) (omega (arith, parts.front_len, c.min.ensures)) (omega (arith, parts.front_len, parts.back_len)))
          group.exact group.limit c.push_six_bit.ensures
          c.loop-rest.invariant.text;
      short = omega (arith, grown, parts.front_len, parts.back_len, c.min.ensures);
    }
