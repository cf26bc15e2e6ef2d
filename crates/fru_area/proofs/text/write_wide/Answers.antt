use Rattle.std.proofs.Common.{ℕ, List, ◌++◌, ◌≤◌, encode_utf8, length, get_or, ap, sym, ◌∙◌, arith}
use Rattle.fru_area.proofs.TextsLemmas.{length-encode_utf8-latin, latin_text_more, length-latin_more}
use Rattle.fru_area.proofs.text.write_wide.Goals as goal

pub push-requires : goal.push-requires
push-requires c =
    let byte = get_or c.args.bytes.now c.loop-byte.byte-index 0 in
    let short : length (encode_utf8 byte) ≤ 2 = length-encode_utf8-latin byte (omega (arith, c.type_inv.bytes c.loop-byte.byte-index)) in
    omega (arith, short, ap (λ (b : ℕ). length (encode_utf8 b)) c.from.ensures)

pub loop-byte-preserved : goal.loop-byte-preserved
loop-byte-preserved c =
    let byte = get_or c.args.bytes.now c.loop-byte.byte-index 0 in
    let pushed = c.push.ensures ∙ ap (λ (b : ℕ). c.loop-byte.text ++ encode_utf8 b) c.from.ensures in record {
      text =
          pushed
          ∙ ap (λ (text : List ℕ). text ++ encode_utf8 byte) c.loop-byte.invariant.text
          ∙ sym (latin_text_more c.args.bytes.now c.loop-byte.byte-index c.loop-byte-test.true);
      short =
          length-latin_more c.loop-byte.text _ byte c.loop-byte.byte-index (omega (arith, c.type_inv.bytes c.loop-byte.byte-index)) pushed
          c.loop-byte.invariant.short;
    }
