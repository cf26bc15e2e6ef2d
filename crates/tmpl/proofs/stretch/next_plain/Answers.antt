-- Plain text up to the next dollar.
use Rattle.std.proofs.Common.{◌≡◌, ◌<◌, ◌+◌, length, drop, arith}
use Rattle.std.specs.List.{position_or_len}
use Rattle.tmpl.specs.Templates.{is_dollar}
use Rattle.tmpl.proofs.PiecesLemmas.{plain_cut, plain_stretch}
use Rattle.tmpl.proofs.stretch.next_plain.Goals as goal

pub split_at-requires : goal.split_at-requires
split_at-requires c =
    plain_cut c.args.text.now c.plain_len.result (rw c.as_bytes.ensures.value at c.plain_len.ensures.exact)
    (rw c.as_bytes.ensures.value at c.plain_len.ensures.within)

pub returns : goal.returns
returns c =
    let n : c.plain_len.result ≡ 1 + position_or_len is_dollar (drop 1 c.args.text.now) = rw c.as_bytes.ensures.value at c.plain_len.ensures.exact in
    let some : 0 < length c.args.text.now = grind (arith, c.if-is_empty.ensures) in
    plain_stretch c.args.text.now c.split_at.result.0.now c.split_at.result.1.now c.plain_len.result some c.requires n
    c.split_at.ensures.front c.split_at.ensures.back (omega (arith, c.split_at.ensures.back_len, n))
    (rw c.as_bytes.ensures.value at c.plain_len.ensures.within)
