use Rattle.std.proofs.Common.{◌≡◌, ◌+◌, string_bytes}
use Rattle.bmc_gen.specs.Numbers.{number}
use Rattle.bmc_gen.proofs.SampleLemmas.{next_is, marks_more, text_more}
use Rattle.bmc_gen.proofs.sample.push_lines.Goals as goal

pub loop-i-preserved : goal.loop-i-preserved
loop-i-preserved c =
    let seed = c.args.seed in
    let i = c.loop-i.i in
    let was = c.loop-i.invariant in
    let next = c.next_number-x.result in
    let at : c.next_number-x.result ≡ number c.args.seed (c.loop-i.i + 1) = next_is seed i c.loop-i.x next was.nth c.next_number-x.ensures.value in
    let old = c.loop-i.occupied in
    let new = c.next_line.new.occupied in
    let line = c.next_line.result in
    let before = string_bytes c.args.out.now in
    let now = string_bytes c.loop-i.out in
    record {
      range = c.next_number-x.ensures.range;
      nth = at;
      marks = marks_more seed i next old new line at was.marks c.next_line.ensures;
      text = text_more seed i next old new line before now _ at was.marks c.next_line.ensures was.text c.in_ok-push_line.ensures;
    }
