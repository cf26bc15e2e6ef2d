use Rattle.std.proofs.Common.{ℕ, List, drop, slice_range, ap, ◌∙◌}
use Rattle.bmc_text.specs.Feeds.{Feed}
use Rattle.bmc_text.proofs.FeedsLemmas.{span_drop}
use Rattle.bmc_text.proofs.lines.Lines.drop_front.Goals as goal

pub returns : goal.returns
returns c =
    let inside = c.self.inside in
    let line = slice_range inside.buffer.items inside.line_start inside.line_end in
    let seen : List ℕ → Feed = λ (waiting : List ℕ). record { line = line; waiting = waiting; read = inside.read; ended = inside.ended } in
    ap seen (span_drop inside.buffer.items inside.start inside.end c.args.count)
    ∙ ap (λ (feed : Feed). record feed { waiting = drop c.args.count feed.waiting }) c.self.view_is
