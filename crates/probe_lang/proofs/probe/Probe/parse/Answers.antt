-- One text at a time, and the end.
use Rattle.std.proofs.Common.{◌≡◌, true, false, Ok, Err, refl, ap, sym, ◌∙◌, arith, length}
use Rattle.probe_lang.specs.Grammar.{parsed}
use Rattle.probe_lang.proofs.GrammarLemmas.{step_at, wants_at_end, read_at_end, probe_is_few, counted_on}
use Rattle.probe_lang.proofs.probe.Probe.parse.Goals as goal

pub parsed-requires : goal.parsed-requires
parsed-requires g c =
    let step = step_at c.loop-at.wants_operand c.loop-at.at c.loop-at.reading c.read.new.self c.args.texts.now _ _ c.in_ok-term.term c.in_ok-read.field-0
    c.loop-at-test.true refl c.in_ok-term.ensures c.in_ok-read.ensures.told in
    let ends = rw c.in-Ends.is at step in
    probe_is_few c.args.texts.now (parsed c.read.new.self true) c.requires (sym c.loop-at.invariant.told ∙ ends)

pub returns-in-Ends-clause-read : goal.returns-in-Ends-clause-read
returns-in-Ends-clause-read g c =
    let step = step_at c.loop-at.wants_operand c.loop-at.at c.loop-at.reading c.read.new.self c.args.texts.now _ _ c.in_ok-term.term c.in_ok-read.field-0
    c.loop-at-test.true refl c.in_ok-term.ensures c.in_ok-read.ensures.told in
    let ends = rw c.in-Ends.is at step in
    sym c.loop-at.invariant.told ∙ ends ∙ ap Ok (sym c.parsed.ensures)

pub returns-in-Wrong-clause-read : goal.returns-in-Wrong-clause-read
returns-in-Wrong-clause-read g c =
    let step = step_at c.loop-at.wants_operand c.loop-at.at c.loop-at.reading c.read.new.self c.args.texts.now _ _ c.in_ok-term.term c.in_ok-read.field-0
    c.loop-at-test.true refl c.in_ok-term.ensures c.in_ok-read.ensures.told in
    let ends = rw c.in-Wrong.is at step in
    sym c.loop-at.invariant.told ∙ ends

pub loop-at-preserved : goal.loop-at-preserved
loop-at-preserved g c =
    let step = step_at c.loop-at.wants_operand c.loop-at.at c.loop-at.reading c.read.new.self c.args.texts.now _ _ c.in_ok-term.term c.in_ok-read.field-0
    c.loop-at-test.true refl c.in_ok-term.ensures c.in_ok-read.ensures.told in
    let goes = rw c.in-Read.is at step in
    record {
      told = sym goes ∙ c.loop-at.invariant.told;
      counted = counted_on c.loop-at.wants_operand c.loop-at.at _ _ c.loop-at.invariant.counted c.in_ok-read.ensures.few;
    }

pub returns-then-wants_operand-clause-read : goal.returns-then-wants_operand-clause-read
returns-then-wants_operand-clause-read g c =
    let end : c.loop-at.at ≡ length c.args.texts.now = omega (arith, c.loop-at-test.false, c.loop-at.auto.at-end) in
    let told = rw c.if-wants_operand.true at c.loop-at.invariant.told in
    sym told ∙ wants_at_end c.loop-at.at c.loop-at.reading c.args.texts.now c.loop-at-test.false ∙ ap Err end

pub parsed-requires-2 : goal.parsed-requires-2
parsed-requires-2 g c =
    let told = rw c.if-wants_operand.false at c.loop-at.invariant.told in
    let read = sym told ∙ read_at_end c.loop-at.at c.loop-at.reading c.args.texts.now c.loop-at-test.false in
    probe_is_few c.args.texts.now (parsed c.loop-at.reading false) c.requires read

pub returns-clause-read : goal.returns-clause-read
returns-clause-read g c =
    let told = rw c.if-wants_operand.false at c.loop-at.invariant.told in
    sym told ∙ read_at_end c.loop-at.at c.loop-at.reading c.args.texts.now c.loop-at-test.false ∙ ap Ok (sym c.parsed-2.ensures)
