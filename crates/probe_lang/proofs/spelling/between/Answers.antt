-- What is left after the head and the tail were stripped.
use Rattle.probe_lang.proofs.WordsLemmas.{with_head}
use Rattle.probe_lang.proofs.spelling.between.Goals as goal

pub returns : goal.returns
returns c =
    with_head c.args.head.now c.args.tail.now c.args.text.now c.in_ok-strip_prefix.field-0.now c.strip_suffix.result
    c.in_ok-strip_prefix.ensures.cases c.strip_suffix.ensures.cases
