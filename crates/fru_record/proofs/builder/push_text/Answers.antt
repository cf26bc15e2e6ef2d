use Rattle.std.proofs.lemmas.Result.{on_ok_weaker}
use Rattle.fru_record.proofs.TextRulesLemmas.{writable-short, writable-range, field-written}
use Rattle.fru_record.proofs.builder.push_text.Goals as goal

pub field_head-requires : goal.field_head-requires
field_head-requires c = rw c.char_count-count.ensures.exact (writable-short c.args.text.now c.requires)

pub push_chars-requires : goal.push_chars-requires
push_chars-requires c = rw (c.first_char.ensures, c.char_count-count.ensures.exact) (writable-range c.args.text.now c.requires)

pub returns-clause-written : goal.returns-clause-written
returns-clause-written c =
    on_ok_weaker c.push_chars.result
    (λ written.
    field-written c.args.bytes.now.items _ _ c.args.text.now _ _ _ c.char_count-count.ensures.exact c.field_head.ensures c.first_char.ensures
    c.in_ok-push.ensures.items written)
    c.push_chars.ensures
