use Rattle.std.specs.Str.{IsUtf8}
use Rattle.std.proofs.lemmas.List.Elements.{All-append}
use Rattle.fru_record.proofs.TextRulesLemmas.{AreWritable-append}
use Rattle.fru_record.proofs.builder.push_body.Goals as goal

pub push_texts-requires : goal.push_texts-requires
push_texts-requires c = rw c.as_slice.ensures (AreWritable-append c.args.named.now c.args.custom.now c.requires).0

pub push_texts-requires-2 : goal.push_texts-requires-2
push_texts-requires-2 c = rw c.as_slice-2.ensures (AreWritable-append c.args.named.now c.args.custom.now c.requires).1

pub returns-clause-utf8 : goal.returns-clause-utf8
returns-clause-utf8 c =
    All-append IsUtf8 c.args.named.now c.args.custom.now (rw c.as_slice.ensures at c.in_ok-push_texts.ensures.utf8)
    (rw c.as_slice-2.ensures at c.in_ok-push_texts-2.ensures.utf8)
