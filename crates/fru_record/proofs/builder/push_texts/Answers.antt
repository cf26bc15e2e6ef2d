use Rattle.std.proofs.Common.{ℕ, List, get_or, subst, ◌∙◌, arith, below_more}
use Rattle.std.specs.Str.{IsUtf8}
use Rattle.std.proofs.lemmas.Grind.{common_steps}
use Rattle.std.proofs.lemmas.List.{get_or_default}
use Rattle.fru_record.proofs.TextRulesLemmas.{IsWritable-at}
use Rattle.fru_record.proofs.builder.push_texts.Goals as goal

pub push_text-requires : goal.push_text-requires
push_text-requires c = rw (c.as_str.ensures, c.text-item.is) (IsWritable-at c.args.texts.now c.loop-text.text-index _ c.loop-text-test.true c.requires)

pub loop-text-preserved : goal.loop-text-preserved
loop-text-preserved c = record {
  written = grind (arith, common_steps);
  utf8 = λ k d h. below_more (λ k. (d : List ℕ) → IsUtf8 (get_or c.args.texts.now k d)) c.loop-text.text-index (λ k h d. c.loop-text.invariant.utf8 k d h)
      (λ d. subst IsUtf8 (c.as_str.ensures ∙ c.text-item.is
      ∙ get_or_default c.args.texts.now c.loop-text.text-index c.text-item.result d c.loop-text-test.true) c.push_text.ensures.utf8) k h d;
}
