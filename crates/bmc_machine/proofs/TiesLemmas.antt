-- Verdicts that are tied to the same items, and call no text too large, answer the same.
use Rattle.std.proofs.Common.{◌≡◌, ℕ, ◌+◌, List, [], ◌∷◌, ◌++◌, refl, sym, ap, ◌∙◌, arith}
use Rattle.std.specs.Prelude.{length, Result, Ok, Err}
use Rattle.std.proofs.lemmas.Bool.{both_ways}
use Rattle.std.proofs.lemmas.List.Elements.{All-contains}
use Rattle.bmc_text.specs.Items.{Item, Line, LineTooLong, Block, BlockTooLong, BlockShort}
use Rattle.bmc_report.specs.Refusals.{refused_line}
use Rattle.bmc_report.specs.declared.refusal.Origin.{Origin}
use Rattle.bmc_report.specs.declared.refusal.Refusal.{Refusal}
use Rattle.pat_gate.specs.Grammar.{IsPattern}
use Rattle.cfg_json.specs.Configs.{Config, pattern_texts}
use Rattle.cfg_json.specs.Documents.{config_read}
use Rattle.cfg_json.specs.Verdicts.{Verdict, Accepted, BadPattern, LargePattern, TiedTo, TiedToReading, large_in}
use Rattle.cfg_json.specs.declared.config_fault.ConfigFault.{ConfigFault}
use Rattle.bmc_machine.specs.Histories.{Step}
use Rattle.bmc_machine.specs.Answers.{Answer, answer_config, answer, and_then, answers}
use Rattle.bmc_machine.specs.Ties.{IsTied, AreTied, large_texts}

-- a bad text is no text of patterns that are accepted
accepted_or_bad : (config : Config) (text : List ℕ) → TiedTo config Accepted → TiedTo config (BadPattern text) → ⊥
accepted_or_bad config text accepted bad = both_ways _ bad.1 (All-contains IsPattern (pattern_texts config) text accepted bad.0)

module _ (line : Refusal → List ℕ) (past : List Step) where
  config_answers : (read : Result Config ConfigFault) (verdict other : Verdict) → TiedToReading read verdict → TiedToReading read other
      → large_in verdict ≡ [] → large_in other ≡ [] → answer_config line past verdict read ≡ answer_config line past other read
  config_answers (Err rule) verdict other tied also_tied small also_small =
      ap (λ (it : Verdict). answer_config line past it (Err rule)) (tied ∙ sym also_tied)
  config_answers (Ok config) Accepted Accepted tied also_tied small also_small = refl
  config_answers (Ok config) (BadPattern text) (BadPattern other) tied also_tied small also_small = refl
  config_answers (Ok config) Accepted (BadPattern text) tied also_tied small also_small = absurd (accepted_or_bad config text tied also_tied)
  config_answers (Ok config) (BadPattern text) Accepted tied also_tied small also_small = absurd (accepted_or_bad config text also_tied tied)
  config_answers (Ok config) verdict (LargePattern text) tied also_tied small also_small = absurd (cc)
  config_answers (Ok config) (LargePattern text) other tied also_tied small also_small = absurd (cc)

  item_answers : (item : Item) (verdict other : Verdict) → IsTied item verdict → IsTied item other → large_in verdict ≡ [] → large_in other ≡ []
      → answer line past verdict item ≡ answer line past other item
  item_answers (Line bytes) verdict other tied also_tied small also_small = refl
  item_answers LineTooLong verdict other tied also_tied small also_small = refl
  item_answers (Block bytes) verdict other tied also_tied small also_small = config_answers (config_read bytes) verdict other tied also_tied small also_small
  item_answers BlockTooLong verdict other tied also_tied small also_small = refl
  item_answers BlockShort verdict other tied also_tied small also_small = refl

first_empty : (front back : List (List ℕ)) → front ++ back ≡ [] → front ≡ []
first_empty [] back none = refl
first_empty (text ∷ front) back none = absurd (cc)

later_empty : (front back : List (List ℕ)) → front ++ back ≡ [] → back ≡ []
later_empty [] back none = none
later_empty (text ∷ front) back none = absurd (cc)

-- where there is one for each item
pub verdicts_answer : (origin : Origin) (number : ℕ) (past : List Step) (items : List Item) (verdicts others : List Verdict)
    → AreTied items verdicts → AreTied items others
    → length verdicts ≡ length items → length others ≡ length items → large_texts verdicts ≡ [] → large_texts others ≡ []
    → answers origin number past verdicts items ≡ answers origin number past others items
unfolding answers
verdicts_answer origin number past [] verdicts others tied also_tied each also_each small also_small = refl
verdicts_answer origin number past (item ∷ items) [] others tied also_tied each also_each small also_small = absurd (omega (arith, each))
verdicts_answer origin number past (item ∷ items) (verdict ∷ verdicts) [] tied also_tied each also_each small also_small = absurd (omega (arith, also_each))
verdicts_answer origin number past (item ∷ items) (verdict ∷ verdicts) (other ∷ others) tied also_tied each also_each small also_small =
    ap (λ (it : Answer). and_then it (answers origin (number + 1) it.past verdicts items)) same
    ∙ ap (and_then first)
    (verdicts_answer origin (number + 1) first.past items verdicts others tied.1 also_tied.1 (omega (arith, each)) (omega (arith, also_each))
    (later_empty (large_in verdict) (large_texts verdicts) small) (later_empty (large_in other) (large_texts others) also_small))
  where
    first : Answer
    first = answer (refused_line origin number) past other item

    same : answer (refused_line origin number) past verdict item ≡ first
    same =
        item_answers (refused_line origin number) past item verdict other tied.0 also_tied.0
        (first_empty (large_in verdict) (large_texts verdicts) small) (first_empty (large_in other) (large_texts others) also_small)
