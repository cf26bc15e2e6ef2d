-- The answer of the machine so far, by one item more.
use Rattle.std.proofs.Common.{◌≡◌, ℕ, ◌+◌, List, [], ◌∷◌, ◌++◌, Bool, suc, arith, length, refl, ap, ap₂, subst, subst₂, sym}
use Rattle.std.proofs.Common.{◌∙◌, append_assoc, append-nil, length-append}
use Rattle.bmc_text.specs.Items.{Item, cut_most, cut, items_of, whole_items}
use Rattle.bmc_text.specs.Lines.{AreNone}
use Rattle.bmc_text.specs.NextItems.{BeginsWith, AreLast}
use Rattle.bmc_report.specs.Refusals.{refused_line}
use Rattle.bmc_report.specs.declared.refusal.Origin.TheVariants.{Line}
use Rattle.bmc_machine.specs.Histories.{Step}
use Rattle.cfg_json.specs.Verdicts.{Verdict}
use Rattle.bmc_machine.specs.Ties.{IsTied, AreTied}
use Rattle.bmc_machine.specs.Answers.{Answer, silent, answer, and_then, answers, answer_after, whole_answer_after}
use Rattle.bmc_run.specs.Progress.{SoFar, HasEnded}

-- it begins
pub so_far_none : (first : Answer) → SoFar first [] [] [] 1 first
so_far_none first = record { all = λ more later. refl; whole = λ more later. refl; tied = λ more later tied. tied; each = λ more. omega arith }

same_answer : (past : List Step) {text text' : List ℕ} {refused refused' : ℕ} → text ≡ text' → refused ≡ refused'
    → (let answer : Answer = record { past = past; text = text; refused = refused } in answer) ≡ record { past = past; text = text'; refused = refused' }
same_answer past texts refusals = λ i. record { past = past; text = texts i; refused = refusals i }

pub and_then-assoc : (first second third : Answer) → and_then first (and_then second third) ≡ and_then (and_then first second) third
and_then-assoc first second third =
    same_answer third.past (sym (append_assoc first.text second.text third.text)) (omega arith)

pub and_then-silent : (first : Answer) → and_then first (silent first.past) ≡ first
and_then-silent first = same_answer first.past (append-nil first.text) (omega arith)

answers-cons : (number : ℕ) (past : List Step) (verdict : Verdict) (later : List Verdict) (item : Item) (items : List Item)
    → answers Line number past (verdict ∷ later) (item ∷ items) ≡ and_then (answer (refused_line Line number) past verdict item)
    (answers Line (number + 1) (answer (refused_line Line number) past verdict item).past later items)
unfolding answers
answers-cons number past verdict later item items = refl

answers-nil : (number : ℕ) (past : List Step) (verdicts : List Verdict) → answers Line number past verdicts [] ≡ silent past
unfolding answers
answers-nil number past verdicts = refl

-- the answer with an item more
abbrev pub with_item : Answer → ℕ → Verdict → Item → Answer
with_item so_far number verdict item = and_then so_far (answer (refused_line Line number) so_far.past verdict item)

-- by one item, and then by those that follow
step_on : (so_far : Answer) (number : ℕ) (verdict : Verdict) (later : List Verdict) (item : Item) (items : List Item)
    → and_then so_far (answers Line number so_far.past (verdict ∷ later) (item ∷ items)) ≡ and_then (with_item so_far number verdict item)
    (answers Line (number + 1) (with_item so_far number verdict item).past later items)
step_on so_far number verdict later item items =
    ap (and_then so_far) (answers-cons number so_far.past verdict later item items)
    ∙ and_then-assoc so_far (answer (refused_line Line number) so_far.past verdict item)
    (answers Line (number + 1) (with_item so_far number verdict item).past later items)

-- one verdict more, and then those that follow
with_verdict : (verdicts later : List Verdict) (verdict : Verdict) → (verdicts ++ verdict ∷ []) ++ later ≡ verdicts ++ verdict ∷ later
with_verdict verdicts later verdict = append_assoc verdicts (verdict ∷ []) later

-- an item more, whatever follows it
pub so_far_more : (first : Answer) (taken waiting piece rest : List ℕ) (verdicts : List Verdict) (number : ℕ) (so_far : Answer) (verdict : Verdict)
    (item : Item)
    → SoFar first taken waiting verdicts number so_far → BeginsWith (waiting ++ piece) item rest → IsTied item verdict
    → SoFar first (taken ++ piece) rest (verdicts ++ verdict ∷ []) (number + 1) (with_item so_far number verdict item)
so_far_more first taken waiting piece rest verdicts number so_far verdict item machine begins tie = record {
  all = λ more later.
      ap₂ (answer_after first) (with_verdict verdicts later verdict) (append_assoc taken piece more) ∙ machine.all (piece ++ more) (verdict ∷ later)
      ∙ ap (λ (bytes : List ℕ). and_then so_far (answers Line number so_far.past (verdict ∷ later) (items_of bytes))) (sym (append_assoc waiting piece more))
      ∙ ap (λ (items : List Item). and_then so_far (answers Line number so_far.past (verdict ∷ later) items)) (begins.all more)
      ∙ step_on so_far number verdict later item (items_of (rest ++ more));
  whole = λ more later.
      ap₂ (whole_answer_after first) (with_verdict verdicts later verdict) (append_assoc taken piece more) ∙ machine.whole (piece ++ more) (verdict ∷ later)
      ∙ ap (λ (bytes : List ℕ). and_then so_far (answers Line number so_far.past (verdict ∷ later) (whole_items bytes))) (sym (append_assoc waiting piece more))
      ∙ ap (λ (items : List Item). and_then so_far (answers Line number so_far.past (verdict ∷ later) items)) (begins.whole more)
      ∙ step_on so_far number verdict later item (whole_items (rest ++ more));
  tied = λ more later tied.
      subst₂ (λ (bytes : List ℕ) (all : List Verdict). AreTied (items_of bytes) all) (sym (append_assoc taken piece more))
      (sym (with_verdict verdicts later verdict))
      (machine.tied (piece ++ more) (verdict ∷ later)
      (subst (λ (items : List Item). AreTied items (verdict ∷ later)) (sym (items_begin more)) (tie, tied)));
  each = λ more.
      let items = items_begin more in
      let before = machine.each (piece ++ more) in
      ap (λ (bytes : List ℕ). length (items_of bytes)) (append_assoc taken piece more) ∙ before
      ∙ counted (length verdicts) (length (items_of (waiting ++ (piece ++ more)))) (length (items_of (rest ++ more)))
      (length (verdicts ++ verdict ∷ [])) (ap length items) (length-append verdicts (verdict ∷ []));
}
  where
    items_begin : (more : List ℕ) → items_of (waiting ++ (piece ++ more)) ≡ item ∷ items_of (rest ++ more)
    items_begin more = ap items_of (sym (append_assoc waiting piece more)) ∙ begins.all more

    counted : (before all later one_more : ℕ) → all ≡ suc later → one_more ≡ before + 1 → before + all ≡ one_more + later
    counted before all later one_more is more = omega (arith, is, more)

-- no item follows
stop_here : (so_far : Answer) (number : ℕ) (verdicts : List Verdict) → and_then so_far (answers Line number so_far.past verdicts []) ≡ so_far
stop_here so_far number verdicts = ap (and_then so_far) (answers-nil number so_far.past verdicts) ∙ and_then-silent so_far

-- no item is left
ended_after : (first : Answer) (taken waiting piece : List ℕ) (verdicts : List Verdict) (number : ℕ) (so_far : Answer)
    → SoFar first taken waiting verdicts number so_far
    → items_of (waiting ++ piece) ≡ [] → HasEnded first (taken ++ piece) verdicts so_far
ended_after first taken waiting piece verdicts number so_far machine none = record {
  all = λ later.
      machine.all piece later ∙ ap (λ (items : List Item). and_then so_far (answers Line number so_far.past later items)) none ∙ stop_here so_far number later;
  tied = subst (AreTied (items_of (taken ++ piece))) (append-nil verdicts) (machine.tied piece [] tt);
  each = sym (machine.each piece ∙ ap (λ (items : List Item). length verdicts + length items) none ∙ omega arith);
}

items_of-nil : items_of [] ≡ []
unfolding cut_most cut
items_of-nil = refl

-- the bytes that wait and those that came are the last item
pub so_far_last : (first : Answer) (taken waiting piece rest : List ℕ) (verdicts : List Verdict) (number : ℕ) (so_far : Answer) (verdict : Verdict)
    (item : Item)
    → SoFar first taken waiting verdicts number so_far → AreLast (waiting ++ piece) item rest → IsTied item verdict
    → HasEnded first (taken ++ piece) (verdicts ++ verdict ∷ []) (with_item so_far number verdict item)
so_far_last first taken waiting piece rest verdicts number so_far verdict item machine last tie = record {
  all = λ later.
      ap (λ (all : List Verdict). answer_after first all (taken ++ piece)) (with_verdict verdicts later verdict) ∙ machine.all piece (verdict ∷ later)
      ∙ ap (λ (items : List Item). and_then so_far (answers Line number so_far.past (verdict ∷ later) items)) last.all
      ∙ step_on so_far number verdict later item []
      ∙ stop_here (with_item so_far number verdict item) (number + 1) later;
  tied = machine.tied piece (verdict ∷ []) (subst (λ (items : List Item). AreTied items (verdict ∷ [])) (sym last.all) (tie, tt));
  each =
      counted (length verdicts) (length (items_of (taken ++ piece))) (length (items_of (waiting ++ piece))) (length (verdicts ++ verdict ∷ []))
      (machine.each piece) (ap length last.all) (length-append verdicts (verdict ∷ []));
}
  where
    counted : (before all left one_more : ℕ) → all ≡ before + left → left ≡ 1 → one_more ≡ before + 1 → one_more ≡ all
    counted before all left one_more is one more = omega (arith, is, one, more)

-- no byte waits and none came
pub so_far_end : (first : Answer) (taken waiting piece rest : List ℕ) (verdicts : List Verdict) (number : ℕ) (so_far : Answer) (ended : Bool)
    → SoFar first taken waiting verdicts number so_far → AreNone (waiting ++ piece) rest ended → HasEnded first (taken ++ piece) verdicts so_far
so_far_end first taken waiting piece rest verdicts number so_far ended machine none =
    ended_after first taken waiting piece verdicts number so_far machine (ap items_of none.all ∙ items_of-nil)

-- in what waits and what came no item is whole
pub so_far_whole : (first : Answer) (taken waiting piece : List ℕ) (verdicts : List Verdict) (number : ℕ) (so_far : Answer)
    → SoFar first taken waiting verdicts number so_far → whole_items (waiting ++ piece) ≡ [] → whole_answer_after first verdicts (taken ++ piece) ≡ so_far
so_far_whole first taken waiting piece verdicts number so_far machine none =
    ap (λ (all : List Verdict). whole_answer_after first all (taken ++ piece)) (sym (append-nil verdicts)) ∙ machine.whole piece []
    ∙ ap (λ (items : List Item). and_then so_far (answers Line number so_far.past [] items)) none
    ∙ stop_here so_far number []
