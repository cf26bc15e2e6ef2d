-- One configuration more.
use Rattle.std.proofs.Common.{◌≡◌, ◌∙◌, ◌⊎◌, ℕ, ◌+◌, ◌<◌, ◌≤◌, Bool, false, List, [], length, set, take, drop, ap, sym, refl, inl, inr, arith}
use Rattle.std.proofs.lemmas.Bool.{cases_lt}
use Rattle.found_set.specs.Found.{Rule, found_from}
use Rattle.std.proofs.lemmas.List.{drop_all, get_or_past, get_or-set_other, get_or-take, length-set, length-take-le}
use Rattle.std.specs.List.{list_any}
use Rattle.probe_lang.specs.Values.{asks_found}
use Rattle.found_set.specs.Marks.{is_marked}
use Rattle.found_set.specs.Earlier.{earlier_mark}
use Rattle.found_set.proofs.StepsLemmas.{within_sum}
use Rattle.found_set.proofs.EventsLemmas.{none_within}
use Rattle.found_set.proofs.FoundLemmas.{none_marked, marked_on}
use Rattle.found_set.proofs.EarlierLemmas.{found_again, still_same}
use Rattle.found_set.proofs.find.found_by.Goals as goal

none_later : (found : List Bool) (i : ℕ) (b : Bool) → ((n : ℕ) → i ≤ n → is_marked found n ≡ false) → (n : ℕ) → i + 1 ≤ n → is_marked (set found i b) n ≡ false
none_later found i b none n h = get_or-set_other found i n b false (λ e. omega arith) ∙ none n (omega arith)

pub loop-i-init : goal.loop-i-init
loop-i-init g c = record {
  many = ap length c.none-found.ensures;
  told = λ test given still. refl;
  none = λ n h. ap (λ (list : List Bool). is_marked list n) c.none-found.ensures ∙ none_marked 256 n;
  same = λ unchanged. refl;
  counted = none_within _ _;
}

pub loop-i-preserved : goal.loop-i-preserved
loop-i-preserved g c =
    let i = c.loop-i.i in
    let found = c.loop-i.found in
    let long : length c.args.earlier.now.found ≡ 256 = c.changes-has_changed.ensures.count in
    let put : c.mark_if.new.self ≡ set found i c.find-is_found.result = c.mark_if.ensures in record {
      many = ap length put ∙ length-set found i c.find-is_found.result ∙ c.loop-i.invariant.many;
      told = λ test given still. ap (λ (list : List Bool). found_from c.args.rules.now (drop (i + 1) c.args.rules.now) test (take (i + 1) list)) put
          ∙ marked_on c.args.rules.now i c.index-rules-i.result found c.find-is_found.result test (omega arith) (omega arith)
          c.index-rules-i.is (found_again c.args.names.now.names c.args.rules.now i c.index-rules-i.result c.args.marks.now found c.args.earlier.now.found
          c.args.earlier.now.touched c.loop-i.has_changed (list_any asks_found c.index-rules-i.result.probe.words) c.mark-mark.result c.find-is_found.result
          (omega arith) (omega arith) c.index-rules-i.is refl
          (c.mark-mark.ensures ∙ ap (λ (stale : Bool). earlier_mark c.args.earlier.now.found c.args.earlier.now.touched stale i) c.is_stale.ensures)
          c.find-is_found.ensures.value c.find-is_found.ensures.few c.loop-i.invariant.none c.requires.named c.loop-i.invariant.same test given still)
          ∙ c.loop-i.invariant.told test given still;
      none = λ n h. ap (λ (list : List Bool). is_marked list n) put ∙ none_later found i c.find-is_found.result c.loop-i.invariant.none n h;
      same = λ unchanged. ap (take (i + 1)) put
          ∙ still_same c.args.earlier.now.found found c.loop-i.has_changed c.changes-has_changed.result i c.find-is_found.result (omega arith) (omega arith)
          c.loop-i.invariant.same c.changes-has_changed.ensures.value unchanged;
      counted = within_sum _ _ _ i 1 (i + 1) c.loop-i.invariant.counted c.find-is_found.ensures.counted (omega arith);
    }

-- the marks of the configurations so far, and none behind them
front : (found : List Bool) (i n : ℕ) → i ≤ length found → ((k : ℕ) → i ≤ k → is_marked found k ≡ false) → (n < i) ⊎ (i ≤ n)
    → is_marked found n ≡ is_marked (take i found) n
front found i n within none (inl below) = sym (get_or-take i found n false below)
front found i n within none (inr past) = none n past ∙ sym (get_or_past (take i found) n false (omega (arith, past, length-take-le i found within)))

pub returns-clause-found : goal.returns-clause-found
returns-clause-found g c = λ test given still n small.
    let i = c.loop-i.i in
    let found = c.loop-i.found in
    let rules = c.args.rules.now in
    let all : take i found ≡ found_from rules rules test [] =
    sym (ap (λ (rest : List Rule). found_from rules rest test (take i found)) (drop_all i rules c.loop-i-test.false))
    ∙ c.loop-i.invariant.told test given still in
    front found i n (omega (arith, c.loop-i.invariant.many)) c.loop-i.invariant.none (cases_lt n i) ∙ ap (λ (list : List Bool). is_marked list n) all
