-- The mark is a bit of a word.
use Rattle.std.proofs.Common.{◌∙◌, ◌<◌, ◌/◌, ◌%◌, Bool, List, ℕ, nat_eq, ap, sym, get_or, arith}
use Rattle.std.proofs.lemmas.Bool.Decides.{nat_tests}
use Rattle.std.proofs.lemmas.Nat.Bits.{shr_and_one}
use Rattle.found_set.specs.Marks.{is_marked}
use Rattle.found_set.proofs.WordsLemmas.{marked_is}
use Rattle.found_set.proofs.marks.Marks.has.Goals as goal

pub returns-then-number-lt-MARK_COUNT-clause-value : goal.returns-then-number-lt-MARK_COUNT-clause-value
returns-then-number-lt-MARK_COUNT-clause-value c =
    let words = c.self.inside.words in
    let n = c.args.number in
    let small : n < 256 = grind (arith, nat_tests, c.if-number-lt-MARK_COUNT.true) in
    ap (λ (bit : ℕ). nat_eq bit 1) (shr_and_one (get_or words (n / 64) 0) (n % 64)) ∙ sym (marked_is words n small)
    ∙ ap (λ (list : List Bool). is_marked list n) c.self.view_is
