-- One bit more is set.
use Rattle.std.proofs.Common.{◌∙◌, ◌*◌, ◌/◌, ◌%◌, ◌^◌, ◌||◌, ◌==◌, Bool, List, ap, sym, set, get_or, bit_or, arith}
use Rattle.found_set.specs.Marks.{is_marked}
use Rattle.found_set.proofs.WordsLemmas.{marked_is, more_set}
use Rattle.found_set.proofs.marks.Marks.set_bit.Goals as goal

pub returns-clause-marked : goal.returns-clause-marked
returns-clause-marked c = λ n small.
    let words = c.self.inside.words in
    let number = c.args.number in
    marked_is (set words (number / 64) (bit_or (get_or words (number / 64) 0) ((1 * 2 ^ (number % 64)) % 18446744073709551616))) n small
    ∙ more_set words number n (omega arith)
    ∙ ap (λ (b : Bool). b || number == n) (sym (marked_is words n small) ∙ ap (λ (list : List Bool). is_marked list n) c.self.view_is)
