use Rattle.std.proofs.Common.{◌∙◌, sym}
use Rattle.std.specs.Prelude.{Some, None, codes}
use Rattle.std.proofs.lemmas.Bool.Decides.{Decides-eqb}
use Rattle.std.proofs.lemmas.Slice.Eq.{strip_prefix_is}
use Rattle.bmc_text.proofs.WordsLemmas.{asks_for, asks_for_none}
use Rattle.bmc_text.proofs.words.size_in_words.Goals as goal

pub returns-in-Some : goal.returns-in-Some
returns-in-Some c =
    c.read_number.ensures
    ∙ sym (asks_for c.args.line.now c.in-Some.digits.now
    (strip_prefix_is Decides-eqb c.args.line.now (codes "config ") (Some c.in-Some.digits) c.in-Some.ensures.cases))

pub returns-in-None : goal.returns-in-None
returns-in-None c = sym (asks_for_none c.args.line.now (strip_prefix_is Decides-eqb c.args.line.now (codes "config ") None c.in-None.ensures.cases))
