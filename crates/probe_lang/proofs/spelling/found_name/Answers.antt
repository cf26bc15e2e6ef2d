-- What stands between the quotes is a name, or none.
use Rattle.std.proofs.Common.{true, false, sym, ap, ◌∙◌}
use Rattle.std.specs.Result.{result_ok}
use Rattle.probe_lang.specs.Words.{found_name, quoted_name}
use Rattle.probe_lang.proofs.WordsLemmas.{quote_found, quoted_not, quoted_is}
use Rattle.probe_lang.proofs.spelling.found_name.Goals as goal

pub returns-then-contains : goal.returns-then-contains
unfolding found_name
returns-then-contains c =
    let name = c.in_ok-name.name.now in
    sym (ap quoted_name (sym c.in_ok-name.ensures) ∙ quoted_not name (sym (quote_found true name c.if-contains.ensures.cases)))

pub returns : goal.returns
unfolding found_name
returns c =
    let name = c.in_ok-name.name.now in
    c.ok.ensures.value ∙ ap result_ok c.new.ensures ∙ quoted_is name (sym (quote_found false name c.if-contains.ensures.cases))
    ∙ ap quoted_name c.in_ok-name.ensures
