-- The texts of a list are those of its elements.
use Rattle.cfg_json.specs.Probes.{probe_rule}
use Rattle.cfg_json.proofs.FaultsLemmas.{passed_on, sure_passed_on}
use Rattle.cfg_json.proofs.ProbesLemmas.{bad_texts, good_texts, no_grammar}
use Rattle.cfg_json.proofs.probe_texts.read_probe.Goals as goal

pub returns-in_err-texts-in-Array-clause-read : goal.returns-in_err-texts-in-Array-clause-read
returns-in_err-texts-in-Array-clause-read g c =
    sure_passed_on c.in_err-texts-in-Array.field-0.0 _ c.from_residual-in_err-texts-in-Array.result c.from_residual-in_err-texts-in-Array.ensures.1
    (bad_texts c.args.value.now c.in-Array.items c.deref.result.now c.in_err-texts-in-Array.field-0.0 c.in-Array.is
    c.deref.ensures.value c.in_err-texts-in-Array.ensures)

pub returns-in_err-parse-in-Array-clause-read : goal.returns-in_err-parse-in-Array-clause-read
returns-in_err-parse-in-Array-clause-read g c =
    passed_on (probe_rule c.in_err-parse-in-Array.field-0.0) _ c.from_residual-in_err-parse-in-Array.result c.from_residual-in_err-parse-in-Array.ensures.1
    (no_grammar c.args.value.now c.in-Array.items c.deref.result.now _ c.in_err-parse-in-Array.field-0.0 c.in-Array.is c.deref.ensures.value
    c.in_ok-texts-in-Array.ensures (rw c.deref-in-Array.ensures.0 at c.in_err-parse-in-Array.ensures.read))

pub returns-in_ok-parse-in-Array-clause-read : goal.returns-in_ok-parse-in-Array-clause-read
returns-in_ok-parse-in-Array-clause-read g c =
    good_texts c.args.value.now c.in-Array.items c.deref.result.now _ c.in_ok-parse-in-Array.field-0 c.in-Array.is c.deref.ensures.value
    c.in_ok-texts-in-Array.ensures (rw c.deref-in-Array.ensures.0 at c.in_ok-parse-in-Array.ensures.read)
