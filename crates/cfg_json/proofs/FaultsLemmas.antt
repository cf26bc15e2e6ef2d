-- Faults of a part are faults of the whole.
use Rattle.std.proofs.Common.{◌≡◌, List, ◌∙◌, Result, Ok, Err, sym, ap, subst}
use Rattle.std.specs.Result.{IsErrAnd}
use Rattle.std.specs.Borrow.{Bor}
use Rattle.serde_json.specs.Data.{Data}
use Rattle.serde_json.specs.declared.value.Value.{Value}
use Rattle.cfg_json.specs.declared.config_fault.ConfigFault.{ConfigFault}
use Rattle.cfg_json.specs.declared.config_fault.ConfigFault.TheVariants.{NotJson, Fraction, MissingKey, WrongKind, OutOfRange}
use Rattle.cfg_json.specs.declared.config_fault.ConfigFault.TheVariants.{ProbeSyntax, TemplateSyntax, MuxMatchOne, PatternSyntax}
use Rattle.cfg_json.specs.declared.config_fault.ConfigFault.TheVariants.{PatternTooLarge, OutOfMemory}
use Rattle.cfg_json.specs.Readings.{Gives, GivesFault, GivesList}

-- a fault that a part gives for sure
pub sure_fault : {A : Type 0} (fault : ConfigFault) (part : Result A ConfigFault) → part ≡ Err fault → GivesFault fault part
sure_fault NotJson part e = e
sure_fault Fraction part e = e
sure_fault MissingKey part e = e
sure_fault WrongKind part e = e
sure_fault OutOfRange part e = e
sure_fault (ProbeSyntax at) part e = e
sure_fault TemplateSyntax part e = e
sure_fault MuxMatchOne part e = e
sure_fault (PatternSyntax text) part e = e
sure_fault (PatternTooLarge text) part e = e
sure_fault OutOfMemory part e = tt

-- what the exit of a `?` answers
pub passed_on : {A : Type 0} (fault : ConfigFault) (read result : Result A ConfigFault)
    → IsErrAnd result (λ other. other ≡ fault) → GivesFault fault read → Gives result read
passed_on fault read (Ok part) e gives = absurd e
passed_on fault read (Err other) e gives = subst (λ fault. GivesFault fault read) (sym e) gives

pub sure_passed_on : {A : Type 0} (fault : ConfigFault) (read result : Result A ConfigFault)
    → IsErrAnd result (λ other. other ≡ fault) → read ≡ Err fault → Gives result read
sure_passed_on fault read result e sure = passed_on fault read result e (sure_fault fault read sure)

pub list_passed_on : (fault : ConfigFault) (found : Result (List Data) ConfigFault) (result : Result (Bor (List Value)) ConfigFault)
    → IsErrAnd result (λ other. other ≡ fault) → found ≡ Err fault → GivesList result found
list_passed_on fault found (Ok items) e none = absurd e
list_passed_on fault found (Err other) e none = none ∙ ap Err (sym e)
