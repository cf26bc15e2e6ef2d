-- The probe of a list of texts.
use Rattle.std.proofs.Common.{◌≡◌, ℕ, List, map, Ok, Err, refl}
use Rattle.std.specs.Global.{Vec}
use Rattle.serde_json.specs.View.{view}
use Rattle.serde_json.specs.declared.value.Value.{Value}
use Rattle.serde_json.specs.declared.value.Value.TheVariants.{Array}
use Rattle.serde_json.proofs.Views.{view-Array}
use Rattle.probe_lang.specs.Grammar.{Parsed, GivesProbe, probe_of}
use Rattle.probe_lang.specs.declared.probe.ProbeFault.{ProbeFault}
use Rattle.probe_lang.specs.declared.probe.ProbeFault.TheVariants.{ProbeSyntax, OutOfMemory}
use Rattle.cfg_json.specs.declared.config_fault.ConfigFault.{ConfigFault}
use Rattle.cfg_json.specs.Values.{◌>>=◌}
use Rattle.cfg_json.specs.Probes.{texts_in, by_grammar, probe_in, probe_rule}
use Rattle.cfg_json.specs.Readings.{GivesFault}
use Rattle.cfg_json.proofs.ListsLemmas.{list_of_items}

list_probe : (value : Value) (items : Vec Value) (elements : List Value) → value ≡ Array items → elements ≡ items.items
    → probe_in (view value) ≡ (texts_in (map view elements) >>= λ texts. by_grammar (probe_of texts))
list_probe value items elements e same = rw (e, view-Array items, list_of_items (map view items.items), same) refl

pub bad_texts : (value : Value) (items : Vec Value) (elements : List Value) (fault : ConfigFault) → value ≡ Array items → elements ≡ items.items
    → texts_in (map view elements) ≡ Err fault → probe_in (view value) ≡ Err fault
bad_texts value items elements fault e same bad = rw (list_probe value items elements e same, bad) refl

pub good_texts : (value : Value) (items : Vec Value) (elements : List Value) (texts : List (List ℕ)) (parsed : Parsed) → value ≡ Array items
    → elements ≡ items.items → texts_in (map view elements) ≡ Ok texts → probe_of texts ≡ Ok parsed → probe_in (view value) ≡ Ok parsed
good_texts value items elements texts parsed e same good reads = rw (list_probe value items elements e same, good, reads) refl

pub no_grammar : (value : Value) (items : Vec Value) (elements : List Value) (texts : List (List ℕ)) (fault : ProbeFault) → value ≡ Array items
    → elements ≡ items.items → texts_in (map view elements) ≡ Ok texts → GivesProbe (Err fault) (probe_of texts)
    → GivesFault (probe_rule fault) (probe_in (view value))
no_grammar value items elements texts (ProbeSyntax at) e same good wrong = rw (list_probe value items elements e same, good, wrong) refl
no_grammar value items elements texts OutOfMemory e same good wrong = tt
