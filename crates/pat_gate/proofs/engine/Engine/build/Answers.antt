use Rattle.std.proofs.Common.{sym, subst}
use Rattle.regex_compile.specs.Implements.{Implements}
use Rattle.regex_dfa.specs.declared.dfa.Dfa.{Dfa}
use Rattle.regex_hir.specs.Meaning.{meaning}
use Rattle.pat_gate.proofs.Searches.{anchored_starts, implements_serves}
use Rattle.pat_gate.specs.Searches.{Serves}
use Rattle.pat_gate.proofs.engine.Engine.build.Goals as goal

pub new-requires : goal.new-requires
new-requires c at_start =
    anchored_starts c.in_ok-dfa.dfa.nfa c.in_ok-parsed.parsed.hir c.in_ok-dfa.ensures (c.is_anchored_start-at_start.ensures.anchored at_start)

pub invariant_of-result : goal.invariant_of-result
invariant_of-result c =
    let hir = c.in_ok-parsed.parsed.hir in
    let implements = subst (λ (dfa : Dfa). Implements dfa.nfa (meaning hir)) (sym c.in_ok-searcher.ensures) c.in_ok-dfa.ensures in
    subst (Serves c.in_ok-searcher.searcher.dfa.nfa) (sym c.in_ok-text.ensures)
    (implements_serves c.in_ok-searcher.searcher.dfa.nfa c.args.text.now hir _ c.in_ok-parsed.ensures.read implements)
