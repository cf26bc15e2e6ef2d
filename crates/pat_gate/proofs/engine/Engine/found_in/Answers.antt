use Rattle.std.proofs.Common.{◌≡◌, IfOk, Bool, ap, ◌∙◌, subst}
use Rattle.pat_gate.proofs.Searches.{are_bytes}
use Rattle.pat_gate.specs.Grammar.{has_match}
use Rattle.pat_gate.proofs.engine.Engine.found_in.Goals as goal

pub returns-clause-found : goal.returns-clause-found
returns-clause-found c =
    subst (λ (wanted : Bool). IfOk c.found_in.result (λ found. found ≡ wanted))
    (c.self.invariant c.args.hay.now (are_bytes _ c.type_inv.hay)
    ∙ ap (λ text. has_match text c.args.hay.now) c.self.view_is) c.found_in.ensures.found
