-- The places of a substitution behind plain text.
use Rattle.std.proofs.Common.{List, ℕ, ◌∷◌, Some, drop, sym, ap, ◌∙◌}
use Rattle.std.proofs.lemmas.Str.{IsCharBoundary-from_drop}
use Rattle.tmpl.specs.Operations.{operations_of}
use Rattle.tmpl.specs.Templates.{Substitution, pieces_of}
use Rattle.tmpl.proofs.lead.marked_behind.Goals as goal

pub returns-in-Some-Substitution-Some-default-default : goal.returns-in-Some-Substitution-Some-default-default
returns-in-Some-Substitution-Some-default-default c =
    let text = c.args.text.now in
    let found = c.in-Some-Substitution-Some-default-default in
    let later = c.place_of-in-Some-Substitution-Some-default-default in
    let split = rw (found.field-0-0-is, found.field-0-0-0-is) at found.ensures.0 in
    record {
      front = c.requires.plain;
      cut = IsCharBoundary-from_drop text c.args.plain c.requires.plain.within (rw c.requires.rest at c.utf8.rest);
      behind = c.place_of.ensures.within;
      rest = IsCharBoundary-from_drop text later.result later.ensures.within (rw later.ensures.place at c.as_bytes.ensures.utf8);
      split =
          ap pieces_of (sym c.requires.rest) ∙ split
          ∙ ap (λ (xs : List ℕ). Substitution (Some found.word) (operations_of xs) ∷ pieces_of found.later.now) c.place_of.ensures.place
          ∙ ap (λ (xs : List ℕ). Substitution (Some found.word) (operations_of (drop c.place_of.result text)) ∷ pieces_of xs)
          (sym c.as_bytes.ensures.value ∙ later.ensures.place);
    }
