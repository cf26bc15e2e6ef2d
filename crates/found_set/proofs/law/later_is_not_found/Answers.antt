-- The number of the name is past the marks.
use Rattle.std.proofs.Common.{◌∙◌, ℕ, false, Option, ap}
use Rattle.std.proofs.lemmas.List.{get_or_past}
use Rattle.found_set.specs.Named.{mark_of}
use Rattle.found_set.proofs.law.later_is_not_found.Goals as goal

pub returns : goal.returns
returns c = λ rules before name number at past. ap (λ (o : Option ℕ). mark_of o before) at ∙ get_or_past before number false past
