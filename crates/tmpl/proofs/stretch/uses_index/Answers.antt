-- At the end no piece is left.
use Rattle.std.proofs.Common.{sym, ap, ◌∙◌}
use Rattle.std.specs.List.{list_any}
use Rattle.tmpl.specs.Templates.{asks_index, uses_index}
use Rattle.tmpl.proofs.PiecesLemmas.{end_pieces}
use Rattle.tmpl.proofs.stretch.uses_index.Goals as goal

pub returns : goal.returns
unfolding uses_index
returns c = sym (ap (list_any asks_index) (end_pieces c.loop-stretch.rest.now c.in_default.ensures)) ∙ c.loop-stretch.invariant.told
