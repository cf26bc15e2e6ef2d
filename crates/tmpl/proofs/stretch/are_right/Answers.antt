-- At the end no piece is left.
use Rattle.std.proofs.Common.{sym, ap, ◌∙◌}
use Rattle.std.specs.List.{list_all}
use Rattle.tmpl.specs.Templates.{is_right}
use Rattle.tmpl.proofs.PiecesLemmas.{end_pieces}
use Rattle.tmpl.proofs.stretch.are_right.Goals as goal

pub returns : goal.returns
returns c = sym (ap (list_all is_right) (end_pieces c.loop-stretch.rest.now c.in_default.ensures)) ∙ c.loop-stretch.invariant.told
