-- A fixed text has no piece that is not right.
use Rattle.std.proofs.Common.{sym, ◌∙◌}
use Rattle.tmpl.specs.Templates.{is_fixed, pieces_of}
use Rattle.tmpl.proofs.PiecesLemmas.{plain_is_right}
use Rattle.tmpl.proofs.stretch.all_right.Goals as goal

pub returns-then-fixed : goal.returns-then-fixed
unfolding is_fixed
returns-then-fixed c = c.if-fixed.true ∙ sym (plain_is_right (pieces_of c.args.text.now) (sym c.requires ∙ c.if-fixed.true))
