use Rattle.std.proofs.Common.{sym}
use Rattle.tmpl.proofs.PiecesLemmas.{plain_plain}
use Rattle.tmpl.proofs.stretch.Stretch.is_plain.Goals as goal

pub returns-in-Plain : goal.returns-in-Plain
returns-in-Plain c = rw c.in-Plain.is (sym (plain_plain c.in-Plain.field-0.now))
