use Rattle.std.proofs.Common.{sym}
use Rattle.tmpl.proofs.PiecesLemmas.{plain_asks_none}
use Rattle.tmpl.proofs.stretch.Stretch.asks_index.Goals as goal

pub returns-in-Plain : goal.returns-in-Plain
returns-in-Plain c = rw c.in-Plain.is (sym (plain_asks_none c.in-Plain.field-0.now))
