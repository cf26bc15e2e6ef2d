use Rattle.tmpl.proofs.WordsLemmas.{field_is}
use Rattle.tmpl.proofs.word.read_field.Goals as goal

pub returns : goal.returns
returns c = field_is c.one_name.ensures c.args.text.now c.read.result c.read.ensures.found c.read.ensures.none
