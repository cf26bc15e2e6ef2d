use Rattle.fru_area.proofs.UnitsLemmas.{unicode_text_all}
use Rattle.fru_area.proofs.text.write_unicode.Goals as goal

pub returns : goal.returns
returns c = unicode_text_all _ _ _ c.in_default.ensures c.loop-c.invariant.text
