use Rattle.fru_area.proofs.NamesLemmas.{or_found, or_none, IfNone_names}
use Rattle.fru_area.proofs.name.FieldName.read.Goals as goal

pub returns-clause-found : goal.returns-clause-found
returns-clause-found c =
    or_found _ c.or-2.result c.read_custom-3.result c.or-3.result c.or-3.ensures
    (or_found _ c.or.result c.read_custom-2.result c.or-2.result c.or-2.ensures
    (or_found _ c.read_fixed.result c.read_custom.result c.or.result c.or.ensures c.read_fixed.ensures.found c.read_custom.ensures.found)
    c.read_custom-2.ensures.found)
    c.read_custom-3.ensures.found

pub returns-clause-none : goal.returns-clause-none
returns-clause-none c =
    let one = or_none _ _ c.read_fixed.result c.read_custom.result c.or.result c.or.ensures c.read_fixed.ensures.none c.read_custom.ensures.none in
    let two = or_none _ _ c.or.result c.read_custom-2.result c.or-2.result c.or-2.ensures one c.read_custom-2.ensures.none in
    IfNone_names c.or-3.result c.args.text.now (or_none _ _ c.or-2.result c.read_custom-3.result c.or-3.result c.or-3.ensures two c.read_custom-3.ensures.none)
