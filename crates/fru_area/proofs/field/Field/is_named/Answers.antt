use Rattle.std.proofs.Common.{◌<◌, ◌^◌, arith}
use Rattle.fru_area.specs.Names.{number_of}
use Rattle.fru_area.proofs.NamesLemmas.{same_name-same_text}
use Rattle.fru_area.proofs.field.Field.is_named.Goals as goal

pub returns-clause-text : goal.returns-clause-text
returns-clause-text c =
    let small : number_of c.args.name < 2 ^ 16 = omega (arith, c.number-number.ensures.exact, c.number-number.ensures.range) in
    same_name-same_text c.is.result c.args.self.now.name c.args.name small c.is.ensures
