use Rattle.fru_record.proofs.SpellingsLemmas.{record-spelled, spelled-record, spelled-one}
use Rattle.fru_record.proofs.law.one_record.Goals as goal

pub returns-clause-spelled : goal.returns-clause-spelled
returns-clause-spelled c = λ bytes fields. (record-spelled bytes fields, spelled-record bytes fields)

pub returns-clause-one : goal.returns-clause-one
returns-clause-one c = spelled-one
