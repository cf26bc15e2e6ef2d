use Rattle.fru_record.specs.Records.{record_of}
use Rattle.fru_record.proofs.RecordsLemmas.{record_of-rule, checked-rule}
use Rattle.fru_record.proofs.law.faults_name_rules.Goals as goal

pub returns-clause-read : goal.returns-clause-read
returns-clause-read c = record_of-rule

pub returns-clause-checked : goal.returns-clause-checked
returns-clause-checked c = λ bytes. checked-rule (record_of bytes) (record_of-rule bytes)
