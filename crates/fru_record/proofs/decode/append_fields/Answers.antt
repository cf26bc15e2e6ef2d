use Rattle.fru_record.proofs.RecordsLemmas.{Appends-fields}
use Rattle.fru_record.proofs.decode.append_fields.Goals as goal

pub returns : goal.returns
returns c = Appends-fields c.args.area c.args.bytes.now c.append_named.result _ _ _ c.in_ok-append_fixed.ensures c.append_named.ensures
