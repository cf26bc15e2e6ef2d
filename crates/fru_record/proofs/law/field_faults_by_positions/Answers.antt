use Rattle.fru_area.specs.Positions.{HasFieldOutside, LacksEnd}
use Rattle.fru_area.specs.declared.fault.FruFault.TheVariants.{FieldOutside, NoEnd}
use Rattle.fru_area.proofs.PositionsLemmas.{outside_read, no_end_read, read-outside, read-no_end}
use Rattle.fru_record.proofs.FieldFaultsLemmas.{IsRule, breaks_record, record_breaks}
use Rattle.fru_record.proofs.law.field_faults_by_positions.Goals as goal

IsRule-outside : IsRule FieldOutside HasFieldOutside
IsRule-outside = record {
  broken = outside_read;
  named = read-outside;
  no_header = λ area h. h;
  no_place = λ area h. h;
  one_area = λ area other same. same;
}

IsRule-no_end : IsRule NoEnd LacksEnd
IsRule-no_end = record {
  broken = no_end_read;
  named = read-no_end;
  no_header = λ area h. h;
  no_place = λ area h. h;
  one_area = λ area other same. same;
}

pub returns-clause-outside : goal.returns-clause-outside
returns-clause-outside c =
    λ area bytes. (breaks_record FieldOutside HasFieldOutside IsRule-outside area bytes, record_breaks FieldOutside HasFieldOutside IsRule-outside area bytes)

pub returns-clause-no_end : goal.returns-clause-no_end
returns-clause-no_end c = λ area bytes. (breaks_record NoEnd LacksEnd IsRule-no_end area bytes, record_breaks NoEnd LacksEnd IsRule-no_end area bytes)
