use Rattle.fru_area.proofs.WalksLemmas.{Spells-raw_fields, raw_fields-Spells, Spells-one}
use Rattle.fru_area.proofs.law.one_reading.Goals as goal

pub returns : goal.returns
returns c = record {
  spelled = λ area bytes start raws. (Spells-raw_fields area bytes start raws, raw_fields-Spells area bytes start raws);
  one = Spells-one;
}
