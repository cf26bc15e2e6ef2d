use Rattle.fru_record.proofs.BuildingLemmas.{built-read}
use Rattle.fru_record.proofs.law.built_is_read.Goals as goal

pub returns : goal.returns
returns c = λ parts names utf8 allowed. built-read parts utf8 allowed
