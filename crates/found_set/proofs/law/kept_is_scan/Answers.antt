use Rattle.found_set.proofs.LawsLemmas.{kept_scan}
use Rattle.found_set.proofs.law.kept_is_scan.Goals as goal

pub returns : goal.returns
returns c = kept_scan
