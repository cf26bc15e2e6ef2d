use Rattle.event_log.proofs.KeptLemmas.{latest_kept}
use Rattle.event_log.proofs.law.latest_are_kept.Goals as goal

pub returns : goal.returns
returns c = latest_kept
