use Rattle.event_log.proofs.LawsLemmas.{are_by_id}
use Rattle.event_log.proofs.law.entries_are_by_id.Goals as goal

pub returns : goal.returns
returns c = are_by_id
