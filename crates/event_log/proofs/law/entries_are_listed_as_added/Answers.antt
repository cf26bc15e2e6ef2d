use Rattle.event_log.proofs.LawsLemmas.{listed_as_added}
use Rattle.event_log.proofs.law.entries_are_listed_as_added.Goals as goal

pub returns : goal.returns
returns c = listed_as_added
