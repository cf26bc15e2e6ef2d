use Rattle.match_rows.proofs.MatchingLemmas.{entry_sight_is}
use Rattle.match_rows.proofs.law.entry_shows_record.Goals as goal

pub returns : goal.returns
returns c = entry_sight_is
