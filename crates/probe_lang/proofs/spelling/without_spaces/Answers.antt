-- What is left after the spaces were cut off.
use Rattle.probe_lang.proofs.WordsLemmas.{trimmed_is}
use Rattle.probe_lang.proofs.spelling.without_spaces.Goals as goal

pub returns : goal.returns
returns c = trimmed_is c.args.text.now c.trim_matches.result.now c.trim_matches.ensures.matches
