use Rattle.clap.specs.Words.{found_of}
use Rattle.bmc_words.proofs.ReadLemmas.{number_read}
use Rattle.bmc_words.proofs.settings.number_of.Goals as goal

pub returns : goal.returns
returns c =
    number_read (found_of c.args.matches.now) c.args.option.now c.get_one.result c.get_one.ensures.none c.get_one.ensures.value c.requires
