use Rattle.std.proofs.Common.{refl}
use lib.Utf8.{encode}
use Rattle.hex.proofs.OnLiterals.{hex_on_literals}
use Rattle.bmc_text.specs.Hex.{hex_decoded}
use Rattle.bmc_text.specs.Words.{digits, number}
use Rattle.bmc_script.specs.Commands.{place_named, plug_of, unplug_of, config_of, words_of, command_of}
use Rattle.bmc_script.proofs.examples.commands_of_lines.Goals as goal

pub returns : goal.returns
unfolding encode hex_on_literals hex_decoded digits number place_named plug_of unplug_of config_of words_of command_of
returns c = record {
  empty = refl;
  comment = refl;
  config_zeros = refl;
  plug = refl;
  unplug_zeros = refl;
  first_space = refl;
  tab = refl;
  upper_case = refl;
  longer_verb = refl;
  shorter_verb = refl;
  verb_alone = refl;
  verb_and_space = refl;
  no_address = refl;
  no_digits = refl;
  second_space = refl;
  last_space = refl;
  two_words_of_digits = refl;
  ten_digits = refl;
  config_ten_digits = refl;
  bus_256 = refl;
  address_128 = refl;
  one_digit = refl;
  no_digit = refl;
  words_before_range = refl;
  numerals_before_range = refl;
  space_before_range = refl;
  space_before_digits = refl;
  range_before_digits = refl;
}
