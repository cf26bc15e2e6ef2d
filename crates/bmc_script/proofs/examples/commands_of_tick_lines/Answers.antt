use Rattle.std.proofs.Common.{refl}
use lib.Utf8.{encode}
use Rattle.bmc_text.specs.Words.{digits, number}
use Rattle.bmc_script.specs.Commands.{ticks_of, show_of, words_of, command_of}
use Rattle.bmc_script.proofs.examples.commands_of_tick_lines.Goals as goal

pub returns : goal.returns
unfolding encode digits number ticks_of show_of words_of command_of
returns c = record {
  least = refl;
  greatest = refl;
  nine_digits = refl;
  zero = refl;
  zero_in_nine_digits = refl;
  one_too_many = refl;
  most_digits = refl;
  ten_digits = refl;
  alone = refl;
  no_number = refl;
  sign = refl;
  two_numbers = refl;
  no_digit = refl;
  form_before_limit = refl;
  first_space = refl;
  upper_case = refl;
  longer_verb = refl;
  show_zones = refl;
  show_log = refl;
  show_logs = refl;
  show_zones_space = refl;
  show_zone = refl;
}
