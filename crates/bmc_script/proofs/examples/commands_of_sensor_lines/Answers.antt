use Rattle.std.proofs.Common.{refl}
use Rattle.std.specs.Str.{chars, is_utf8}
use lib.Utf8.{encode}
use Rattle.bmc_text.specs.Words.{digits}
use Rattle.bmc_script.specs.Commands.{read_of, lose_of, show_of, words_of, command_of}
use Rattle.bmc_script.proofs.examples.commands_of_sensor_lines.Goals as goal

pub returns : goal.returns
unfolding encode chars is_utf8 digits read_of lose_of show_of words_of command_of
returns c = record {
  read = refl;
  read_zeros = refl;
  read_no_sign_of_zero = refl;
  read_longest = refl;
  read_to_last_space = refl;
  read_numbers = refl;
  read_alone = refl;
  read_no_name = refl;
  read_empty_name = refl;
  read_no_number = refl;
  read_plus = refl;
  read_two_signs = refl;
  read_19_digits = refl;
  read_return = refl;
  lose = refl;
  lose_spaces = refl;
  lose_64_bytes = refl;
  lose_65_bytes = refl;
  lose_no_name = refl;
  lose_two_bytes = refl;
  lose_half_a_character = refl;
  show_frus = refl;
  show_inventory = refl;
  show_sensors = refl;
  show_indexes = refl;
  show_other = refl;
  show_space = refl;
  show_nothing = refl;
}
