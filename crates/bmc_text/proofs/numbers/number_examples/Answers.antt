use Rattle.std.proofs.Common.{refl}
use Rattle.bmc_text.specs.Words.{digits, number}
use Rattle.bmc_text.proofs.numbers.number_examples.Goals as goal

pub returns : goal.returns
unfolding digits number
returns c = record {
  leading_zeros = refl;
  ten_digits = refl;
  raw_reading = refl;
  raw_longest = refl;
  raw_too_long = refl;
  raw_none = refl;
  whole = refl;
  tenths = refl;
  thousandths = refl;
  too_fine = refl;
  no_fraction = refl;
  no_whole = refl;
}
