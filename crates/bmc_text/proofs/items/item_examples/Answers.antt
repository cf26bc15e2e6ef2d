use Rattle.std.proofs.Common.{refl}
use Rattle.bmc_text.specs.Items.{without_return, line_item, whole_block, whole_item, cut_most, cut}
use Rattle.bmc_text.specs.Words.{digits, number, block_size}
use Rattle.bmc_text.proofs.items.item_examples.Goals as goal

pub returns : goal.returns
unfolding without_return line_item whole_block whole_item cut_most cut digits number block_size
returns c =
    record {
      comment = refl;
      carriage_return = refl;
      block = refl;
      short = refl;
      last = refl;
      long = refl;
      leading_zeros = refl;
      ten_digits = refl;
      whole =
          refl;
      unfinished = refl;
    }
