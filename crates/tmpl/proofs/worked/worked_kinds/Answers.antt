use Rattle.std.proofs.Common.{refl}
use Rattle.tmpl.specs.Chains.{chain_behind}
use Rattle.tmpl.specs.Operations.{digits, operation_at}
use Rattle.tmpl.specs.Words.{word_of}
use Rattle.tmpl.specs.Templates.{piece_at, pieces_of, is_fixed, is_single, uses_index}
use Rattle.tmpl.proofs.worked.worked_kinds.Goals as goal

pub returns : goal.returns
unfolding chain_behind digits operation_at word_of piece_at pieces_of is_fixed is_single uses_index
returns c = record {
  fixed = refl;
  not_fixed = refl;
  single = refl;
  not_single = refl;
  index = refl;
  no_index = refl;
}
