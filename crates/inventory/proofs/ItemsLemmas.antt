-- The items of boards.
use Rattle.std.proofs.Common.{◌≡◌, ◌∙◌, ℕ, suc, ◌+◌, ◌<◌, ◌≤◌, Bool, true, false, cond, nat_le, List, ◌∷◌, ◌++◌, length, drop, get_or, Option, Some, None}
use Rattle.std.proofs.Common.{option_and_then, refl, sym, ap, arith, append_assoc}
use Rattle.std.proofs.Math.Seq.{drop-cons}
use Rattle.std.proofs.lemmas.Bool.Decides.{nat_tests}
use Rattle.std.proofs.lemmas.List.{append-nil, at_drop_all}
use Rattle.bmc_base.specs.Places.{Place}
use Rattle.fru_area.specs.declared.field.Field.{Field}
use Rattle.tmpl.specs.Operations.{up_to, digits}
use Rattle.tmpl.specs.Rendering.{rendered, rendered_number, number_digits}
use Rattle.cfg_json.specs.Configs.{Config}
use Rattle.cfg_json.specs.declared.item.Item.{Item}
use Rattle.inventory.specs.declared.board.Board.{Board}
use Rattle.inventory.specs.Items.{board_items, items}

-- a rendered number is at most the maximum
pub number_within : (place : Option Place) (fields : Option (List Field)) (index : ℕ) (text : List ℕ) (max n : ℕ)
    → Some n ≡ rendered_number place fields index text max → n ≤ max
unfolding rendered_number
number_within place fields index text max n is = by (option_and_then (digits number_digits) (rendered place fields index text)) is
  where
    within : (number : ℕ) (fits : Bool) → nat_le number max ≡ fits → Some n ≡ cond fits (Some number) None → n ≤ max
    within number true fits is = let same : n ≡ number = cc in grind (arith, nat_tests)
    within number false fits is = absurd (cc)

    by : (number : Option ℕ) → Some n ≡ option_and_then (up_to max) number → n ≤ max
    by None is = absurd (cc)
    by (Some number) is = within number (nat_le number max) refl is

module _ (configs : List Config) (fields_at : Place → Option (List Field)) (boards : List Board) (i : ℕ) (so_far : List Item)
    (earlier : so_far ++ items configs fields_at (drop i boards) ≡ items configs fields_at boards) where
  -- the items of one board more
  pub items_more : (board : Board) (now : List Item) → i < length boards → board ≡ get_or boards i board
      → now ≡ so_far ++ board_items configs fields_at board → now ++ items configs fields_at (drop (i + 1) boards) ≡ items configs fields_at boards
  unfolding items
  items_more board now within is e =
      let next : i + 1 ≡ suc i = omega arith in
      ap (λ (n : ℕ). now ++ items configs fields_at (drop n boards)) next
      ∙ ap (λ (front : List Item). front ++ items configs fields_at (drop (suc i) boards)) e
      ∙ append_assoc so_far (board_items configs fields_at board) (items configs fields_at (drop (suc i) boards))
      ∙ ap (λ (rest : List Board). so_far ++ items configs fields_at rest)
      (ap (λ (first : Board). first ∷ drop (suc i) boards) is ∙ sym (drop-cons boards i board within))
      ∙ earlier

  -- behind the last there are no more
  pub items_all : length boards ≤ i → so_far ≡ items configs fields_at boards
  unfolding items
  items_all past =
      sym (append-nil so_far) ∙ ap (λ (rest : List Item). so_far ++ rest) (sym (at_drop_all (items configs fields_at) boards i past)) ∙ earlier
