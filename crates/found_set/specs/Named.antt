-- Configurations by name.
use Rattle.std.specs.Prelude.{ℕ, ◌≡◌, ◌≤◌, ◌+◌, Bool, false, List, ◌++◌, length, Option, Some, None}
use Rattle.found_set.specs.Marks.{is_marked}

-- names, and room for so many more
pub record NamesView : Type 0 where
  pub names : List (List ℕ)
  pub spare : ℕ

-- the mark of a number, if there is one
abbrev pub mark_of : Option ℕ → List Bool → Bool
mark_of None marks = false
mark_of (Some number) marks = is_marked marks number

-- these are the names in order, but for the last at most
pub record AreNames (names all : List (List ℕ)) : Type 0 where
  pub rest : List (List ℕ)
  pub in_order : names ++ rest ≡ all
  pub most : length all ≤ length names + 1
