-- Marks of the four places of a sample script.
use Rattle.std.specs.Prelude.{◌≡◌, ℕ, Bool, false, slice_index_or, List, [], ◌∷◌, ◌++◌, map}
use Rattle.bmc_gen.specs.declared.line.Line.{Line}
use Rattle.bmc_gen.specs.Lines.{is_occupied, line_of}

-- for each of the four addresses, whether these lines leave a FRU there
abbrev pub marks_of : List Line → List Bool
marks_of earlier = map (is_occupied earlier) (80 ∷ 81 ∷ 82 ∷ 83 ∷ [])

-- the mark of one of them, from 0
abbrev pub mark_at : List Bool → ℕ → Bool
mark_at marks nth = slice_index_or marks nth false

-- if the old marks are those of the earlier lines, the line is the next one, and the new marks are those of all these lines
pub record Follows (old new : List Bool) (position choice : ℕ) (line : Line) : Type 0 where
  pub next : (earlier : List Line) → old ≡ marks_of earlier → line ≡ line_of earlier position choice
  pub marks : (earlier : List Line) → old ≡ marks_of earlier → new ≡ marks_of (earlier ++ line ∷ [])
