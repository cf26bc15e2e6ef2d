-- The boxes of the bank, each by its number from 0 on.
use Rattle.std.specs.Prelude.{ℕ, ℤ, List, Option, map, slice_index_or}
use Rattle.ctl_face.specs.declared.kind.Kind.{Kind}
use Rattle.ctl_face.specs.declared.kind.Kind.TheVariants.{Pid}
use Rattle.ctl_face.specs.Seen.{Seen, unloaded}

-- the box with a number; behind the last one any box will do
abbrev pub box_at : List Seen → ℕ → Seen
box_at bank number = slice_index_or bank number (unloaded Pid)

-- the kinds of boxes
abbrev pub kinds_of : List Seen → List Kind
kinds_of bank = map (λ (seen : Seen). seen.kind) bank

-- the last output of a box
abbrev pub output_in : Seen → Option ℤ
output_in seen = seen.state.output

-- the last outputs of boxes
abbrev pub outputs_of : List Seen → List (Option ℤ)
outputs_of bank = map output_in bank
