-- Templates, one stretch at a time.
use Rattle.std.specs.Prelude.{ℕ, ◌≡◌, ◌<◌, ◌≤◌, nat_le, if◌then◌else◌, List, [], ◌∷◌, ◌++◌, length, take, drop, map, Option, Some, None, option_and_then}
use Rattle.std.specs.Option.{MatchOption}
use Rattle.bmc_base.specs.Names.{longest_name}
use Rattle.tmpl.specs.Operations.{operation_at, operations_of}
use Rattle.tmpl.specs.Templates.{Piece, Plain, Substitution, pieces_of}
use Rattle.tmpl.specs.declared.operation.Operation.{Operation}
use Rattle.tmpl.specs.declared.stretch.Stretch.{Stretch}
use Rattle.tmpl.specs.declared.stretch.Stretch.TheVariants as stretches

-- the pieces of a stretch
abbrev pub stretch_pieces : Stretch → List Piece
stretch_pieces (stretches.Plain text) = map Plain text.now
stretch_pieces (stretches.Substitution word behind) = Substitution word (operations_of behind.now) ∷ []

-- a text is what stands at the end of another
abbrev pub EndsText : List ℕ → List ℕ → Type 0
EndsText text rest = (n : ℕ) × (n ≤ length text) × (rest ≡ drop n text)

-- where a stretch at the front of a text, and what stands behind it, lie in the text
abbrev pub LiesIn : List ℕ → Stretch → List ℕ → Type 0
LiesIn text (stretches.Plain plain) rest =
    (plain.now ≡ take (length plain.now) text) × (length plain.now ≤ length text) × (rest ≡ drop (length plain.now) text)
LiesIn text (stretches.Substitution word behind) rest = EndsText text behind.now × EndsText text rest

-- a text begins with a stretch
abbrev pub BeginsWith : List ℕ → Stretch → List ℕ → Type 0
BeginsWith text stretch rest =
    (pieces_of text ≡ stretch_pieces stretch ++ pieces_of rest)
    × (0 < length (stretch_pieces stretch)) × (length rest < length text) × LiesIn text stretch rest

-- an operation is found at the front of a text, with this text behind it
abbrev pub FindsOperation : List ℕ → Operation → List ℕ → Type 0
FindsOperation text operation rest = (n : ℕ) × (operation_at text ≡ Some (operation, n)) × (0 < n) × (n ≤ length text) × (rest ≡ drop n text)

-- a text with another behind it, where both have room in a name
abbrev pub joined : List ℕ → Option (List ℕ) → Option (List ℕ)
joined front text = option_and_then (λ text. if nat_le (length (front ++ text)) longest_name then Some (front ++ text) else None) text

-- a text was put behind another, or was none, or had no room there
abbrev pub Joins : List ℕ → List ℕ → Option (List ℕ) → Option (Unit {0}) → Type 0
Joins old new text result = MatchOption result (joined old text ≡ None) (λ done. joined old text ≡ Some new)
