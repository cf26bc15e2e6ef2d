-- The lines of a sample script, one on.
use Rattle.std.proofs.Common.{◌≡◌, ℕ, ◌+◌, ◌/◌, Bool, List, [], ◌∷◌, ◌++◌, refl, ap, add-one, ◌∙◌}
use Rattle.std.proofs.lemmas.List.{flat_map_more}
use Rattle.std.specs.List.{flat_map}
use Rattle.bmc_gen.specs.declared.line.Line.{Line}
use Rattle.bmc_gen.specs.Lines.{line_text, line_of}
use Rattle.bmc_gen.specs.Marks.{marks_of, Follows}
use Rattle.bmc_gen.specs.Numbers.{next_number, number, choice}
use Rattle.bmc_gen.specs.Scripts.{lines}

number_more : (seed i : ℕ) → next_number (number seed i) ≡ number seed (i + 1)
number_more seed i = rw add-one refl

lines_more : (seed i : ℕ) → lines seed i ++ line_of (lines seed i) (i + 1) (choice seed (i + 1)) ∷ [] ≡ lines seed (i + 1)
lines_more seed i = rw add-one refl

pub next_is : (seed i x y : ℕ) → x ≡ number seed i → y ≡ next_number x → y ≡ number seed (i + 1)
next_is seed i x y at next = next ∙ ap next_number at ∙ number_more seed i

-- a line that follows the earlier ones is the next one of the script
pub line_more : (seed i y : ℕ) (old new : List Bool) (line : Line) → y ≡ number seed (i + 1) → old ≡ marks_of (lines seed i)
    → Follows old new (i + 1) (y / 65536) line → lines seed i ++ line ∷ [] ≡ lines seed (i + 1)
line_more seed i y old new line at marks follows =
    ap (λ (line : Line). lines seed i ++ line ∷ []) (follows.next (lines seed i) marks)
    ∙ ap (λ (y : ℕ). lines seed i ++ line_of (lines seed i) (i + 1) (y / 65536) ∷ []) at
    ∙ lines_more seed i

-- and so are its marks
pub marks_more : (seed i y : ℕ) (old new : List Bool) (line : Line) → y ≡ number seed (i + 1) → old ≡ marks_of (lines seed i)
    → Follows old new (i + 1) (y / 65536) line → new ≡ marks_of (lines seed (i + 1))
marks_more seed i y old new line at marks follows =
    follows.marks (lines seed i) marks ∙ ap marks_of (line_more seed i y old new line at marks follows)

-- and its text
pub text_more : (seed i y : ℕ) (old new : List Bool) (line : Line) (before now more : List ℕ) → y ≡ number seed (i + 1)
    → old ≡ marks_of (lines seed i)
    → Follows old new (i + 1) (y / 65536) line → now ≡ before ++ flat_map line_text (lines seed i) → more ≡ now ++ line_text line
    → more ≡ before ++ flat_map line_text (lines seed (i + 1))
text_more seed i y old new line before now more at marks follows text is =
    is
    ∙ ap (λ (now : List ℕ). now ++ line_text line) text
    ∙ flat_map_more line_text before (lines seed i) line
    ∙ ap (λ (all : List Line). before ++ flat_map line_text all) (line_more seed i y old new line at marks follows)
