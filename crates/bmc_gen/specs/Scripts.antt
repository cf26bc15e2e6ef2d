-- Sample scripts.
use Rattle.std.specs.Prelude.{ℕ, zero, suc, List, [], ◌∷◌, ◌++◌, codes}
use Rattle.std.specs.List.{flat_map}
use Rattle.bmc_gen.specs.declared.line.Line.{Line}
use Rattle.bmc_gen.specs.Documents.{riser, fan_box, config_text}
use Rattle.bmc_gen.specs.Lines.{line_text, line_of}
use Rattle.bmc_gen.specs.Numbers.{choice}

-- the most lines that a seed chooses
abbrev pub most_lines : ℕ
most_lines = 100000

-- the first lines that a seed chooses
abbrev pub lines : ℕ → ℕ → List Line
lines seed zero = []
lines seed (suc i) = lines seed i ++ line_of (lines seed i) (suc i) (choice seed (suc i)) ∷ []

-- two configurations, the lines, and a list of the zones
abbrev pub script_of : ℕ → ℕ → List ℕ
script_of seed n = config_text riser ++ config_text fan_box ++ flat_map line_text (lines seed n) ++ codes "show zones\n"
