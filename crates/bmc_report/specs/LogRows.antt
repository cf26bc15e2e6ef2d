-- The rows of the log.
use Rattle.std.specs.Prelude.{ℕ, Bool, true, false, List, ◌++◌, codes, decimal}
use Rattle.bmc_report.specs.Changes.{change_line}
use Rattle.bmc_report.specs.declared.change.Change.{Change}

-- whether an entry is an error or an info
abbrev pub class_text : Bool → List ℕ
class_text true = codes "error"
class_text false = codes "info"

-- the row of an entry: its id, its class, and its change at its tick
abbrev pub log_row : ℕ → Bool → ℕ → Change → List ℕ
log_row id error tick change = codes "log " ++ decimal id ++ codes " " ++ class_text error ++ codes " " ++ change_line tick change
