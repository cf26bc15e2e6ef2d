-- Values that may be missing, as text.
use Rattle.std.specs.Prelude.{ℕ, List, codes, Option, Some, None}
use Rattle.bmc_base.specs.Milli.{milli_text}
use Rattle.bmc_base.specs.declared.milli.Milli.{Milli}

-- a value in thousandths, or the word none
abbrev pub value_text : Option Milli → List ℕ
value_text None = codes "none"
value_text (Some value) = milli_text value.0
