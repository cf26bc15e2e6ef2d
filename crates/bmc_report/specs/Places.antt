-- The place of a FRU, as text.
use Rattle.std.specs.Prelude.{ℕ, List, ◌++◌, codes, decimal}
use Rattle.bmc_base.specs.Places.{Place}

-- its bus and its address
abbrev pub place_text : Place → List ℕ
place_text place = decimal place.bus ++ codes " " ++ decimal place.address
