-- Text that is gathered before it is written.
use Rattle.std.specs.Prelude.{ℕ, ◌≡◌, ◌++◌, List}
use Rattle.bmc_io.specs.Told.{Told, added}

-- as much text is written before more is gathered
abbrev pub most_gathered : ℕ
most_gathered = 65536

-- More text was added to what was gathered, and a front of it all was written; the rest is gathered still.
pub record Gathers (taken taken_now : Told) (text text_now more : List ℕ) : Type 0 where
  pub written : List ℕ
  pub told : taken_now ≡ added taken written
  pub parts : written ++ text_now ≡ text ++ more

-- this much text was printed: part of it is written, and the rest is gathered
pub record Printed (old now : Told) (text total : List ℕ) : Type 0 where
  pub written : List ℕ
  pub told : now ≡ added old written
  pub parts : written ++ text ≡ total
