-- Which calls of an object in memory are to fail.
use Rattle.std.specs.Prelude.{ℕ, Bool, List, ◌==◌}
use Rattle.std.specs.List.{list_any}
use Rattle.bmc_base.specs.Counts.{raised}

-- the numbers, from 0, of the calls that are to fail, and the number of the next call
pub record Schedule : Type 0 where
  pub fails : List ℕ
  pub next : ℕ

-- no call was made yet
abbrev pub begun : List ℕ → Schedule
begun fails = record { fails = fails; next = 0 }

-- whether the next call is to fail
abbrev pub fails_next : Schedule → Bool
fails_next schedule = list_any (λ call. call == schedule.next) schedule.fails

-- one more call
abbrev pub advanced : Schedule → Schedule
advanced schedule = record schedule { next = raised schedule.next 1 }
