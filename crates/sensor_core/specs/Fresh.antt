-- Until when a good reading is fresh, as the program keeps it: the last tick that a counter can hold at which it is not older than its timeout.
use Rattle.std.specs.Prelude.{◌≡◌, ℕ, ◌+◌, ◌==◌, ◌<◌, ◌≤◌, min, Bool, true, false, not, if◌then◌else◌, Option}
use Rattle.std.specs.Option.{ForSome, is_some}
use Rattle.bmc_base.specs.Counts.{last_count}

abbrev pub fresh_until : ℕ → ℕ → ℕ
fresh_until timeout tick = if timeout == 0 then last_count else min last_count (tick + timeout)

-- up to this tick something is not bad, and at the next one it is, if a counter can hold that one
pub record IsLastGood (bad : ℕ → Bool) (last : ℕ) : Type 0 where
  pub good : (tick : ℕ) → tick ≤ last → bad tick ≡ false
  pub ends : last < last_count → bad (last + 1) ≡ true

-- something is bad at a tick, or this is the last tick up to which it is not
pub record IsGoodFor (bad : ℕ → Bool) (now : ℕ) (until : Option ℕ) : Type 0 where
  pub some : is_some until ≡ not (bad now)
  pub last : ForSome until (IsLastGood bad)
