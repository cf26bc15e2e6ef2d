-- A sink in memory.
use Rattle.std.specs.Prelude.{ℕ, ◌-◌, ◌≡◌, List, ◌++◌, length, take, min, MatchBool, ◌==◌, ◌||◌, Result, Ok, Err}
use Rattle.bmc_base.specs.Calls.{Calls, with_failure, with_success}
use Rattle.bmc_io.specs.Schedule.{Schedule, fails_next, advanced}
use Rattle.bmc_io.specs.declared.fault.IoFault.{IoFault}

-- the bytes that were taken, how many a call takes at the most, the room in all, which calls are to fail, and the calls
-- so far
pub record MemoryOutput : Type 0 where
  pub taken : List ℕ
  pub piece : ℕ
  pub room : ℕ
  pub schedule : Schedule
  pub calls : Calls

-- how many of these bytes the next call takes
abbrev pub taken_len : MemoryOutput → List ℕ → ℕ
taken_len sink bytes = min sink.piece (min (length bytes) (sink.room - length sink.taken))

-- the next call fails, and all but the counts stays
pub record OutputFails (old new : MemoryOutput) (result : Result ℕ IoFault) : Type 0 where
  pub answer : result ≡ Err (record {})
  pub output : new ≡ record old { schedule = advanced old.schedule; calls = with_failure old.calls }

-- the next call takes bytes
pub record OutputTakes (old new : MemoryOutput) (result : Result ℕ IoFault) (bytes : List ℕ) : Type 0 where
  pub answer : result ≡ Ok (taken_len old bytes)
  pub output : new ≡ record old { taken = old.taken ++ take (taken_len old bytes) bytes; schedule = advanced old.schedule; calls = with_success old.calls }

-- one call: it fails exactly where its number is one of those that are to fail, or no room is left
abbrev pub OutputWrites : MemoryOutput → MemoryOutput → Result ℕ IoFault → List ℕ → Type 0
OutputWrites old new result bytes =
    MatchBool (fails_next old.schedule || old.room - length old.taken == 0)
    (OutputFails old new result)
    (OutputTakes old new result bytes)
