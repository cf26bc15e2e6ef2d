-- A source in memory.
use Rattle.std.specs.Prelude.{ℕ, ◌-◌, ◌≡◌, List, length, take, drop, min, slice_get, unwrap_or, MatchBool, Result, Ok, Err}
use Rattle.bmc_base.specs.Calls.{Calls, with_failure, with_success}
use Rattle.bmc_io.specs.Schedule.{Schedule, fails_next, advanced}
use Rattle.bmc_io.specs.declared.fault.IoFault.{IoFault}

-- the bytes that are left, the sizes of the answers, which calls are to fail, and the calls so far
pub record MemoryInput : Type 0 where
  pub left : List ℕ
  pub pieces : List ℕ
  pub schedule : Schedule
  pub calls : Calls

-- the size of the answer to the call with this number: the last size stands for all that follow, and with no sizes
-- an answer is as large as there is room for
abbrev pub piece_size : List ℕ → ℕ → ℕ → ℕ
piece_size pieces call room = unwrap_or (slice_get pieces (min call (length pieces - 1))) room

-- how many bytes the next call gives into this much room
abbrev pub given_len : MemoryInput → ℕ → ℕ
given_len source room = min (piece_size source.pieces source.schedule.next room) (min room (length source.left))

-- the next call fails, and all but the counts stays
pub record InputFails (old new : MemoryInput) (result : Result ℕ IoFault) (buf_old buf_new : List ℕ) : Type 0 where
  pub answer : result ≡ Err (record {})
  pub buffer : buf_new ≡ buf_old
  pub input : new ≡ record old { schedule = advanced old.schedule; calls = with_failure old.calls }

-- the next call gives the next bytes
pub record InputGives (old new : MemoryInput) (result : Result ℕ IoFault) (buf_old buf_new : List ℕ) : Type 0 where
  pub answer : result ≡ Ok (given_len old (length buf_old))
  pub buffer : take (given_len old (length buf_old)) buf_new ≡ take (given_len old (length buf_old)) old.left
  pub input : new ≡ record old { left = drop (given_len old (length buf_old)) old.left; schedule = advanced old.schedule; calls = with_success old.calls }

-- one call: it fails exactly where its number is one of those that are to fail
abbrev pub InputReads : MemoryInput → MemoryInput → Result ℕ IoFault → List ℕ → List ℕ → Type 0
InputReads old new result buf_old buf_new =
    MatchBool (fails_next old.schedule)
    (InputFails old new result buf_old buf_new)
    (InputGives old new result buf_old buf_new)
