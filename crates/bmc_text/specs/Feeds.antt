-- What is seen of a reader, and what a call reads of its source.
use Rattle.std.specs.Prelude.{ℕ, ◌≡◌, ◌+◌, ◌<◌, ◌≤◌, ◌^◌, Bool, true, List, ◌++◌, length}
use Rattle.std.specs.Io.KnownBytes.{Consumes}
use Rattle.bmc_io.specs.Sources.{Input}

-- the most bytes that are read of a source
abbrev pub longest_script : ℕ
longest_script = 2 ^ 40

-- the most bytes that wait, and so the most that are read at once
abbrev pub longest_piece : ℕ
longest_piece = 65536

-- Of a reader of lines: the line that was taken last, the bytes that wait, how many bytes were read in all, and whether
-- the source has given its end and nothing waits.
pub record Feed : Type 0 where
  pub line : List ℕ
  pub waiting : List ℕ
  pub read : ℕ
  pub ended : Bool

-- the same of a reader of items, and the block that was taken last
pub record ItemFeed : Type 0 where
  pub line : List ℕ
  pub block : List ℕ
  pub waiting : List ℕ
  pub read : ℕ
  pub ended : Bool

-- where so many bytes were read; a script that was read to its end has fewer than may be read
pub record IsWithin (read : ℕ) (ended : Bool) : Type 0 where
  pub limit : read ≤ longest_script
  pub at_end : ended ≡ true → read < longest_script

-- A piece of the source is read. `waiting` waited before it, `read` bytes were read in all before it and `read_now`
-- behind it, and the bytes that waited with the piece behind them are such.
pub record Reads (waiting : List ℕ) (read read_now : ℕ) (before now : Input) (Are : List ℕ → Type 0) : Type 0 where
  pub piece : List ℕ
  pub consumed : Consumes before.left now.left piece
  pub count : read_now ≡ read + length piece
  pub bytes : Are (waiting ++ piece)
