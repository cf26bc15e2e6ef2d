-- Files in memory.
use Rattle.std.specs.Prelude.{ℕ, ◌≡◌, Bool, nat_le, if◌then◌else◌, List, length, Option, Some, None, Result, Ok, Err, ⊤}
use Rattle.bmc_base.specs.Calls.{Calls}
use Rattle.bmc_io.specs.Files.{Folder}
use Rattle.bmc_io.specs.Schedule.{Schedule}
use Rattle.bmc_io.specs.declared.files.Whole.{Whole}
use Rattle.bmc_io.specs.declared.files.Whole.TheVariants.{Given, Longer}
use Rattle.bmc_io.specs.declared.files.FileFault.{FileFault}
use Rattle.bmc_io.specs.declared.files.FileFault.TheVariants.{Failed, OutOfMemory}

-- the names of the files with their bytes, which calls are to fail, the calls so far, and the names that were answered
-- Failed
pub record MemoryFolder : Type 0 where
  pub holds : List (List ℕ × List ℕ)
  pub schedule : Schedule
  pub calls : Calls
  pub failed_names : List (List ℕ)

-- what is seen of it as of any files
abbrev pub folder_of : MemoryFolder → Folder
folder_of files = record { holds = Some files.holds; calls = files.calls; failed_names = files.failed_names }

-- these bytes, or that they are more than `limit`
abbrev pub whole_of : List ℕ → ℕ → Whole
whole_of bytes limit = if nat_le (length bytes) limit then Given bytes else Longer

-- what is answered with ample memory: a call that is to fail and one for a file that is not there answer Failed
abbrev pub answer_of : Bool → Option (List ℕ) → ℕ → Result Whole FileFault
answer_of fails None limit = Err Failed
answer_of fails (Some bytes) limit = if fails then Err Failed else Ok (whole_of bytes limit)

-- that answer, or want of memory
abbrev pub AnswersExactly : Bool → Option (List ℕ) → ℕ → Result Whole FileFault → Type 0
AnswersExactly fails file limit (Ok whole) = answer_of fails file limit ≡ Ok whole
AnswersExactly fails file limit (Err Failed) = answer_of fails file limit ≡ Err Failed
AnswersExactly fails file limit (Err OutOfMemory) = ⊤
