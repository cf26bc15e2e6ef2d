-- How a run stops where it wants the next item.
use Rattle.std.specs.Prelude.{ℕ, ◌≡◌, ◌<◌, ⊤, List, []}
use Rattle.bmc_io.specs.Told.{added}
use Rattle.bmc_io.specs.Sinks.{AppendsFront}
use Rattle.bmc_io.specs.declared.files.FileFault.{FileFault}
use Rattle.bmc_io.specs.declared.files.FileFault.TheVariants as faults
use Rattle.bmc_text.specs.Feeds.{ItemFeed, Reads, longest_script}
use Rattle.bmc_text.specs.Items.{whole_items}
use Rattle.bmc_run.specs.Outside.{Outside}
use Rattle.bmc_run.specs.declared.stop.Stop.{Stop}
use Rattle.bmc_run.specs.declared.stop.Stop.TheVariants.{OutOfMemory, ReadFault, WriteFault, TooLong}

-- a file is not read
abbrev pub stop_of_file : FileFault → Stop
stop_of_file faults.Failed = ReadFault
stop_of_file faults.OutOfMemory = OutOfMemory

-- all that was gathered was written, and then the source gave no whole item, so many bytes having been read in all
pub record GetsNothing (old new : ItemFeed) (before now : Outside) (text : List ℕ) (IsCount : ℕ → Type 0) : Type 0 where
  pub reading : Reads old.waiting old.read new.read before.input now.input (λ bytes. whole_items bytes ≡ [])
  pub count : IsCount new.read
  pub writing : now.output.taken ≡ added before.output.taken text

-- a front of what was gathered was written, and some bytes were read
pub record StopsShort (old new : ItemFeed) (before now : Outside) (text : List ℕ) : Type 0 where
  pub reading : Reads old.waiting old.read new.read before.input now.input (λ bytes. ⊤)
  pub writing : AppendsFront before.output.taken now.output.taken text

-- no item came, for this reason
abbrev pub StopsAt : Stop → ItemFeed → ItemFeed → Outside → Outside → List ℕ → Type 0
StopsAt OutOfMemory old new before now text = StopsShort old new before now text
StopsAt ReadFault old new before now text = GetsNothing old new before now text (λ count. count < longest_script)
StopsAt WriteFault old new before now text = StopsShort old new before now text
StopsAt TooLong old new before now text = GetsNothing old new before now text (λ count. count ≡ longest_script)
