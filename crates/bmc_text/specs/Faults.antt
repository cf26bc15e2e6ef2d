-- Why nothing comes of a source.
use Rattle.std.specs.Prelude.{ℕ, ◌≡◌, ◌<◌, Result, MatchResult}
use Rattle.bmc_base.specs.Calls.{Calls, Fails}
use Rattle.bmc_text.specs.Feeds.{longest_script}
use Rattle.bmc_text.specs.declared.lines.LineFault.{LineFault}
use Rattle.bmc_text.specs.declared.lines.LineFault.TheVariants.{ReadFault, Spent, OutOfMemory}

-- `ReadFault` comes exactly where a call of the source failed, which was the last one, before all the bytes that may be
-- read were read. `Spent` comes exactly where a read is wanted and that many bytes were read.
abbrev pub HasFault : LineFault → ℕ → Calls → Calls → Type 0
HasFault ReadFault read before now = Fails before now × (read < longest_script)
HasFault Spent read before now = (now.faults ≡ before.faults) × (read ≡ longest_script)
HasFault OutOfMemory read before now = now.faults ≡ before.faults

-- the same where nothing comes, and where something does no call of the source failed
abbrev pub HasReadCause : {T : Type 0} → Result T LineFault → ℕ → Calls → Calls → Type 0
HasReadCause result read before now = MatchResult result (λ _. now.faults ≡ before.faults) (λ fault. HasFault fault read before now)
