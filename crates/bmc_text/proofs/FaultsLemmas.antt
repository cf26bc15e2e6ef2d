-- Faults behind calls that did not fail.
use Rattle.std.proofs.Common.{◌≡◌, ℕ, ap, ◌∙◌}
use Rattle.bmc_base.specs.Counts.{raised}
use Rattle.bmc_base.specs.Calls.{Calls}
use Rattle.bmc_text.specs.Faults.{HasFault}
use Rattle.bmc_text.specs.declared.lines.LineFault.{LineFault}
use Rattle.bmc_text.specs.declared.lines.LineFault.TheVariants.{ReadFault, Spent, OutOfMemory}

pub HasFault-after : (fault : LineFault) (read : ℕ) (before between now : Calls) → between.faults ≡ before.faults → HasFault fault read between now
    → HasFault fault read before now
HasFault-after ReadFault read before between now none has = (record { count = has.0.count ∙ ap (λ count. raised count 1) none; last = has.0.last }, has.1)
HasFault-after Spent read before between now none has = (has.0 ∙ none, has.1)
HasFault-after OutOfMemory read before between now none has = has ∙ none
