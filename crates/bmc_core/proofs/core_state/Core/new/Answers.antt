-- Nothing has happened, and the log has no entries.
use Rattle.std.proofs.Common.{ap, refl}
use Rattle.event_log.specs.Stands.{LogView}
use Rattle.bmc_machine.specs.Histories.{Options}
use Rattle.bmc_core.proofs.BegunLemmas.{log_begun}
use Rattle.bmc_core.proofs.core_state.Core.new.Goals as goal

pub returns : goal.returns
returns g c =
    let options : Options = record { strict = c.args.strict; log_cap = c.args.log_cap } in
    record {
      state = c.in_ok-state.ensures options refl;
      log = log_begun options c.in_ok-log.log c.in_ok-log.ensures.stands (ap (λ (log : LogView). log.error_cap) c.in_ok-log.ensures.empty)
          c.requires.low;
    }
