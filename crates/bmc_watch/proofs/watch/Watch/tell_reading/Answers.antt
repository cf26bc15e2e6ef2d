use Rattle.std.proofs.Common.{rules}
use Rattle.bmc_watch.proofs.ReadingsLemmas.{none_told}
use Rattle.bmc_watch.proofs.watch.Watch.tell_reading.Goals as goal

pub returns-else-not-is_of : goal.returns-else-not-is_of
returns-else-not-is_of g c =
    λ sensor shows.
    let same = c.is_of.ensures (search rules) in
    let none = none_told c.args.name.now c.args.before.now sensor c.args.after.now shows same in
    search (rules, none)
