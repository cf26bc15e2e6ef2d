use Rattle.std.proofs.Common.{◌≡◌, ◌++◌, List, Option, subst}
use Rattle.std.specs.Prelude.{OnOk}
use Rattle.bmc_base.specs.Places.{Place}
use Rattle.inventory.specs.Moments.{entries_of, hits_in}
use Rattle.inventory.proofs.compare.list_among.Goals as goal

pub returns-clause-hits : goal.returns-clause-hits
returns-clause-hits c =
    λ reach marked.
    subst (λ (start : List (Option Place)). OnOk c.push_hits_among.result (c.push_hits_among.new.places.items
    ≡ start ++ hits_in reach (entries_of c.args.entries.now) c.args.number)) c.clear.ensures.items (c.push_hits_among.ensures.hits reach marked)
