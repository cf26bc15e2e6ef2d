-- All boards are kept.
use Rattle.std.proofs.Common.{◌∙◌, ap}
use Rattle.bmc_watch.specs.Watches.{view_list}
use Rattle.bmc_watch.proofs.EventsLemmas.{if_ok_more, seen}
use Rattle.bmc_watch.proofs.ListedLemmas.{found_of, reach_of, boards_listed}
use Rattle.bmc_watch.proofs.watch.Watch.boards.Goals as goal

pub returns : goal.returns
returns g c =
    let shows = seen c.self.inside.shelf c.self.inside.rows.entries c.of-moment.result c.self.inside.set.rules c.self.inside.set.rows
    (c.of-moment.ensures.facts ∙ c.facts.ensures.current) c.self.invariant.rules c.self.invariant.rows
    (c.of-moment.ensures.entries ∙ c.busy.ensures.value) in
    if_ok_more _ _ c.list_boards.result
    (λ boards is. boards_listed c.self.inside.shelf c.self.inside.rows.entries c.self.inside.keep.kept c.self.invariant.stock.holds c.of-moment.result _
    shows is ∙ ap view_list c.self.view_is)
    (c.list_boards.ensures (found_of c.self.inside.shelf c.self.inside.rows.entries) (reach_of c.self.inside.shelf c.self.inside.rows.entries) shows.marked)
