-- There is no configuration more.
use Rattle.std.proofs.Common.{◌≡◌, ℕ, Bool, List, subst, append-nil}
use Rattle.std.specs.Prelude.{IfOk}
use Rattle.cfg_json.specs.Configs.{Config}
use Rattle.inventory.specs.Differences.{IsMarkedBy}
use Rattle.inventory.specs.Inventories.{kept_then, moment_keys}
use Rattle.inventory.specs.Lists.{board_list}
use Rattle.bmc_watch.proofs.listing.list_boards.Goals as goal

pub returns : goal.returns
returns g c = subst (λ (all : List Config). (found reach : ℕ → Bool) → IsMarkedBy c.args.moment.now.facts found reach
    → IfOk c.list_all.result (λ boards. boards.items
    ≡ board_list (kept_then c.args.keep.now.kept all found reach c.args.moment.now) (moment_keys all found reach c.args.moment.now)))
    (append-nil c.args.shelf.now) c.list_all.ensures
