use Rattle.std.proofs.Common.{List, append-nil, subst}
use Rattle.cfg_json.specs.Configs.{Config}
use Rattle.inventory.specs.Limits.{totals_after, GivesTotals}
use Rattle.bmc_watch.proofs.changes.count_boards.Goals as goal

pub returns : goal.returns
returns g c =
    subst (λ (configs : List Config). GivesTotals c.after.result
    (totals_after configs c.args.totals c.args.difference.now.gone_boards c.args.difference.now.new_boards)) (append-nil c.args.shelf.now) c.after.ensures
