use Rattle.std.proofs.Common.{Bool, sym, subst}
use Rattle.std.specs.Prelude.{OnOk}
use Rattle.inventory.specs.Moments.{PushesLeft}
use Rattle.inventory.proofs.compare.push_config.Goals as goal

pub returns-in-Several-clause-gone : goal.returns-in-Several-clause-gone
returns-in-Several-clause-gone c =
    subst (λ (match_one : Bool). OnOk c.push_among.result (PushesLeft c.args.number match_one c.args.before.now c.args.after.now
    c.args.comparison.now.difference.gone_boards c.push_among.new.comparison.difference.gone_boards))
    (sym c.if-not-match_one.true) c.push_among.ensures.gone

pub returns-in-Several-clause-come : goal.returns-in-Several-clause-come
returns-in-Several-clause-come c =
    subst (λ (match_one : Bool). OnOk c.push_among.result (PushesLeft c.args.number match_one c.args.after.now c.args.before.now
    c.args.comparison.now.difference.new_boards c.push_among.new.comparison.difference.new_boards))
    (sym c.if-not-match_one.true) c.push_among.ensures.come
