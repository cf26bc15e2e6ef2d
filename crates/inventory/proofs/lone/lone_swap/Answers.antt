use Rattle.inventory.proofs.LoneLemmas.{comes_among, goes_among, alike_back}
use Rattle.inventory.proofs.lone.lone_swap.Goals as goal

pub swap_among-requires-clause-among : goal.swap_among-requires-clause-among
swap_among-requires-clause-among c =
    comes_among c.args.entry.now c.args.before.now.entries c.args.after.now.entries c.len.result c.len-2.result c.requires.apart c.len.ensures
    c.len-2.ensures c.if-len.true

pub swap_among-back-requires-clause-among : goal.swap_among-back-requires-clause-among
swap_among-back-requires-clause-among c =
    goes_among c.args.entry.now c.args.before.now.entries c.args.after.now.entries c.len.result c.len-2.result c.requires.apart c.len.ensures
    c.len-2.ensures c.if-len.false

pub swap_among-back-requires-clause-alike : goal.swap_among-back-requires-clause-alike
swap_among-back-requires-clause-alike c =
    alike_back c.args.entry.now c.args.before.now c.args.after.now (swap_among-back-requires-clause-among c) c.requires.alike

pub returns-clause-gone : goal.returns-clause-gone
returns-clause-gone c =
    λ reach reach_after marked marked_after. c.swap_among-back.ensures.new reach_after reach marked_after marked

pub returns-clause-new : goal.returns-clause-new
returns-clause-new c =
    λ reach reach_after marked marked_after. c.swap_among-back.ensures.gone reach_after reach marked_after marked
