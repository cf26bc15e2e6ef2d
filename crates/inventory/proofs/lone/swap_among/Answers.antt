use Rattle.std.proofs.Common.{◌∙◌, List, sym, ap, slice_get}
use Rattle.bmc_base.specs.Places.{Place}
use Rattle.inventory.proofs.LoneLemmas.{hits_front, hits_back, fewer_hits, hits_beside, unseen_gone, unseen_new, seen_gone, seen_new}
use Rattle.inventory.proofs.lone.swap_among.Goals as goal

pub returns-then-not-sees_hit-clause-gone : goal.returns-then-not-sees_hit-clause-gone
returns-then-not-sees_hit-clause-gone c =
    λ reach reach_more marked marked_more. unseen_gone c.args.number c.args.match_one c.args.entry.now c.args.fewer.now c.args.more.now c.requires.among
    c.requires.alike reach reach_more marked marked_more (sym (c.sees_hit.ensures.value reach_more marked_more) ∙ c.if-not-sees_hit.true)

pub returns-then-not-sees_hit-clause-new : goal.returns-then-not-sees_hit-clause-new
returns-then-not-sees_hit-clause-new c =
    λ reach reach_more marked marked_more. unseen_new c.args.number c.args.match_one c.args.entry.now c.args.fewer.now c.args.more.now c.requires.among
    c.requires.alike reach reach_more marked marked_more (sym (c.sees_hit.ensures.value reach_more marked_more) ∙ c.if-not-sees_hit.true)

pub returns-clause-gone : goal.returns-clause-gone
returns-clause-gone c =
    let number = c.args.number in
    let match_one = c.args.match_one in
    let entry = c.args.entry.now in
    let fewer = c.args.fewer.now in
    let more = c.args.more.now in
    let among = c.requires.among in
    let alike = c.requires.alike in
    λ reach reach_more marked marked_more.
    seen_gone number match_one entry fewer more among alike reach reach_more marked marked_more c.swap_beside.result.gone
    (sym (c.sees_hit.ensures.value reach_more marked_more) ∙ c.if-not-sees_hit.false)
    (c.swap_beside.ensures.gone (hits_front number match_one entry fewer more among alike reach reach_more marked marked_more)
    (hits_back number match_one entry fewer more among alike reach reach_more marked marked_more)
    (hits_beside number match_one entry fewer more among alike reach reach_more marked marked_more c.sees_hit.ensures.order)
    (c.first_hit.ensures reach marked ∙ ap (λ (places : List Place). slice_get places 0)
    (fewer_hits number match_one entry fewer more among alike reach reach_more marked marked_more)))

pub returns-clause-new : goal.returns-clause-new
returns-clause-new c =
    let number = c.args.number in
    let match_one = c.args.match_one in
    let entry = c.args.entry.now in
    let fewer = c.args.fewer.now in
    let more = c.args.more.now in
    let among = c.requires.among in
    let alike = c.requires.alike in
    λ reach reach_more marked marked_more.
    seen_new number match_one entry fewer more among alike reach reach_more marked marked_more c.swap_beside.result.new
    (sym (c.sees_hit.ensures.value reach_more marked_more) ∙ c.if-not-sees_hit.false)
    (c.swap_beside.ensures.new (hits_front number match_one entry fewer more among alike reach reach_more marked marked_more)
    (hits_back number match_one entry fewer more among alike reach reach_more marked marked_more)
    (hits_beside number match_one entry fewer more among alike reach reach_more marked marked_more c.sees_hit.ensures.order)
    (c.first_hit.ensures reach marked ∙ ap (λ (places : List Place). slice_get places 0)
    (fewer_hits number match_one entry fewer more among alike reach reach_more marked marked_more)))
