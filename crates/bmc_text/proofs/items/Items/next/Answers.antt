use Rattle.std.proofs.Common.{◌++◌, ap, sym, ◌∙◌, refl}
use Rattle.std.specs.Prelude.{Some, None}
use Rattle.std.proofs.lemmas.Result.{err_from_is_err_and}
use Rattle.bmc_text.specs.Feeds.{ItemFeed}
use Rattle.bmc_text.specs.Blocks.{item_of_block}
use Rattle.bmc_text.proofs.FeedsLemmas.{Reads-weaker, Reads-then}
use Rattle.bmc_text.proofs.NextItemsLemmas.{seen, alone, asks_of, no_more, line_waits, block_waits, lacks_line, lacks_its_block, takes_block, takes_item}
use Rattle.bmc_text.proofs.NextItemsLemmas.{Reads-seen}
use Rattle.bmc_text.proofs.items.Items.next.Goals as goal

pub returns-in_err-got-clause-lacks : goal.returns-in_err-got-clause-lacks
returns-in_err-got-clause-lacks g c =
    let fault = err_from_is_err_and c.from_residual.result c.from_residual.ensures.1 in
    rw (fault.1, fault.2)
    (Reads-seen c.self.view_is
    (Reads-weaker _ c.in_err-got.ensures.lacks refl (λ bytes none. lacks_line c.in_err-got.field-0.0 bytes c.in_err-got.ensures.memory none)))

pub returns-in_err-got-clause-waits : goal.returns-in_err-got-clause-waits
returns-in_err-got-clause-waits g c whole =
    c.next.ensures.waits (line_waits c.self.inside.lines c.self.inside.block c.args.self.now c.self.view_is whole)
    ∙ ap (λ (feed : ItemFeed). feed.read) c.self.view_is

pub returns-in_err-block-in-Some-clause-lacks : goal.returns-in_err-block-in-Some-clause-lacks
returns-in_err-block-in-Some-clause-lacks g c =
    let fault = err_from_is_err_and c.from_residual-in_err-block-in-Some.result c.from_residual-in_err-block-in-Some.ensures.1 in
    let asked =
    asks_of c.in_ok-got.got c.line.result.now c.next.new.self.line c.asked.result (Some c.in-Some.size) c.line.ensures c.asked.ensures (sym c.in-Some.is) in
    rw (fault.1, fault.2)
    (Reads-seen c.self.view_is
    (Reads-then _ c.in_ok-got.ensures.next c.in_err-block-in-Some.ensures.lacks refl refl
    (λ bytes more count took lacks. lacks_its_block c.in_err-block-in-Some.field-0.0 c.in_ok-got.got c.next.new.self.line c.in-Some.size
    c.next.new.self.ended bytes c.next.new.self.waiting more asked took
    (λ ended. let last = c.in_err-block-in-Some.ensures.after_end ended in (last.0, no_more c.block.new.self c.next.new.self more last.1 count)) lacks)))

pub returns-in_err-block-in-Some-clause-waits : goal.returns-in_err-block-in-Some-clause-waits
returns-in_err-block-in-Some-clause-waits g c whole =
    let asked =
    asks_of c.in_ok-got.got c.line.result.now c.next.new.self.line c.asked.result (Some c.in-Some.size) c.line.ensures c.asked.ensures (sym c.in-Some.is) in
    let lines = c.self.inside.lines in
    let same = c.next.ensures.waits (line_waits lines c.self.inside.block c.args.self.now c.self.view_is whole) in
    let waits =
    block_waits c.in_ok-got.got lines c.next.new.self c.self.inside.block c.args.self.now c.in-Some.size c.self.view_is whole
    c.in_ok-got.ensures.next same asked in
    c.block.ensures.waits waits ∙ same ∙ ap (λ (feed : ItemFeed). feed.read) c.self.view_is

pub returns-in-None-clause-next : goal.returns-in-None-clause-next
returns-in-None-clause-next g c =
    let asked = asks_of c.in_ok-got.got c.line.result.now c.next.new.self.line c.asked.result None c.line.ensures c.asked.ensures (sym c.in-None.is) in
    Reads-seen c.self.view_is
    (Reads-weaker _ c.in_ok-got.ensures.next refl
    (λ bytes took. takes_item _ _ c.next.new.self.ended _ bytes c.next.new.self.waiting _
    (c.next_of.ensures.item (seen c.next.new.self c.self.inside.block)) refl refl
    (alone _ c.next.new.self.ended bytes c.next.new.self.waiting asked took)))

pub returns-in-None-clause-waits : goal.returns-in-None-clause-waits
returns-in-None-clause-waits g c whole =
    c.next.ensures.waits (line_waits c.self.inside.lines c.self.inside.block c.args.self.now c.self.view_is whole)
    ∙ ap (λ (feed : ItemFeed). feed.read) c.self.view_is

pub returns-in_ok-block-in-Some-clause-next : goal.returns-in_ok-block-in-Some-clause-next
returns-in_ok-block-in-Some-clause-next g c =
    let asked =
    asks_of c.in_ok-got.got c.line.result.now c.next.new.self.line c.asked.result (Some c.in-Some.size) c.line.ensures c.asked.ensures (sym c.in-Some.is) in
    let frame = c.keep.ensures.frame in
    Reads-seen c.self.view_is
    (Reads-then _ c.in_ok-got.ensures.next c.in_ok-block-in-Some.ensures.block refl (ap (λ (feed : ItemFeed). feed.read) frame)
    (λ bytes more count took block. takes_item _ (Some (item_of_block c.in_ok-block-in-Some.block)) _ c.block.new.self.ended
    (bytes ++ more) _ c.block.new.self.waiting
    c.keep.ensures.item (ap (λ (feed : ItemFeed). feed.ended) frame) (ap (λ (feed : ItemFeed). feed.waiting) frame)
    (takes_block c.in_ok-got.got c.next.new.self.line c.in-Some.size c.next.new.self.ended c.block.new.self.ended
    (item_of_block c.in_ok-block-in-Some.block) bytes
    c.next.new.self.waiting more c.block.new.self.waiting asked took
    (λ ended. no_more c.block.new.self c.next.new.self more (c.block.ensures.after_end ended).1 count) block)))

pub returns-in_ok-block-in-Some-clause-waits : goal.returns-in_ok-block-in-Some-clause-waits
returns-in_ok-block-in-Some-clause-waits g c whole =
    let asked =
    asks_of c.in_ok-got.got c.line.result.now c.next.new.self.line c.asked.result (Some c.in-Some.size) c.line.ensures c.asked.ensures (sym c.in-Some.is) in
    let lines = c.self.inside.lines in
    let same = c.next.ensures.waits (line_waits lines c.self.inside.block c.args.self.now c.self.view_is whole) in
    let waits =
    block_waits c.in_ok-got.got lines c.next.new.self c.self.inside.block c.args.self.now c.in-Some.size c.self.view_is whole
    c.in_ok-got.ensures.next same asked in
    ap (λ (feed : ItemFeed). feed.read) c.keep.ensures.frame ∙ c.block.ensures.waits waits ∙ same ∙ ap (λ (feed : ItemFeed). feed.read) c.self.view_is
