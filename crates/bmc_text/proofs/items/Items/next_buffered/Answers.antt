use Rattle.std.proofs.Common.{◌≤◌, ◌+◌, List, ℕ, [], length, length-drop, drop, take, ap, sym, subst, ◌∙◌, arith}
use Rattle.std.specs.Prelude.{Some, None}
use Rattle.std.proofs.lemmas.Result.{err_from_is_err_and}
use Rattle.bmc_text.specs.Blocks.{item_of_block}
use Rattle.bmc_text.specs.NextItems.{WantsMemory}
use Rattle.bmc_text.specs.Items.{line_item, whole_block, whole_items}
use Rattle.bmc_text.specs.Feeds.{ItemFeed}
use Rattle.bmc_text.proofs.ItemsLemmas.{whole_items-none, whole_block-none}
use Rattle.bmc_text.proofs.FeedsLemmas.{waiting_of, read_of, ended_of}
use Rattle.bmc_text.proofs.BlocksLemmas.{HoldsFront-none, size_of}
use Rattle.bmc_text.proofs.NextItemsLemmas.{seen, no_item, item_here, whole_alone, whole_with, wants_memory_at, taken_line, asks_raw, Reads-seen}
use Rattle.bmc_text.proofs.items.Items.next_buffered.Goals as goal

pub returns-in_default-clause-none : goal.returns-in_default-clause-none
returns-in_default-clause-none c =
    ap (λ (feed : ItemFeed). whole_items feed.waiting) (sym c.self.view_is) ∙ no_item c.self.inside.lines.waiting c.in_default.ensures.place

pub returns-in_default-asked-clause-next : goal.returns-in_default-asked-clause-next
returns-in_default-asked-clause-next c input =
    let lines = c.self.inside.lines in
    let block = c.self.inside.block in
    let at = c.in-Some.at in
    let got = c.line_of-got.result.0 in
    let line = c.line_of-got.result.1.now in
    let same = c.newline.ensures.same in
    let shown = c.waiting.ensures.value in
    let taken =
    taken_line got lines c.newline.new.self c.take.new.self c.waiting.result.now line at same shown c.line_of-got.ensures.item c.line_of-got.ensures.front
    c.line_of-got.ensures.within c.take.ensures in
    let none =
    asks_raw got line c.waiting.result.now lines.waiting at c.asked.result None c.line_of-got.ensures.item (shown ∙ waiting_of same) c.asked.ensures
    (sym c.in_default-asked.is) in
    Reads-seen c.self.view_is
    (item_here c.next_of.result (seen lines block) (seen c.take.new.self block) (line_item (take at lines.waiting)) input
    (whole_alone lines.waiting at c.in-Some.ensures.place none ∙ ap (λ (rest : List ℕ). Some (line_item (take at lines.waiting), rest)) (sym taken.waiting))
    (c.next_of.ensures.item (seen c.take.new.self block) ∙ taken.item) (taken.ended ∙ c.in-Some.ensures.going) taken.read)

pub returns-then-waiting-at-clause-none : goal.returns-then-waiting-at-clause-none
returns-then-waiting-at-clause-none c =
    let waiting = c.self.inside.lines.waiting in
    let at = c.in-Some.at in
    let n = c.in-Some-asked.size in
    let shown = c.waiting.ensures.value ∙ waiting_of c.newline.ensures.same in
    let some =
    asks_raw c.line_of-got.result.0 c.line_of-got.result.1.now c.waiting.result.now waiting at c.asked.result (Some n) c.line_of-got.ensures.item shown
    c.asked.ensures (sym c.in-Some-asked.is) in
    let few : length (drop (at + 1) waiting) ≤ n =
    omega (arith, length-drop (at + 1) waiting, ap length c.waiting-2.ensures.value, ap length (waiting_of c.newline.ensures.same), c.if-waiting-at.true) in
    ap (λ (feed : ItemFeed). whole_items feed.waiting) (sym c.self.view_is)
    ∙ whole_items-none waiting (whole_with waiting at n c.in-Some.ensures.place some ∙ whole_block-none n (drop (at + 1) waiting) few)

pub returns-in_err-part-clause-memory : goal.returns-in_err-part-clause-memory
returns-in_err-part-clause-memory c =
    let waiting = c.self.inside.lines.waiting in
    let at = c.in-Some.at in
    let n = c.in-Some-asked.size in
    let shown = c.waiting.ensures.value ∙ waiting_of c.newline.ensures.same in
    let some =
    asks_raw c.line_of-got.result.0 c.line_of-got.result.1.now c.waiting.result.now waiting at c.asked.result (Some n) c.line_of-got.ensures.item shown
    c.asked.ensures (sym c.in-Some-asked.is) in
    let fault = err_from_is_err_and c.from_residual.result c.from_residual.ensures.1 in
    rw fault.1
    (subst (λ (feed : ItemFeed). WantsMemory feed.waiting) c.self.view_is
    (wants_memory_at waiting at n c.in-Some.ensures.place some c.in_err-part.ensures.room))

pub returns-clause-next : goal.returns-clause-next
returns-clause-next c input =
    let lines = c.self.inside.lines in
    let block = c.self.inside.block in
    let at = c.in-Some.at in
    let n = c.in-Some-asked.size in
    let got = c.line_of-got.result.0 in
    let line = c.line_of-got.result.1.now in
    let same = c.newline.ensures.same in
    let shown = c.waiting.ensures.value in
    let taken =
    taken_line got lines c.newline.new.self c.take-2.new.self c.waiting.result.now line at same shown c.line_of-got.ensures.item c.line_of-got.ensures.front
    c.line_of-got.ensures.within c.take-2.ensures in
    let some =
    asks_raw got line c.waiting.result.now lines.waiting at c.asked.result (Some n) c.line_of-got.ensures.item (shown ∙ waiting_of same) c.asked.ensures
    (sym c.in-Some-asked.is) in
    let part = c.in_ok-part.ensures.part in
    let item = item_of_block c.take_block-block.result in
    let frame = c.keep.ensures.frame in
    Reads-seen c.self.view_is
    (item_here c.keep.result (seen lines block) c.keep.new.self item input
    (whole_with lines.waiting at n c.in-Some.ensures.place some ∙ ap (whole_block n) (sym taken.waiting)
    ∙ ap (λ (size : ℕ). whole_block size c.take-2.new.self.waiting) (sym (size_of part))
    ∙ c.take_block-block.ensures.block [] (HoldsFront-none c.in_ok-part.part n part)
    ∙ ap (λ (behind : List ℕ). Some (item, behind)) (sym (ap (λ (feed : ItemFeed). feed.waiting) frame)))
    c.keep.ensures.item
    (ap (λ (feed : ItemFeed). feed.ended) frame ∙ ended_of c.take_block-block.ensures.frame ∙ taken.ended ∙ c.in-Some.ensures.going)
    (ap (λ (feed : ItemFeed). feed.read) frame ∙ read_of c.take_block-block.ensures.frame ∙ taken.read))
