use Rattle.std.proofs.Common.{ℕ, List, ◌++◌, take, drop, ap, ◌∙◌}
use Rattle.bmc_text.specs.Blocks.{Part}
use Rattle.bmc_text.specs.Items.{behind_block, last_block}
use Rattle.bmc_text.proofs.BlocksLemmas.{takes_rest}
use Rattle.bmc_text.proofs.FeedsLemmas.{waiting_of}
use Rattle.bmc_text.proofs.lines.Lines.take_block.Goals as goal

pub returns-clause-block : goal.returns-clause-block
returns-clause-block c front holds =
    takes_rest c.args.part front c.args.self.now.waiting c.push.new.self.bytes _ _ holds c.requires
    (λ within. c.push.ensures.bytes within ∙ ap (λ (count : ℕ). c.args.part.bytes ++ take count c.waiting.result.now) c.wanted-wanted.ensures
    ∙ ap (λ (waiting : List ℕ). c.args.part.bytes ++ take c.args.part.wanted waiting) c.waiting.ensures.value)
    (c.finish.ensures ∙ ap (λ (part : Part). last_block part.size c.push.new.self.bytes) c.push.ensures.part)
    (waiting_of c.drop_newline.ensures
    ∙ ap behind_block (waiting_of c.take.ensures ∙ ap (λ (count : ℕ). drop count c.args.self.now.waiting) c.wanted-wanted.ensures))
