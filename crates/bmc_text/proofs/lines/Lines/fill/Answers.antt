use Rattle.std.proofs.Common.{◌≡◌, ◌≤◌, ℕ, ◌-◌, ◌+◌, List, ◌++◌, false, length, ap, ◌∙◌, sym, arith, take, drop, slice_range, length-take, length-drop}
use Rattle.std.proofs.lemmas.List.{take_at}
use Rattle.bmc_text.specs.Feeds.{Feed}
use Rattle.bmc_text.specs.Newlines.{HasNoNewline}
use Rattle.bmc_text.proofs.FeedsLemmas.{Reads-behind}
use Rattle.bmc_text.proofs.NewlinesLemmas.{HasNoNewline-front}
use Rattle.bmc_text.proofs.lines.Lines.fill.Goals as goal

-- the buffer is as it was left
same_buffer : (buffer behind : List ℕ) (len end : ℕ) → length buffer ≡ len → slice_range buffer 0 end ≡ slice_range (take len (buffer ++ behind)) 0 end
same_buffer buffer behind len end size = ap (λ (bytes : List ℕ). slice_range bytes 0 end) (sym (take_at buffer behind len size))

-- and what was searched of it still has no newline
still_none : (n len end : ℕ) (waiting shown piece buffer behind : List ℕ) → shown ≡ waiting → shown ++ piece ≡ slice_range buffer 0 end → length buffer ≡ len
    → n ≤ length waiting → HasNoNewline (take n waiting) → HasNoNewline (take n (slice_range (take len (buffer ++ behind)) 0 end))
still_none n len end waiting shown piece buffer behind is parts size within none =
    HasNoNewline-front n waiting piece (slice_range (take len (buffer ++ behind)) 0 end)
    (ap (λ (xs : List ℕ). xs ++ piece) (sym is) ∙ parts ∙ same_buffer buffer behind len end size) within none

pub invariant_of-self : goal.invariant_of-self
invariant_of-self g c =
    let inside = c.self.inside in
    let size : length c.refill-filled.new.buffer ≡ inside.buffer.len = omega (arith, c.refill-filled.auto.buffer, c.deref_mut.ensures.len) in
    let going : inside.ended ≡ false = ap (λ (feed : Feed). feed.ended) c.self.view_is ∙ c.requires.going in
    let reads = c.in-Ok.ensures.reads in (
      omega arith,
      omega arith,
      omega arith,
      omega (arith, c.in-Ok.ensures.within),
      omega arith,
      omega (arith, c.in-Ok.ensures.within),
      λ ended. absurd cc,
      still_none inside.searched inside.buffer.len _ (slice_range inside.buffer.items inside.start inside.end) _ reads.piece c.refill-filled.new.buffer _
          (ap (λ (buffer : List ℕ). slice_range buffer inside.start inside.end) c.deref_mut.ensures.value) reads.bytes size
          (omega (arith, length-take (inside.end - inside.start) (drop inside.start inside.buffer.items), length-drop inside.start inside.buffer.items))
          c.self.invariant.7,
    )

pub returns-in-Ok-clause-reads : goal.returns-in-Ok-clause-reads
returns-in-Ok-clause-reads g c =
    let inside = c.self.inside in
    let size : length c.refill-filled.new.buffer ≡ inside.buffer.len = omega (arith, c.refill-filled.auto.buffer, c.deref_mut.ensures.len) in
    Reads-behind _ _ _ c.in-Ok.ensures.reads
    (ap (λ (buffer : List ℕ). slice_range buffer inside.start inside.end) c.deref_mut.ensures.value ∙ ap (λ (feed : Feed). feed.waiting) c.self.view_is)
    (ap (λ (feed : Feed). feed.read + c.in-Ok.more) c.self.view_is)
    (λ bytes is. is ∙ same_buffer c.refill-filled.new.buffer _ inside.buffer.len _ size)
