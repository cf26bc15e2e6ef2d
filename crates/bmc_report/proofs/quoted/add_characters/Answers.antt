-- A character of the text has room, and a loop to its end went over every character.
use Rattle.std.proofs.Common.{◌≡◌, ℕ, List, ◌++◌, length, length-append, arith, ap, sym, ◌∙◌}
use Rattle.std.proofs.lemmas.List.{map-id}
use Rattle.std.proofs.lemmas.Iterator.{YieldsList-from_chars}
use Rattle.std.proofs.lemmas.Iterator.Consumers.{YieldsList-so_far, YieldsList-turn, YieldsList-end}
use Rattle.std.specs.List.{flat_map}
use Rattle.std.specs.Str.{chars}
use Rattle.std.specs.Str.Iter.{chars_rest}
use Rattle.bmc_report.specs.Quoted.{escaped}
use Rattle.bmc_report.proofs.QuotedLemmas.{so_far_size, text_size}
use Rattle.bmc_report.proofs.quoted.add_characters.Goals as goal

pub push_str-requires-in-loop-char : goal.push_str-requires-in-loop-char
push_str-requires-in-loop-char c =
    let items = ap chars_rest c.into_iter-char-iterator.ensures.into_iter_gives ∙ c.chars-char-items.ensures.rest in
    let yields = YieldsList-from_chars c.args.text.now c.utf8.text items in
    let so_far = YieldsList-so_far yields c.loop-char.yielded _ c.loop-char.yielded_by in
    let turn = YieldsList-turn yields c.loop-char.yielded _ c.loop-char.yielded_by _ _ c.in-Some.char c.in-Some.is c.next.ensures.steps in
    let before = sym (map-id c.loop-char.yielded) ∙ so_far in
    let size = so_far_size c.args.text.now c.loop-char.yielded c.in-Some.char c.utf8.text before turn.0 turn.1 in (
      omega arith,
      omega (
        arith,
        size,
        c.requires,
        ap length c.loop-char.invariant,
        length-append c.args.line.now.bytes (flat_map escaped c.loop-char.yielded),
        ap length c.as_str.ensures.value,
        ap length c.escape.ensures,
      ),
    )

pub returns-clause-text : goal.returns-clause-text
returns-clause-text c =
    let items = ap chars_rest c.into_iter-char-iterator.ensures.into_iter_gives ∙ c.chars-char-items.ensures.rest in
    let yields = YieldsList-from_chars c.args.text.now c.utf8.text items in
    let walked = YieldsList-end yields c.loop-char.yielded _ c.loop-char.yielded_by _ _ c.in-None.is c.next.ensures.steps in
    let all : c.loop-char.yielded ≡ chars c.args.text.now = sym (map-id c.loop-char.yielded) ∙ walked.0 in
    c.loop-char.invariant ∙ ap (λ (cs : List ℕ). c.args.line.now.bytes ++ flat_map escaped cs) all

pub returns-clause-size : goal.returns-clause-size
returns-clause-size c =
    let added = length-append c.args.line.now.bytes (flat_map escaped (chars c.args.text.now)) in
    omega (arith, ap length (returns-clause-text c), added, text_size c.args.text.now c.utf8.text)
