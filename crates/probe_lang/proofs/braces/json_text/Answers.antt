-- A loop to its end went over every character.
use Rattle.std.proofs.Common.{◌≡◌, ◌<◌, List, ℕ, ◌++◌, codes, ap, sym, ◌∙◌, arith, string_bytes}
use Rattle.std.specs.List.{flat_map}
use Rattle.std.specs.Str.{chars}
use Rattle.std.proofs.lemmas.List.{map-id}
use Rattle.std.proofs.lemmas.Iterator.{YieldsList-from_chars}
use Rattle.std.proofs.lemmas.Iterator.Consumers.{YieldsList-end}
use Rattle.probe_lang.proofs.BracesLemmas.{json_char, json_end}
use Rattle.probe_lang.proofs.braces.json_text.Goals as goal

pub returns : goal.returns
returns c =
    let low : 125 < 128 = omega arith in
    let yields = YieldsList-from_chars c.args.inner.now c.utf8.inner cc in
    let walked = YieldsList-end yields c.loop-char.yielded _ c.loop-char.yielded_by _ _ c.in-None.is c.next.ensures.steps in
    let all : c.loop-char.yielded ≡ chars c.args.inner.now = sym (map-id c.loop-char.yielded) ∙ walked.0 in
    let so_far = c.loop-char.invariant ∙ ap (λ (cs : List ℕ). codes "{" ++ flat_map json_char cs) all in
    json_end (string_bytes c.loop-char.json) (string_bytes c.push-2.new.self) c.args.inner.now _ c.utf8.inner so_far
    c.in_ok-push-2.ensures.bytes (c.push-2.ensures.ascii low)
