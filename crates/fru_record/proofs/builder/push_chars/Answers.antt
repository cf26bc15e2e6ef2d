use Rattle.std.proofs.Common.{◌≡◌, ℕ, ◌-◌, List, ◌++◌, map, sym, ap, ◌∙◌, arith}
use Rattle.std.proofs.lemmas.List.{map-id, get_or_default}
use Rattle.std.proofs.lemmas.Iterator.{YieldsList-from_chars}
use Rattle.std.proofs.lemmas.Iterator.Consumers.{YieldsList-turn, YieldsList-end}
use Rattle.std.specs.Str.{chars}
use Rattle.fru_record.proofs.builder.push_chars.Goals as goal

pub overflow_sub-from : goal.overflow_sub-from
overflow_sub-from c =
    let t = YieldsList-turn
    (YieldsList-from_chars c.args.text.now c.utf8.text cc) c.loop-c.yielded _ c.loop-c.yielded_by _ _ c.in-Some.c c.in-Some.is c.next.ensures.steps in
    let range = c.requires _ t.0 in
    let same = t.1 ∙ get_or_default (chars c.args.text.now) _ c.in-Some.c 0 t.0 in
    omega (arith, same, range, c.from.ensures)

pub overflow_cast-from : goal.overflow_cast-from
overflow_cast-from c =
    let t = YieldsList-turn
    (YieldsList-from_chars c.args.text.now c.utf8.text cc) c.loop-c.yielded _ c.loop-c.yielded_by _ _ c.in-Some.c c.in-Some.is c.next.ensures.steps in
    let range = c.requires _ t.0 in
    let same = t.1 ∙ get_or_default (chars c.args.text.now) _ c.in-Some.c 0 t.0 in
    omega (arith, same, range, c.from.ensures)

pub returns : goal.returns
returns c =
    let t = YieldsList-end
    (YieldsList-from_chars c.args.text.now c.utf8.text cc) c.loop-c.yielded _ c.loop-c.yielded_by _ _ c.in-None.is c.next.ensures.steps in
    let all : c.loop-c.yielded ≡ chars c.args.text.now = sym (map-id c.loop-c.yielded) ∙ t.0 in
    c.loop-c.invariant ∙ ap (λ (cs : List ℕ). c.args.bytes.now.items ++ map (λ x. x - c.args.first) cs) all
