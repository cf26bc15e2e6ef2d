-- A loop to its end went over every character.
use Rattle.std.proofs.Common.{◌≡◌, ℕ, List, ◌++◌, ap, sym, ◌∙◌, string_bytes}
use Rattle.std.proofs.lemmas.List.{map-id}
use Rattle.std.proofs.lemmas.Iterator.{YieldsList-from_chars}
use Rattle.std.proofs.lemmas.Iterator.Consumers.{YieldsList-end}
use Rattle.std.specs.List.{flat_map}
use Rattle.std.specs.Str.{chars}
use Rattle.bmc_report.specs.Quoted.{escaped}
use Rattle.bmc_report.proofs.quoted.push_characters.Goals as goal

pub returns : goal.returns
returns c =
    let yields = YieldsList-from_chars c.args.text.now c.utf8.text cc in
    let walked = YieldsList-end yields c.loop-char.yielded _ c.loop-char.yielded_by _ _ c.in-None.is c.next.ensures.steps in
    let all : c.loop-char.yielded ≡ chars c.args.text.now = sym (map-id c.loop-char.yielded) ∙ walked.0 in
    c.loop-char.invariant ∙ ap (λ (cs : List ℕ). string_bytes c.args.out.now ++ flat_map escaped cs) all
