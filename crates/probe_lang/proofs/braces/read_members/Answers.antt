-- The members so far and the next one.
use Rattle.std.proofs.Common.{◌≡◌, Some, sym, ◌∙◌}
use Rattle.serde_json.specs.View.{view}
use Rattle.probe_lang.specs.Braces.{want_of}
use Rattle.probe_lang.proofs.BracesLemmas.{members_on}
use Rattle.probe_lang.proofs.braces.read_members.Goals as goal

pub members-preserved : goal.members-preserved
members-preserved c =
    let want : Some c.in-Some-2.want ≡ want_of (view c.in-Some.value.now) = sym c.in-Some-2.is ∙ c.in_ok-want.ensures in
    let key = c.in_ok-key-in-Some-2.ensures ∙ c.as_str.ensures.value in
    members_on c.members.text c.push.new.self (record { key = c.in_ok-key-in-Some-2.key; want = c.in-Some-2.want }) c.in-Some.key.now c.in-Some.value.now
    c.members.key-iterator c.next.new.self _ c.in-Some.ensures.steps key want c.in_ok-push-in-Some-2.ensures.ok c.members.invariant
