-- The members of an object, where they are few.
use Rattle.std.proofs.Common.{arith}
use Rattle.probe_lang.proofs.BracesLemmas.{few_members, many_members}
use Rattle.probe_lang.proofs.braces.read_object.Goals as goal

pub returns-then-len-le-MOST_MEMBERS : goal.returns-then-len-le-MOST_MEMBERS
returns-then-len-le-MOST_MEMBERS c =
    let m = c.in-Object.members in
    let few = few_members c.args.value.now m c.in-Object.is (omega (arith, c.len.ensures.len, c.if-len-le-MOST_MEMBERS.true)) in
    rw (← few) c.read_members.ensures

pub returns-else-len-le-MOST_MEMBERS : goal.returns-else-len-le-MOST_MEMBERS
returns-else-len-le-MOST_MEMBERS c =
    many_members c.args.value.now c.in-Object.members c.in-Object.is (omega (arith, c.len.ensures.len, c.if-len-le-MOST_MEMBERS.false))
