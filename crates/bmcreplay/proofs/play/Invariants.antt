use Rattle.std.proofs.Common.{◌≡◌, [], ◌++◌, map, replicate}
use Rattle.ctl_face.specs.Seen.{unloaded}
use Rattle.ctl_face.specs.declared.kind.Kind.TheVariants.{Pid, Stepwise}
use Rattle.bmcreplay.proofs.play.OwnLists.{own-1}
use Rattle.bmcreplay.proofs.play.Given as goal

abbrev pub invariant-loop : goal.invariant-loop
invariant-loop l = map (λ one. (own-1.entry one.vtable).1.seen one.value) l.bank.items ≡ [] ++ replicate l.counter (unloaded Pid)

abbrev pub invariant-loop-2 : goal.invariant-loop-2
invariant-loop-2 l =
    map (λ one. (own-1.entry one.vtable).1.seen one.value) l.bank.items ≡ replicate 128 (unloaded Pid) ++ replicate l.counter (unloaded Stepwise)
