use Rattle.std.proofs.Common.{◌≡◌, ◌∙◌, arith, ap, [], ◌++◌, List, ℕ, replicate, sym, append-nil}
use Rattle.ctl_face.specs.Seen.{Seen, unloaded}
use Rattle.ctl_face.specs.declared.kind.Kind.TheVariants.{Pid, Stepwise}
use Rattle.bmc_replay.proofs.BanksLemmas.{boxes, one_more, is_stated}
use Rattle.bmcreplay.proofs.play.OwnLists.{own-1}
use Rattle.bmcreplay.proofs.play.Goals as goal

pub loop-preserved : goal.loop-preserved
loop-preserved c =
    one_more (λ one. (own-1.entry one.vtable).1.seen one.value) c.loop.bank.items _ _ c.loop.counter [] _ c.loop.invariant c.in_ok-push.ensures.items
    c.is_unloaded.ensures

pub loop-2-preserved : goal.loop-2-preserved
loop-2-preserved c =
    one_more (λ one. (own-1.entry one.vtable).1.seen one.value) c.loop-2.bank.items _ _ c.loop-2.counter (replicate 128 (unloaded Pid)) _
    c.loop-2.invariant c.in_ok-push-2.ensures.items c.is_unloaded-in-loop-2.ensures

pub loop-2-init : goal.loop-2-init
loop-2-init c =
    let end = c.loop.auto.counter-end in
    let test = c.loop-test.false in
    let all : c.loop.counter ≡ 128 = omega (arith, end, test) in
    c.loop.invariant ∙ ap (λ (n : ℕ). replicate n (unloaded Pid)) all ∙ sym (append-nil (replicate 128 (unloaded Pid)))

pub run-code-requires : goal.run-code-requires
run-code-requires c =
    let end = c.loop-2.auto.counter-end in
    let test = c.loop-2-test.false in
    let all : c.loop-2.counter ≡ 64 = omega (arith, end, test) in
    is_stated _ (c.loop-2.invariant ∙ ap (boxes 128) all)
