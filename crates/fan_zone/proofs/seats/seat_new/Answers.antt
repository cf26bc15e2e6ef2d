use Rattle.std.proofs.Common.{◌≡◌, Some, sym}
use Rattle.ctl_face.specs.Kinds.{kind_of}
use Rattle.fan_zone.specs.Sets.{free}
use Rattle.fan_zone.proofs.Free.{free_box}
use Rattle.fan_zone.proofs.seats.seat_new.Goals as goal

pub load-requires-clause-within : goal.load-requires-clause-within
load-requires-clause-within g c =
    let e : free (kind_of c.args.setting.now) c.args.taken.now.items 0 c.args.bank.now ≡ Some c.in-Some.number =
    cc (c.in-Some.is, c.free.ensures, c.kind.ensures, c.deref.ensures.value) in
    (free_box (kind_of c.args.setting.now) c.args.taken.now.items c.args.bank.now c.in-Some.number e).within

pub load-requires-clause-kind : goal.load-requires-clause-kind
load-requires-clause-kind g c =
    let e : free (kind_of c.args.setting.now) c.args.taken.now.items 0 c.args.bank.now ≡ Some c.in-Some.number =
    cc (c.in-Some.is, c.free.ensures, c.kind.ensures, c.deref.ensures.value) in
    sym (free_box (kind_of c.args.setting.now) c.args.taken.now.items c.args.bank.now c.in-Some.number e).kind_is
