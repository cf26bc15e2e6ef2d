use Rattle.std.proofs.Common.{◌≡◌, map, take}
use Rattle.fan_zone.specs.Boxes.{outputs_of}
use Rattle.fan_zone.proofs.bank.Bank.new.Given as goal

abbrev pub invariant-loop-controller : goal.invariant-loop-controller
invariant-loop-controller g l = l.outputs.items ≡ outputs_of (map g.C.Controller.seen (take l.controller-index l.fn.boxes.items))
