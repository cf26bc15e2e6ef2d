use Rattle.std.proofs.Common.{◌≡◌, take}
use Rattle.std.specs.List.{flat_map}
use Rattle.cfg_json.specs.Configs.{fixed_in}
use Rattle.cfg_json.specs.declared.expose.Expose.{Expose}
use Rattle.bmc_watch.proofs.changes.fixed_channels.Given as goal

abbrev pub invariant-loop-expose : goal.invariant-loop-expose
invariant-loop-expose g l = l.fixed.items ≡ flat_map (λ (expose : Expose). fixed_in expose.body) (take l.expose-index l.expose-items)
