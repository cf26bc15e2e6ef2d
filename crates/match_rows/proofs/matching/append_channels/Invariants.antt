use Rattle.std.proofs.Common.{◌≡◌, ◌++◌, map, take}
use Rattle.std.specs.List.{flat_map}
use Rattle.cfg_json.specs.Configs.{moving_in}
use Rattle.cfg_json.specs.declared.expose.Expose.{Expose}
use Rattle.match_rows.specs.Matching.{buses_at, channel_to}
use Rattle.match_rows.proofs.matching.append_channels.Given as goal

abbrev pub invariant-loop-expose : goal.invariant-loop-expose
invariant-loop-expose g l = l.channels
    ≡ l.fn.channels ++ map (channel_to l.number) (buses_at l.spot (flat_map (λ (expose : Expose). moving_in expose.body) (take l.expose-index l.expose-items)))
