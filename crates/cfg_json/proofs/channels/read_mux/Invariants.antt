-- The channels so far, and those of the elements that are left, are all channels.
use Rattle.std.proofs.Common.{◌≡◌, drop, map, Ok}
use Rattle.serde_json.specs.View.{view}
use Rattle.cfg_json.specs.Values.{◌>>=◌, each}
use Rattle.cfg_json.specs.Channels.{channel_of, mux_with}
use Rattle.cfg_json.proofs.ChannelsLemmas.{with_later}
use Rattle.cfg_json.proofs.channels.read_mux.Given as goal

abbrev pub invariant-loop-item : goal.invariant-loop-item
invariant-loop-item l =
    with_later l.fixed.items l.moving (each channel_of (map view (drop l.item-index l.items)))
    ≡ (each channel_of (map view l.items) >>= λ channels. Ok (mux_with channels))
