-- What is seen of a FRU that is present.
use Rattle.std.specs.Prelude.{ℕ, Bool, ◌==◌, ◌&&◌, List}
use Rattle.std.specs.List.{list_any}
use Rattle.bmc_base.specs.Places.{Place}
use Rattle.probe_lang.specs.declared.rows.Hit.{Hit}
use Rattle.probe_lang.specs.declared.rows.Channel.{Channel}
use Rattle.probe_lang.specs.declared.rows.Entry.{Entry}

-- its place; and for configurations by number: which of their patterns match it, whether any does, and to which buses their
-- moving channels lead from it
pub record Sight : Type 0 where
  pub place : Place
  pub matched : ℕ → ℕ → Bool
  pub hit : ℕ → Bool
  pub opened : ℕ → ℕ → Bool

-- whether a pattern of a configuration, or any, is among the hits
abbrev pub has_hit : List Hit → ℕ → ℕ → Bool
has_hit hits config pattern = list_any (λ (hit : Hit). hit.config == config && hit.pattern == pattern) hits

abbrev pub has_config : List Hit → ℕ → Bool
has_config hits config = list_any (λ (hit : Hit). hit.config == config) hits

-- whether a channel of a configuration to a bus is among the channels
abbrev pub has_channel : List Channel → ℕ → ℕ → Bool
has_channel channels config bus = list_any (λ (channel : Channel). channel.config == config && channel.bus == bus) channels

-- what hits and channels show
abbrev pub kept_sight : Place → List Hit → List Channel → Sight
kept_sight place hits channels = record { place = place; matched = has_hit hits; hit = has_config hits; opened = has_channel channels }

abbrev pub entry_sight : Entry → Sight
entry_sight entry = kept_sight entry.place entry.hits entry.channels
