-- The channels that move with the place: which buses they open, and for which configuration.
use Rattle.std.proofs.Common.{◌≡◌, ◌∙◌, ℕ, zero, suc, ◌+◌, ◌<◌, List, [], ◌∷◌, map, Bool, true, false, ◌&&◌, ◌||◌, ◌==◌}
use Rattle.std.proofs.Common.{refl, ap, ap₂, arith, if◌then◌else◌}
use Rattle.std.specs.List.{list_any}
use Rattle.std.proofs.lemmas.Bool.Decides.{nat_tests}
use Rattle.std.proofs.lemmas.Bool.{eq-eqb}
use Rattle.std.proofs.lemmas.List.Folds.{list_any-append}
use Rattle.bmc_base.specs.Places.{Place}
use Rattle.fru_area.specs.declared.field.Field.{Field}
use Rattle.probe_lang.specs.declared.rows.Channel.{Channel}
use Rattle.probe_lang.specs.Sights.{has_channel}
use Rattle.cfg_json.specs.Configs.{Config, moving_of}
use Rattle.match_rows.specs.Matching.{any_matches, buses_of, channel_to, own_channels, config_channels, channels_of, of_config, opens_bus}

or_false : (answer : Bool) → (answer || false) ≡ answer
or_false true = refl
or_false false = refl

-- channels of one configuration lead to these buses
own_buses : (number bus : ℕ) (buses : List ℕ) → has_channel (map (channel_to number) buses) number bus ≡ list_any (λ other. other == bus) buses
own_buses number bus [] = refl
own_buses number bus (other ∷ buses) =
    ap₂ (λ (own later : Bool). (own && other == bus) || later) (eq-eqb number number refl) (own_buses number bus buses)

other_buses : (number wanted bus : ℕ) (buses : List ℕ) → (number == wanted) ≡ false → has_channel (map (channel_to number) buses) wanted bus ≡ false
other_buses number wanted bus [] differs = refl
other_buses number wanted bus (other ∷ buses) differs =
    ap₂ (λ (own later : Bool). (own && other == bus) || later) differs (other_buses number wanted bus buses differs)

module _ (place : Place) (fields : List Field) where
  own_opened : (number bus : ℕ) (config : Config) → has_channel (own_channels place fields number config) number bus ≡ opens_bus place fields bus config
  own_opened number bus config = by (any_matches place fields config)
    where
      buses : List ℕ
      buses = buses_of place fields (moving_of config)

      by : (is_match : Bool)
          → has_channel (if is_match then map (channel_to number) buses else []) number bus ≡ (is_match && list_any (λ other. other == bus) buses)
      by true = own_buses number bus buses
      by false = refl

  other_opened : (number wanted bus : ℕ) (config : Config) → (number == wanted) ≡ false
      → has_channel (own_channels place fields number config) wanted bus ≡ false
  other_opened number wanted bus config differs = by (any_matches place fields config)
    where
      buses : List ℕ
      buses = buses_of place fields (moving_of config)

      by : (is_match : Bool) → has_channel (if is_match then map (channel_to number) buses else []) wanted bus ≡ false
      by true = other_buses number wanted bus buses differs
      by false = refl

  abbrev is_wanted : ℕ → ℕ → Channel → Bool
  is_wanted wanted bus channel = channel.config == wanted && channel.bus == bus

  earlier_opened : (number wanted bus : ℕ) (configs : List Config) → wanted < number
      → has_channel (config_channels place fields number configs) wanted bus ≡ false
  earlier_opened number wanted bus [] below = refl
  earlier_opened number wanted bus (config ∷ configs) below =
      let differs : (number == wanted) ≡ false = grind (arith, nat_tests, below) in
      list_any-append (is_wanted wanted bus) (own_channels place fields number config) _
      ∙ ap₂ (λ (own later : Bool). own || later) (other_opened number wanted bus config differs)
      (earlier_opened (number + 1) wanted bus configs (omega (arith, below)))

  opened_from : (number k bus : ℕ) (configs : List Config)
      → has_channel (config_channels place fields number configs) (number + k) bus ≡ of_config configs k (opens_bus place fields bus)
  opened_from number k bus [] = refl
  opened_from number zero bus (config ∷ configs) =
      let same : number + 0 ≡ number = omega arith in
      list_any-append (is_wanted (number + 0) bus) (own_channels place fields number config) _
      ∙ ap₂ (λ (own later : Bool). own || later)
      (ap (λ (n : ℕ). has_channel (own_channels place fields number config) n bus) same ∙ own_opened number bus config)
      (earlier_opened (number + 1) (number + 0) bus configs (omega arith))
      ∙ or_false _
  opened_from number (suc k) bus (config ∷ configs) =
      let differs : (number == number + suc k) ≡ false = grind (arith, nat_tests) in
      let same : number + suc k ≡ number + 1 + k = omega arith in
      list_any-append (is_wanted (number + suc k) bus) (own_channels place fields number config) _
      ∙ ap₂ (λ (own later : Bool). own || later)
      (other_opened number (number + suc k) bus config differs)
      (ap (λ (n : ℕ). has_channel (config_channels place fields (number + 1) configs) n bus) same ∙ opened_from (number + 1) k bus configs)

  -- what channels open is what their configurations open
  pub opened_is : (configs : List Config) (number bus : ℕ)
      → has_channel (channels_of configs place fields) number bus ≡ of_config configs number (opens_bus place fields bus)
  opened_is configs number bus =
      let same : number ≡ 0 + number = omega arith in
      ap (λ (n : ℕ). has_channel (config_channels place fields 0 configs) n bus) same ∙ opened_from 0 number bus configs
