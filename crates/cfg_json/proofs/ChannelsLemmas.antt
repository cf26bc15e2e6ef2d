-- The channels of a multiplexer, one after another.
use Rattle.std.proofs.Common.{◌≡◌, ℕ, List, [], ◌∷◌, ◌++◌, filter_map, Result, Ok, Err, refl, ap, append_assoc}
use Rattle.cfg_json.specs.declared.channels.Channel.{Channel}
use Rattle.cfg_json.specs.declared.channels.Channel.TheVariants.{Fixed, Moving}
use Rattle.cfg_json.specs.declared.config_fault.ConfigFault.{ConfigFault}
use Rattle.cfg_json.specs.declared.expose.MuxPart.{MuxPart}
use Rattle.cfg_json.specs.Values.{◌>>=◌}
use Rattle.cfg_json.specs.Channels.{fixed_bus, moving_template}

-- a multiplexer with these channels so far, and those that reading the rest gives
abbrev pub with_later : List ℕ → List (List ℕ) → Result (List Channel) ConfigFault → Result MuxPart ConfigFault
with_later fixed moving rest =
    rest >>= λ later. Ok (record { fixed = fixed ++ filter_map fixed_bus later; moving = moving ++ filter_map moving_template later })

pub fixed_more : (fixed : List ℕ) (moving : List (List ℕ)) (bus : ℕ) (rest : Result (List Channel) ConfigFault)
    → with_later (fixed ++ bus ∷ []) moving rest ≡ with_later fixed moving (rest >>= λ later. Ok (Fixed bus ∷ later))
fixed_more fixed moving bus (Ok later) =
    ap (λ (buses : List ℕ). Ok (record { fixed = buses; moving = moving ++ filter_map moving_template later }))
    (append_assoc fixed (bus ∷ []) (filter_map fixed_bus later))
fixed_more fixed moving bus (Err fault) = refl

pub moving_more : (fixed : List ℕ) (moving : List (List ℕ)) (template : List ℕ) (rest : Result (List Channel) ConfigFault)
    → with_later fixed (moving ++ template ∷ []) rest ≡ with_later fixed moving (rest >>= λ later. Ok (Moving template ∷ later))
moving_more fixed moving template (Ok later) =
    ap (λ (templates : List (List ℕ)). Ok (record { fixed = fixed ++ filter_map fixed_bus later; moving = templates }))
    (append_assoc moving (template ∷ []) (filter_map moving_template later))
moving_more fixed moving template (Err fault) = refl
