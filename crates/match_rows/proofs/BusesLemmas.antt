-- The bus that a template gives.
use Rattle.std.proofs.Common.{◌≡◌, ◌∙◌, ℕ, ◌+◌, ◌<◌, ◌≤◌, List, [], ◌∷◌, ◌++◌, length, map, take, get_or, Bool, true, false, Option, Some, None}
use Rattle.std.proofs.Common.{if◌then◌else◌, nat_le, refl, sym, ap, arith, append_assoc, append-nil}
use Rattle.std.specs.Prelude.{option_and_then, option_to_list, IfSome}
use Rattle.std.specs.List.{flat_map, cons_option}
use Rattle.std.proofs.lemmas.List.{take_more, map-append}
use Rattle.std.proofs.lemmas.List.Elements.{filter_map-append}
use Rattle.std.proofs.lemmas.Grind.{flat_map-append}
use Rattle.std.proofs.lemmas.Bool.Decides.{nat_tests}
use Rattle.bmc_base.specs.Places.{Place, last_bus}
use Rattle.fru_area.specs.declared.field.Field.{Field}
use Rattle.tmpl.specs.Operations.{up_to}
use Rattle.tmpl.specs.Rendering.{rendered_number, fields_of}
use Rattle.tmpl.specs.declared.spot.Spot.{Spot}
use Rattle.cfg_json.specs.Configs.{moving_in}
use Rattle.cfg_json.specs.declared.expose.Expose.{Expose}
use Rattle.probe_lang.specs.declared.rows.Channel.{Channel}
use Rattle.match_rows.specs.Matching.{buses_at, channel_to}

up_to_within : (max : ℕ) (found : Option ℕ) (n : ℕ) → option_and_then (up_to max) found ≡ Some n → n ≤ max
up_to_within max None n given = absurd (cc)
up_to_within max (Some m) n given = by (nat_le m max) refl given
  where
    by : (within : Bool) → nat_le m max ≡ within → (if within then Some m else None) ≡ Some n → n ≤ max
    by true is given = let same : m ≡ n = cc in grind (arith, nat_tests, is, same)
    by false is given = absurd (cc)

-- a number that is rendered is at most the maximum
pub rendered_within : (place : Option Place) (fields : Option (List Field)) (index : ℕ) (template : List ℕ) (max n : ℕ)
    → rendered_number place fields index template max ≡ Some n → n ≤ max
unfolding rendered_number
rendered_within place fields index template max n given = up_to_within max _ n given

-- the bus that a template gives, if it gives one
abbrev bus_at : Spot → List ℕ → Option ℕ
bus_at spot template = rendered_number spot.place (fields_of spot.fru) spot.index template last_bus

pub bus_within : (spot : Spot) (template : List ℕ) (bus : Option ℕ) → bus ≡ bus_at spot template → IfSome bus (λ bus. bus ≤ last_bus)
bus_within spot template None is = tt
bus_within spot template (Some n) is = rendered_within spot.place (fields_of spot.fru) spot.index template last_bus n (sym is)

one_bus : (spot : Spot) (template : List ℕ) (bus : Option ℕ) → bus ≡ bus_at spot template → buses_at spot (template ∷ []) ≡ option_to_list bus
one_bus spot template bus is = by (bus_at spot template) ∙ ap option_to_list (sym is)
  where
    by : (bus : Option ℕ) → cons_option bus [] ≡ option_to_list bus
    by None = refl
    by (Some n) = refl

-- channels behind others, of some templates more
pub channels_more : (number : ℕ) (spot : Spot) (front back : List (List ℕ)) (old channels new : List Channel)
    → channels ≡ old ++ map (channel_to number) (buses_at spot front) → new ≡ channels ++ map (channel_to number) (buses_at spot back)
    → new ≡ old ++ map (channel_to number) (buses_at spot (front ++ back))
channels_more number spot front back old channels new so_far more =
    more ∙ ap (λ (l : List Channel). l ++ map (channel_to number) (buses_at spot back)) so_far
    ∙ append_assoc old (map (channel_to number) (buses_at spot front)) _
    ∙ ap (λ (l : List Channel). old ++ l)
    (sym (map-append (channel_to number) (buses_at spot front) (buses_at spot back))
    ∙ ap (map (channel_to number)) (sym (filter_map-append (bus_at spot) front back)))

pub template_more : (number : ℕ) (spot : Spot) (templates : List (List ℕ)) (i : ℕ) (template : List ℕ) (bus : Option ℕ) (old channels new : List Channel)
    → i < length templates → template ≡ get_or templates i template → bus ≡ bus_at spot template
    → channels ≡ old ++ map (channel_to number) (buses_at spot (take i templates))
    → new ≡ channels ++ map (channel_to number) (option_to_list bus)
    → new ≡ old ++ map (channel_to number) (buses_at spot (take (i + 1) templates))
template_more number spot templates i template bus old channels new less here is so_far more =
    channels_more number spot (take i templates) (template ∷ []) old channels new so_far
    (more ∙ ap (λ (l : List ℕ). channels ++ map (channel_to number) l) (sym (one_bus spot template bus is)))
    ∙ ap (λ (l : List (List ℕ)). old ++ map (channel_to number) (buses_at spot l))
    (ap (λ (last : List ℕ). take i templates ++ last ∷ []) here ∙ sym (take_more templates i template less))

abbrev moving_at : Expose → List (List ℕ)
moving_at expose = moving_in expose.body

pub expose_more : (number : ℕ) (spot : Spot) (exposes : List Expose) (i : ℕ) (expose : Expose) (old channels new : List Channel)
    → i < length exposes → expose ≡ get_or exposes i expose
    → channels ≡ old ++ map (channel_to number) (buses_at spot (flat_map moving_at (take i exposes)))
    → new ≡ channels ++ map (channel_to number) (buses_at spot (moving_at expose))
    → new ≡ old ++ map (channel_to number) (buses_at spot (flat_map moving_at (take (i + 1) exposes)))
expose_more number spot exposes i expose old channels new less here so_far more =
    channels_more number spot (flat_map moving_at (take i exposes)) (moving_at expose) old channels new so_far more
    ∙ ap (λ (l : List (List ℕ)). old ++ map (channel_to number) (buses_at spot l))
    (ap (λ (l : List (List ℕ)). flat_map moving_at (take i exposes) ++ l) (sym (append-nil (moving_at expose)))
    ∙ sym (flat_map-append moving_at (take i exposes) (expose ∷ []))
    ∙ ap (flat_map moving_at) (ap (λ (last : Expose). take i exposes ++ last ∷ []) here ∙ sym (take_more exposes i expose less)))
