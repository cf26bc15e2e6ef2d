-- What rows do on buses, and which buses they open.
use Rattle.std.specs.Prelude.{ℕ, Bool, not, ◌==◌, ◌&&◌, ◌||◌, false, nat_eq, List, [], ◌∷◌}
use Rattle.std.specs.List.{list_any}
use Rattle.probe_lang.specs.Sights.{has_hit}
use Rattle.probe_lang.specs.declared.rows.Channel.{Channel}
use Rattle.found_set.specs.declared.row.Row.{Row}
use Rattle.found_set.specs.Found.{Rule, is_root}
use Rattle.found_set.specs.Marks.{is_marked}

-- whether a row is on a bus that passes
abbrev pub is_on_bus : (ℕ → Bool) → Row → Bool
is_on_bus test row = test row.place.bus

-- whether a row on a bus that passes has a hit
abbrev pub has_on : (ℕ → Bool) → ℕ → ℕ → Row → Bool
has_on test config pattern row = test row.place.bus && has_hit row.hits config pattern

-- whether a channel of a configuration that is found leads to a bus
abbrev pub leads : List Bool → ℕ → Channel → Bool
leads found bus channel = is_marked found channel.config && channel.bus == bus

-- whether a channel of a row on a root bus does
abbrev pub leads_on : List Bool → ℕ → Row → Bool
leads_on found bus row = is_root row.place.bus && list_any (leads found bus) row.channels

-- whether a fixed channel of a configuration that is found leads to a bus
abbrev pub fixed_opens : List Rule → List Bool → ℕ → Bool
fixed_opens [] later bus = false
fixed_opens (rule ∷ rules) [] bus = false
fixed_opens (rule ∷ rules) (is_found ∷ later) bus = (is_found && list_any (nat_eq bus) rule.fixed) || fixed_opens rules later bus

-- whether a bus passes and is no root bus
abbrev pub is_beyond : (ℕ → Bool) → ℕ → Bool
is_beyond test bus = not (is_root bus) && test bus
