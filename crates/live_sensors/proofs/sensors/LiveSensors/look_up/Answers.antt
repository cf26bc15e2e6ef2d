use Rattle.std.proofs.Common.{rules, subst, ◌≡◌, List, ℕ, Some, Ok, sym}
use Rattle.std.specs.Cmp.Lexicographic.{bytes_decides}
use Rattle.std.proofs.lemmas.Map.Made.{lookup_key_same}
use Rattle.bmc_base.specs.Names.{name_of}
use Rattle.live_sensors.proofs.SlotsLemmas.{contains_found, is_name}
use Rattle.live_sensors.proofs.sensors.LiveSensors.look_up.Goals as goal

pub returns-clause-contains : goal.returns-clause-contains
returns-clause-contains c = contains_found c.args.self.now.names c.args.name.now (Some c.in_ok-position.slot.now) (search rules)

pub returns-clause-named : goal.returns-clause-named
returns-clause-named c =
    let key = c.in_ok-position.key.now in
    let same : c.args.name.now ≡ key = lookup_key_same bytes_decides c.args.name.now c.self.inside.slots.entries key (sym c.in_ok-position.ensures.key) in
    subst (λ (name : List ℕ). name_of name ≡ Ok name) (sym same) (is_name key c.as_str-name.ensures.not_empty c.as_str-name.ensures.limit)
