use Rattle.std.proofs.Common.{◌≡◌, ◌++◌, List, ℕ, Option, drop}
use Rattle.std.specs.List.{filter_map}
use Rattle.bmc_base.specs.Places.{last_bus}
use Rattle.tmpl.specs.Rendering.{fields_of, rendered_number}
use Rattle.inventory.proofs.items.render_buses.Given as goal

abbrev pub invariant-loop-template : goal.invariant-loop-template
invariant-loop-template l =
    let bus_at : List ℕ → Option ℕ = λ template. rendered_number l.spot.place (fields_of l.spot.fru) l.spot.index template last_bus in
    l.buses.items ++ filter_map bus_at (drop l.template-index l.templates) ≡ filter_map bus_at l.templates
