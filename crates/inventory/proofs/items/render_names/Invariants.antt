use Rattle.std.proofs.Common.{◌≡◌, ◌++◌, List, ℕ, drop, option_map}
use Rattle.tmpl.specs.Rendering.{fields_of}
use Rattle.inventory.specs.Items.{names_at}
use Rattle.inventory.proofs.items.render_names.Given as goal

abbrev pub invariant-loop-template : goal.invariant-loop-template
invariant-loop-template l =
    option_map (λ (names : List (List ℕ)). l.names ++ names)
    (names_at l.spot.place (fields_of l.spot.fru) l.spot.index (drop l.template-index l.templates))
    ≡ names_at l.spot.place (fields_of l.spot.fru) l.spot.index l.templates
