-- A number that is at most so many fits.
use Rattle.std.proofs.Common.{◌≤◌, arith}
use Rattle.tmpl.specs.Rendering.{fields_of}
use Rattle.inventory.proofs.ItemsLemmas.{number_within}
use Rattle.inventory.proofs.items.render_number.Goals as goal

pub overflow_cast-result : goal.overflow_cast-result
overflow_cast-result c =
    let spot = c.args.spot.now in
    let within : c.in_ok-number.number ≤ c.from.result =
    number_within spot.place (fields_of spot.fru) spot.index c.in_ok-template.field-0.now c.from.result c.in_ok-number.number c.in_ok-number.ensures in
    omega (arith, within, c.from.ensures)
