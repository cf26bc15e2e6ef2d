-- A row more, in its slot.
use Rattle.std.proofs.Common.{ℤ, pos, slice_index_or, SFits, w64, to_z, of_z, rules}
use Rattle.std.proofs.lemmas.Int.{to_z-of_z}
use Rattle.cfg_json.proofs.StepwisesLemmas.{row_more}
use Rattle.cfg_json.proofs.stepwises.rows_of.Goals as goal

pub loop-i-preserved : goal.loop-i-preserved
loop-i-preserved c =
    let reading : ℤ = slice_index_or c.args.readings.now c.loop-i.i (pos 0) in
    let output : ℤ = slice_index_or c.args.outputs.now c.loop-i.i (pos 0) in
    let reading_fits : SFits w64 reading = search rules in
    let output_fits : SFits w64 output = search rules in
    row_more c.loop-i.rows c.args.readings.now c.args.outputs.now c.loop-i.i (to_z w64 (of_z w64 reading)) (to_z w64 (of_z w64 output))
    c.loop-i-test.true c.requires.few c.requires.same (to_z-of_z w64 reading reading_fits) (to_z-of_z w64 output output_fits) c.loop-i.invariant
