-- A timeout is not below 0, and fits.
use Rattle.std.proofs.Common.{◌≡◌, ◌≤◌, pos, sym, ap, codes, arith, rules, w64, to_z, of_z}
use Rattle.std.specs.Prelude.{unsigned_abs}
use Rattle.std.proofs.lemmas.Int.{ints, to_z-of_z}
use Rattle.serde_json.specs.View.{view}
use Rattle.serde_json.specs.Find.{get}
use Rattle.cfg_json.proofs.SettingsLemmas.{whole_or_in, size_in}
use Rattle.cfg_json.proofs.sensors.read_setting.Goals as goal

pub overflow_cast-result : goal.overflow_cast-result
overflow_cast-result c =
    let timeout = c.in_ok-timeout.timeout in
    let small : unsigned_abs timeout ≤ 1000000 = size_in 1000000 timeout
    (whole_or_in (pos 0) (pos 1000000) (pos 0) (get (codes "Timeout") (view c.args.members.now)) timeout
    (record { low = omega (arith, ints); high = omega (arith, ints) }) (sym c.in_ok-timeout.ensures)) in
    let same : unsigned_abs (to_z w64 (of_z w64 timeout)) ≡ unsigned_abs timeout = ap unsigned_abs (to_z-of_z w64 timeout (search rules)) in
    omega (arith, small, same, c.unsigned_abs.ensures.value)
