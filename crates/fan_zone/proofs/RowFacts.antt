-- The rows that the loops write are those of the definitions.
use Rattle.std.proofs.Common.{◌≡◌, ℕ, ◌<◌, Bool, false, List, length, get_or, Option, Some, slice_get, ap, sym, ◌∙◌, ℤ}
use Rattle.std.proofs.lemmas.Option.{slice_get-get_or}
use Rattle.bmc_base.specs.declared.milli.Milli.{Milli}
use Rattle.ctl_face.specs.Seen.{Seen}
use Rattle.fan_zone.specs.declared.held.Held.{Held}
use Rattle.fan_zone.specs.declared.rows.ZonePlan.{ZonePlan}
use Rattle.fan_zone.specs.declared.rows.ZoneRow.{ZoneRow}
use Rattle.fan_zone.specs.declared.rows.FanPlan.{FanPlan}
use Rattle.fan_zone.specs.declared.rows.FanRow.{FanRow}
use Rattle.fan_zone.specs.Passes.{milli}
use Rattle.fan_zone.specs.Rows.{fan_row, min_thermal, held_duty, held_at, holder_number}
use Rattle.fan_zone.specs.RowSteps.{bare_row}

pub fan_written : (strict : Bool) (held : List Held) (bank : List Seen) (plans : List ZonePlan) (rows : List ZoneRow) (fans : List FanPlan) (n : ℕ)
    (d : FanPlan) (row : FanRow) (duty : Milli) → n < length fans
    → duty.0 ≡ held_duty strict bank plans rows (held_at held (get_or fans n d).holder) → record { name = row.name; duty = Some duty }
    ≡ fan_row strict held bank plans rows fans n row
fan_written strict held bank plans rows fans n d row duty lt is =
    let plan : slice_get fans n ≡ Some (get_or fans n d) = slice_get-get_or fans n d lt in
    let same : duty.0 ≡ held_duty strict bank plans rows (held_at held (holder_number (slice_get fans n))) =
    is ∙ ap (λ (o : Option FanPlan). held_duty strict bank plans rows (held_at held (holder_number o))) (sym plan) in
    ap (λ (z : ℤ). record { name = row.name; duty = Some (milli z) }) same

pub bare_written : (plans : List ZonePlan) (n : ℕ) (d : ZonePlan) (row : ZoneRow) (low : Milli) → n < length plans
    → low ≡ (get_or plans n d).setting.min_thermal → record { name = row.name; failsafe = false; setpoint = Some low } ≡ bare_row plans n row
bare_written plans n d row low lt is =
    let plan : slice_get plans n ≡ Some (get_or plans n d) = slice_get-get_or plans n d lt in
    let same : low.0 ≡ min_thermal (slice_get plans n) = ap (λ (m : Milli). m.0) is ∙ ap min_thermal (sym plan) in
    ap (λ (z : ℤ). record { name = row.name; failsafe = false; setpoint = Some (milli z) }) same
