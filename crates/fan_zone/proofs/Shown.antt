-- The rows of zones, one controller on.
use Rattle.std.proofs.Common.{◌≡◌, ◌≢◌, ℕ, ◌+◌, ◌<◌, ◌≤◌, ℤ, Bool, ◌&&◌, ◌||◌, if◌then◌else◌, List, [], ◌∷◌, length, drop, set, get_or}
use Rattle.std.proofs.Common.{Option, Some, None, option_map, nat_eq, refl, ap, sym, ◌∙◌, subst, arith}
use Rattle.std.proofs.Math.Bool.{or_assoc, or-false}
use Rattle.std.proofs.lemmas.Bool.{eq-eqb, ne_eqb}
use Rattle.std.proofs.lemmas.List.{at_drop_more, at_drop_all}
use Rattle.std.specs.Int.{int_max}
use Rattle.std.specs.List.{fold}
use Rattle.std.specs.Option.{is_some}
use Rattle.bmc_base.specs.declared.milli.Milli.{Milli}
use Rattle.ctl_face.specs.Seen.{Seen}
use Rattle.fan_zone.specs.declared.held.Held.{Held}
use Rattle.fan_zone.specs.declared.rows.ZonePlan.{ZonePlan}
use Rattle.fan_zone.specs.declared.rows.ZoneRow.{ZoneRow}
use Rattle.sensor_core.specs.Sensors.{Sensor}
use Rattle.fan_zone.specs.Inputs.{has_bad_input}
use Rattle.fan_zone.specs.Passes.{milli, thermal_setpoint}
use Rattle.fan_zone.specs.Rows.{numbered, zone_row, is_in_failsafe, output_of, raised, thermal_output, thermal_outputs, with_output}
use Rattle.fan_zone.specs.RowSteps.{bare_row, with_held}
use Rattle.fan_zone.specs.Sound.{AreSmallRows, HasSmallRow}
use Rattle.fan_zone.proofs.Numbered.{all_set, numbered_set, numbered_twice, numbered_none}

abbrev row_of : List ℕ → Bool → Option Milli → ZoneRow
row_of name failsafe setpoint = record { name = name; failsafe = failsafe; setpoint = setpoint }

-- a setpoint that is raised by some outputs
abbrev raised_by : List ℤ → Option Milli → Option Milli
raised_by outputs setpoint = option_map (λ (best : Milli). milli (fold int_max best.0 outputs)) setpoint

-- a row with what more controllers tell of its zone
abbrev pub with_more : List (Option Sensor) → ℕ → List Seen → List Held → ℕ → ZoneRow → ZoneRow
with_more slots now bank more zone row =
    row_of row.name (row.failsafe || is_in_failsafe slots now zone more) (raised_by (thermal_outputs zone more bank) row.setpoint)

-- a controller tells nothing of another zone
more_other : (slots : List (Option Sensor)) (now : ℕ) (bank : List Seen) (held : Held) (more : List Held) (zone : ℕ) (row : ZoneRow) → zone ≢ held.zone
    → with_more slots now bank (held ∷ more) zone row ≡ with_more slots now bank more zone row
more_other slots now bank held more zone row ne =
    let by = λ (b : Bool). row_of row.name (row.failsafe || ((b && has_bad_input slots now held.inputs) || is_in_failsafe slots now zone more))
    (raised_by (with_output (if b && is_some (thermal_setpoint held.role) then output_of bank held else None) (thermal_outputs zone more bank)) row.setpoint) in
    ap by (ne_eqb held.zone zone (λ e. ne (sym e)))

fold_more : (best : ℤ) (output : Option ℤ) (outputs : List ℤ) → fold int_max best (with_output output outputs) ≡ fold int_max (raised best output) outputs
fold_more best None outputs = refl
fold_more best (Some output) outputs = refl

raised_more : (output : Option ℤ) (outputs : List ℤ) (setpoint : Option Milli) → raised_by (with_output output outputs) setpoint
    ≡ raised_by outputs (option_map (λ (best : Milli). milli (raised best.0 output)) setpoint)
raised_more output outputs None = refl
raised_more output outputs (Some best) = ap (λ (z : ℤ). Some (milli z)) (fold_more best.0 output outputs)

-- and of its own zone what `with_held` adds
more_own : (slots : List (Option Sensor)) (now : ℕ) (bank : List Seen) (held : Held) (more : List Held) (row : ZoneRow)
    → with_more slots now bank (held ∷ more) held.zone row ≡ with_more slots now bank more held.zone (with_held slots now bank held row)
more_own slots now bank held more row =
    let bad = has_bad_input slots now held.inputs in
    let rest = is_in_failsafe slots now held.zone more in
    let outputs = thermal_outputs held.zone more bank in
    let output = thermal_output held.zone bank held in
    let before = raised_by (with_output output outputs) row.setpoint in
    let mode : (row.failsafe || ((nat_eq held.zone held.zone && bad) || rest)) ≡ ((row.failsafe || bad) || rest) =
    ap (λ (b : Bool). row.failsafe || ((b && bad) || rest)) (eq-eqb held.zone held.zone refl) ∙ sym (or_assoc row.failsafe bad rest) in
    ap (λ (b : Bool). row_of row.name b before) mode
    ∙ ap (row_of row.name ((row.failsafe || bad) || rest)) (raised_more output outputs row.setpoint)

raised_none : (setpoint : Option Milli) → raised_by [] setpoint ≡ setpoint
raised_none None = refl
raised_none (Some best) = refl

more_none : (slots : List (Option Sensor)) (now : ℕ) (bank : List Seen) (zone : ℕ) (row : ZoneRow) → with_more slots now bank [] zone row ≡ row
more_none slots now bank zone row =
    ap (λ (b : Bool). row_of row.name b (raised_by [] row.setpoint)) (or-false row.failsafe) ∙ ap (row_of row.name row.failsafe) (raised_none row.setpoint)

-- what the loop keeps: with what the controllers from n on tell, the rows are those of the definition
pub record Shown (slots : List (Option Sensor)) (now : ℕ) (plans : List ZonePlan) (held : List Held) (bank : List Seen)
    (start rows : List ZoneRow) (n : ℕ) : Type 0
  where
    pub small : AreSmallRows rows
    pub rest : numbered (with_more slots now bank (drop n held)) 0 rows ≡ numbered (zone_row slots now plans held bank) 0 start

pub shown_start : (slots : List (Option Sensor)) (now : ℕ) (plans : List ZonePlan) (held : List Held) (bank : List Seen) (start rows : List ZoneRow)
    → rows ≡ numbered (bare_row plans) 0 start → AreSmallRows rows → Shown slots now plans held bank start rows 0
shown_start slots now plans held bank start rows is small = record {
  small = small;
  rest = ap (numbered (with_more slots now bank held) 0) is ∙ numbered_twice (bare_row plans) (with_more slots now bank held) 0 start;
}

pub shown_more : (slots : List (Option Sensor)) (now : ℕ) (plans : List ZonePlan) (held : List Held) (bank : List Seen) (start rows : List ZoneRow) (n : ℕ)
    (one : Held) (d row : ZoneRow)
    → Shown slots now plans held bank start rows n → n < length held → one ≡ get_or held n one → one.zone < length rows
    → row ≡ with_held slots now bank one (get_or rows one.zone d) → HasSmallRow row
    → Shown slots now plans held bank start (set rows one.zone row) (n + 1)
shown_more slots now plans held bank start rows n one d row s lt at within is small =
    let left = drop (n + 1) held in
    let more = λ (l : List Held). numbered (with_more slots now bank l) 0 rows in
    let here : more (drop n held) ≡ more (one ∷ left) = at_drop_more more held n one lt ∙ ap (λ (h : Held). more (h ∷ left)) (sym at) in
    let zone : 0 + one.zone ≡ one.zone = omega arith in
    let own : with_more slots now bank (one ∷ left) (0 + one.zone) (get_or rows one.zone d) ≡ with_more slots now bank left (0 + one.zone) row =
    subst (λ (z : ℕ). with_more slots now bank (one ∷ left) z (get_or rows one.zone d) ≡ with_more slots now bank left z row) (sym zone)
    (more_own slots now bank one left (get_or rows one.zone d) ∙ ap (with_more slots now bank left one.zone) (sym is)) in
    let next : more (one ∷ left) ≡ numbered (with_more slots now bank left) 0 (set rows one.zone row) =
    numbered_set (with_more slots now bank (one ∷ left)) (with_more slots now bank left) 0 rows one.zone d row within
    (λ m x ne. more_other slots now bank one left m x (λ e. ne (e ∙ sym zone))) own in
    record { small = all_set HasSmallRow rows one.zone row s.small small; rest = sym next ∙ (sym here ∙ s.rest) }

pub shown_end : (slots : List (Option Sensor)) (now : ℕ) (plans : List ZonePlan) (held : List Held) (bank : List Seen) (start rows : List ZoneRow) (n : ℕ)
    → Shown slots now plans held bank start rows n
    → length held ≤ n → rows ≡ numbered (zone_row slots now plans held bank) 0 start
shown_end slots now plans held bank start rows n s le =
    sym (at_drop_all (λ (l : List Held). numbered (with_more slots now bank l) 0 rows) held n le
    ∙ numbered_none (with_more slots now bank []) 0 rows (more_none slots now bank))
    ∙ s.rest
