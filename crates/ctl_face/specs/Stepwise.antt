-- One step of a stepwise controller, in thousandths.
use Rattle.std.specs.Prelude.{ℕ, ◌-◌, int_lt, Bool, true, not, ◌||◌, if◌then◌else◌, ℤ, ◌+ℤ◌, ◌-ℤ◌, List, take, Option, Some, None, option_map, slice_get}
use Rattle.std.specs.List.{prefix_len}
use Rattle.ctl_face.specs.declared.sample.Sample.{Sample}
use Rattle.ctl_face.specs.declared.setting.StepRow.{StepRow}
use Rattle.ctl_face.specs.declared.setting.StepSetting.{StepSetting}
use Rattle.ctl_face.specs.declared.state.CtlState.{CtlState}

-- the rows that count
abbrev pub used_rows : StepSetting → List StepRow
used_rows setting = take setting.count setting.rows

-- whether the input is not below the reading of the row
abbrev pub is_reached : ℤ → StepRow → Bool
is_reached input row = not (int_lt input row.reading.0)

-- how many rows are reached, from the first one on
abbrev pub reached_count : List StepRow → ℤ → ℕ
reached_count rows input = prefix_len (is_reached input) rows

-- the last one of these rows, or the first row where there is none: `-` stops at 0
abbrev pub row_at : List StepRow → ℤ → Option StepRow
row_at rows input = slice_get rows (reached_count rows input - 1)

-- whether the input is outside the band round the base, or there is no base
abbrev pub leaves_base : StepSetting → Option ℤ → ℤ → Bool
leaves_base setting None input = true
leaves_base setting (Some base) input =
    int_lt (base +ℤ setting.positive.0) input || int_lt input (base -ℤ setting.negative.0)

-- the state after a step: a new base and its output, or as before
abbrev pub stepwise_step : StepSetting → CtlState → Sample → CtlState
stepwise_step setting old sample =
    let input = sample.input.0 in
    if leaves_base setting old.base input
    then record {
      integral = old.integral;
      error = old.error;
      base = Some input;
      output = option_map (λ row. row.output.0) (row_at (used_rows setting) input);
    }
    else old
