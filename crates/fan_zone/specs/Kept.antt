-- Fans that are kept in place: those that stand at the front, or at the back, as they stood there before.
use Rattle.std.specs.Prelude.{◌≡◌, ℕ, ◌≤◌, List, ◌++◌, length, map, take, drop, slice_range}
use Rattle.fan_zone.specs.declared.rows.FanPlan.{FanPlan}
use Rattle.fan_zone.specs.declared.rows.FanRow.{FanRow}
use Rattle.fan_zone.specs.Live.{LiveControl, LiveFan, fan_id}
use Rattle.fan_zone.specs.Sound.{HaveOwnIds, fan_plan_id}
use Rattle.fan_zone.specs.SetRows.{fan_plan_of, fan_row_of}

-- the first plans and rows, up to a number, are now those of these live fans; the others are as they were
pub record KeepsFront (controls : List LiveControl) (kept : List LiveFan) (number : ℕ) (plans : List FanPlan) (rows : List FanRow)
    (next_plans : List FanPlan) (next_rows : List FanRow) : Type 0
  where
    pub few : number ≤ length plans
    pub ids : map fan_plan_id (take number plans) ≡ map fan_id kept
    pub plans_are : next_plans ≡ map (fan_plan_of controls) kept ++ drop number plans
    pub rows_are : next_rows ≡ map (fan_row_of plans rows) kept ++ drop number rows

-- the plans and rows from a number on are now those of these live fans; the others are as they were
pub record KeepsBack (controls : List LiveControl) (kept : List LiveFan) (number : ℕ) (plans : List FanPlan) (rows : List FanRow)
    (next_plans : List FanPlan) (next_rows : List FanRow) : Type 0
  where
    pub few : number ≤ length plans
    pub ids : map fan_plan_id (drop number plans) ≡ map fan_id kept
    pub plans_are : next_plans ≡ take number plans ++ map (fan_plan_of controls) kept
    pub rows_are : next_rows ≡ take number rows ++ map (fan_row_of plans rows) kept

-- the plans and rows before one number are now those of the fans in front, and those from another number on are those of the fans at the back; what
-- the fans in the middle showed is found between the two
pub record KeepsEnds (controls : List LiveControl) (front middle back : List LiveFan) (start end : ℕ) (plans : List FanPlan) (rows : List FanRow)
    (next_plans : List FanPlan) (next_rows : List FanRow) : Type 0
  where
    pub order : start ≤ end
    pub few : end ≤ length next_plans
    pub same : length next_plans ≡ length next_rows
    pub ids : HaveOwnIds fan_plan_id (slice_range next_plans start end)
    pub front_plans : take start next_plans ≡ map (fan_plan_of controls) front
    pub front_rows : take start next_rows ≡ map (fan_row_of plans rows) front
    pub back_plans : drop end next_plans ≡ map (fan_plan_of controls) back
    pub back_rows : drop end next_rows ≡ map (fan_row_of plans rows) back
    pub between : map (fan_row_of (slice_range next_plans start end) (slice_range next_rows start end)) middle ≡ map (fan_row_of plans rows) middle
