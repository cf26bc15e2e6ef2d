-- A sensor that a table lends.
use Rattle.std.specs.Prelude.{ℕ, ◌≡◌, Option, Some, OnSome, slice_set}
use Rattle.std.specs.Borrow.{LendsSo, MutBor, Fml}
use Rattle.sensor_core.specs.Sensors.{Sensor}
use Rattle.sensor_core.specs.Tables.{Table}
use Rattle.sensor_core.specs.contracts.table.SensorTable.{the_row as table_row}
use Rattle.sensor_core.specs.contracts.sensor.Sensor.{the_row as sensor_row}

-- the table with this sensor in a slot that has one
abbrev pub with_sensor : Table → ℕ → Sensor → Table
with_sensor table slot sensor = record { slots = slice_set table.slots slot (Some sensor); spare = table.spare }

-- the table ends with the last value of the lent sensor in its slot, and as it was where none is lent
abbrev pub LendsSensor : MutBor Table → ℕ → Option (MutBor Sensor) → Fml
LendsSensor table slot lent =
    LendsSo table_row sensor_row table lent (λ end sensor. OnSome lent (end ≡ with_sensor table.now slot sensor)) (λ end. end ≡ table.now)
