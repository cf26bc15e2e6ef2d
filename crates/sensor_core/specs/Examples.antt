-- A sensor with an alarm above 100.000 and one below 0.000, and some of its outcomes.
use Rattle.std.specs.Prelude.{ℕ, ℤ, pos, true, false, List, ◌∷◌, ◌++◌, replicate, map}
use Rattle.bmc_base.specs.declared.milli.Milli.{Milli}
use Rattle.sensor_core.specs.declared.limit.Limit.{Limit}
use Rattle.sensor_core.specs.declared.setting.SensorSetting.{SensorSetting}
use Rattle.sensor_core.specs.Sensors.{Outcome, Lost, Sensor, sensor_of}

-- goes on at 100.000 and off below 95.000
abbrev pub hot : Limit
hot = record { above = true; severity = 1; value = record { 0 = pos 100000 }; hysteresis = record { 0 = pos 5000 } }

-- goes on at 0.000 and off above it
abbrev pub cold : Limit
cold = record { above = false; severity = 0; value = record { 0 = pos 0 }; hysteresis = record { 0 = pos 0 } }

-- half of a raw number, and 0.050, with a timeout of 20 ticks
abbrev pub halved : SensorSetting
halved = record {
  num = pos 1;
  den = pos 2;
  offset = record { 0 = pos 50 };
  timeout = 20;
  limits = hot ∷ replicate 7 cold;
  count = 2;
}

-- the values of these thousandths
abbrev pub millis : List ℤ → List Milli
millis numbers = map (λ number. record { 0 = number }) numbers

abbrev pub losses_then : ℕ → List Outcome → List Outcome
losses_then count outcomes = replicate count Lost ++ outcomes

-- the sensor that had these outcomes
abbrev pub after : List Outcome → Sensor
after outcomes = sensor_of halved outcomes
