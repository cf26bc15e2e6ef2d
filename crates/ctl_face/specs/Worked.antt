-- Settings, and what their first steps give.
use Rattle.std.specs.Prelude.{ℕ, ℤ, pos, neg_ℤ, List, [], ◌∷◌, map, replicate, Option, Some}
use Rattle.bmc_base.specs.declared.milli.Milli.{Milli}
use Rattle.ctl_face.specs.Steps.{step, blank}
use Rattle.ctl_face.specs.declared.sample.Sample.{Sample}
use Rattle.ctl_face.specs.declared.setting.PidClass.TheVariants.{Fan, Temp}
use Rattle.ctl_face.specs.declared.setting.PidSetting.{PidSetting}
use Rattle.ctl_face.specs.declared.setting.Setting.{Setting}
use Rattle.ctl_face.specs.declared.setting.StepRow.{StepRow}
use Rattle.ctl_face.specs.declared.setting.StepSetting.{StepSetting}
use Rattle.ctl_face.specs.declared.state.CtlState.{CtlState}

abbrev pub milli : ℤ → Milli
milli z = record { 0 = z }

-- a sample of this input and this setpoint
abbrev pub sample_of : ℤ → ℤ → Sample
sample_of input setpoint = record { input = milli input; setpoint = milli setpoint }

-- the states after each of the samples
abbrev pub states_from : Setting → CtlState → List Sample → List CtlState
states_from setting old [] = []
states_from setting old (sample ∷ samples) = step setting old sample ∷ states_from setting (step setting old sample) samples

abbrev pub states : Setting → List Sample → List CtlState
states setting samples = states_from setting blank samples

-- a temperature that is wanted at 30, with rises of 5 a second
abbrev pub temperature : PidSetting
temperature = record {
  class = Temp;
  setpoint = milli (pos 30000);
  p = neg_ℤ (pos 300000);
  i = neg_ℤ (pos 200000);
  d = pos 0;
  ff_gain = pos 0;
  ff_off = milli (pos 0);
  i_min = milli (neg_ℤ (pos 100000));
  i_max = milli (pos 100000);
  out_min = milli (pos 0);
  out_max = milli (pos 100000);
  slew_neg = milli (pos 0);
  slew_pos = milli (pos 5000);
}

-- a fan with all parts, with falls of 15.005 a second
abbrev pub fan : PidSetting
fan = record {
  class = Fan;
  setpoint = milli (pos 0);
  p = pos 12345;
  i = pos 6789;
  d = neg_ℤ (pos 1001);
  ff_gain = pos 10007;
  ff_off = milli (neg_ℤ (pos 250));
  i_min = milli (neg_ℤ (pos 3000));
  i_max = milli (pos 30000);
  out_min = milli (pos 1000);
  out_max = milli (pos 100000);
  slew_neg = milli (neg_ℤ (pos 15005));
  slew_pos = milli (pos 0);
}

abbrev pub row_of : ℤ → ℤ → StepRow
row_of reading output = record { reading = milli reading; output = milli output }

-- these rows, and no hysteresis upwards and this one downwards
abbrev pub stepwise : List StepRow → ℕ → ℤ → StepSetting
stepwise rows count negative = record { rows = rows; count = count; positive = milli (pos 0); negative = milli negative }

abbrev pub unused : ℕ → List StepRow
unused n = replicate n (row_of (pos 0) (pos 0))

-- 2000 from 20 on and 4000 from 40 on, until the reading has fallen by more than 2
abbrev pub two_rows : StepSetting
two_rows = stepwise (row_of (pos 20000) (pos 2000000) ∷ row_of (pos 40000) (pos 4000000) ∷ unused 18) 2 (pos 2000)

-- rows out of order
abbrev pub three_rows : StepSetting
three_rows = stepwise (row_of (pos 30000) (pos 3000) ∷ row_of (pos 50000) (pos 5000) ∷ row_of (pos 10000) (pos 1000) ∷ unused 17) 3 (pos 0)

abbrev pub outputs : List CtlState → List (Option ℤ)
outputs after = map (λ (state : CtlState). state.output) after

abbrev pub integrals : List CtlState → List ℤ
integrals after = map (λ (state : CtlState). state.integral) after

abbrev pub bases : List CtlState → List (Option ℤ)
bases after = map (λ (state : CtlState). state.base) after

abbrev pub errors : List CtlState → List (Option ℤ)
errors after = map (λ (state : CtlState). state.error) after

-- samples of these inputs at one setpoint
abbrev pub samples_at : ℤ → List ℤ → List Sample
samples_at setpoint inputs = map (λ (input : ℤ). sample_of input setpoint) inputs

abbrev pub temperature_samples : List Sample
temperature_samples = samples_at (pos 30000) (pos 40001 ∷ pos 80001 ∷ pos 29999 ∷ [])

abbrev pub fan_samples : List Sample
fan_samples =
    sample_of (pos 2000000) (pos 2500000) ∷ sample_of (pos 2400001) (pos 2500000)
    ∷ sample_of (pos 2600007) (pos 2000000) ∷ sample_of (pos 2100000) (pos 2000000) ∷ []

abbrev pub falling_samples : List Sample
falling_samples = samples_at (pos 0) (pos 45000 ∷ pos 44000 ∷ pos 42999 ∷ pos 40999 ∷ pos 39999 ∷ pos 10000 ∷ [])

abbrev pub rising_samples : List Sample
rising_samples = samples_at (pos 0) (pos 5000 ∷ pos 29999 ∷ pos 30000 ∷ pos 49999 ∷ pos 50000 ∷ pos 60000 ∷ pos 20000 ∷ [])

-- a number at each step
abbrev pub given : List ℤ → List (Option ℤ)
given numbers = map (λ (z : ℤ). Some z) numbers
