-- What has happened.
use Rattle.std.specs.Prelude.{ℕ, ℤ, Bool, true, false, if◌then◌else◌, List, [], ◌∷◌, ◌++◌}
use Rattle.std.specs.List.{list_any}
use Rattle.bmc_base.specs.Counts.{raised}
use Rattle.bmc_base.specs.Places.{Place}
use Rattle.cfg_json.specs.Configs.{Config}
use Rattle.bmc_report.specs.declared.refusal.Refusal.{Refusal}
use Rattle.bmc_machine.specs.Standings.{put, without, Standing}

-- how a run is started: in strict mode or not, and with how many errors that its log keeps
pub record Options : Type 0 where
  pub strict : Bool
  pub log_cap : ℕ

-- A step: a run was started, a configuration was accepted, a FRU with these bytes appeared at a place, a plug was refused, the FRU at a place was taken
-- away, the sensor of this name was read with this raw number, a reading of it was lost, or the clock ticked. A history is a list of steps, the newest
-- first.
pub data Step : Type 0 where
  Start : Options → Step
  Configure : Config → Step
  Plug : Place → List ℕ → Step
  RefusedPlug : Place → List ℕ → Refusal → Step
  Unplug : Place → Step
  Read : List ℕ → ℤ → Step
  Lose : List ℕ → Step
  Tick : Step

abbrev pub after_step : Standing → Step → Standing
after_step now (Start options) = now
after_step now (Configure config) = record now { configs = now.configs ++ config ∷ [] }
after_step now (Plug place bytes) = record now { frus = put (record { place = place; bytes = bytes }) now.frus; plugged = true }
after_step now (RefusedPlug place bytes refusal) = now
after_step now (Unplug place) = record now { frus = without place now.frus }
after_step now (Read name raw) = now
after_step now (Lose name) = now
after_step now Tick = now

-- what a history leaves
unfoldable pub standing : List Step → Standing
standing [] = record { configs = []; frus = []; plugged = false }
standing (step ∷ past) = after_step (standing past) step

-- whether a step is none of a configuration, a plug and an unplug, which alone change what is present
abbrev pub is_idle_step : Step → Bool
is_idle_step (Start options) = true
is_idle_step (Configure config) = false
is_idle_step (Plug place bytes) = false
is_idle_step (RefusedPlug place bytes refusal) = true
is_idle_step (Unplug place) = false
is_idle_step (Read name raw) = true
is_idle_step (Lose name) = true
is_idle_step Tick = true

-- whether a step is a tick of the clock
abbrev pub is_tick : Step → Bool
is_tick (Start options) = false
is_tick (Configure config) = false
is_tick (Plug place bytes) = false
is_tick (RefusedPlug place bytes refusal) = false
is_tick (Unplug place) = false
is_tick (Read name raw) = false
is_tick (Lose name) = false
is_tick Tick = true

-- the tick count after a step, where it was this before
abbrev pub count_ticks : Step → ℕ → ℕ
count_ticks step count = if is_tick step then raised count 1 else count

-- the tick count after a history: it stands still at the greatest number
abbrev pub tick_of : List Step → ℕ
tick_of [] = 0
tick_of (step ∷ past) = count_ticks step (tick_of past)

-- whether a run was started in strict mode
abbrev pub asks_strict : Step → Bool
asks_strict (Start options) = options.strict
asks_strict (Configure config) = false
asks_strict (Plug place bytes) = false
asks_strict (RefusedPlug place bytes refusal) = false
asks_strict (Unplug place) = false
asks_strict (Read name raw) = false
asks_strict (Lose name) = false
asks_strict Tick = false

abbrev pub is_strict : List Step → Bool
is_strict past = list_any asks_strict past

-- how many errors the log keeps where no run was started
abbrev pub unstarted_log_cap : ℕ
unstarted_log_cap = 200

-- how many it keeps after a step, where it kept so many before
abbrev pub cap_after : Step → ℕ → ℕ
cap_after (Start options) cap = options.log_cap
cap_after (Configure config) cap = cap
cap_after (Plug place bytes) cap = cap
cap_after (RefusedPlug place bytes refusal) cap = cap
cap_after (Unplug place) cap = cap
cap_after (Read name raw) cap = cap
cap_after (Lose name) cap = cap
cap_after Tick cap = cap

-- how many errors the log keeps after a history
abbrev pub log_cap : List Step → ℕ
log_cap [] = unstarted_log_cap
log_cap (step ∷ past) = cap_after step (log_cap past)

-- the history of a run that was started, and nothing more
abbrev pub begun : Options → List Step
begun options = Start options ∷ []
