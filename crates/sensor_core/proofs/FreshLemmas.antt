-- Until when a good reading is fresh.
use Rattle.std.proofs.Common.{◌≡◌, ℕ, ◌+◌, ◌-◌, ◌≤◌, ◌<◌, min, Bool, true, false, not, cond, ◌&&◌, ◌||◌, nat_lt, nat_eq, Option, Some, is_none, option_map}
use Rattle.std.proofs.Common.{ap, sym, ◌∙◌, arith}
use Rattle.std.proofs.lemmas.Bool.{le-ltb, ltb-true, lt-ltb, ltb_from_iff, or_parts}
use Rattle.std.specs.Option.{option_map_or}
use Rattle.bmc_base.specs.Counts.{last_count}
use Rattle.sensor_core.specs.Fresh.{fresh_until, IsLastGood}
use Rattle.sensor_core.specs.Sensors.{Sensor, has_failed, is_bad, is_stale}

-- behind the last fresh tick the reading is older than its timeout
pub past_fresh : (timeout at now : ℕ) → now ≤ last_count → nat_lt (fresh_until timeout at) now ≡ (not (nat_eq timeout 0) && nat_lt timeout (now - at))
past_fresh timeout at now fits = by (nat_eq timeout 0)
  where
    older : nat_lt (min last_count (at + timeout)) now ≡ true → timeout < now - at
    older past = let past : min last_count (at + timeout) < now = ltb-true _ _ past in omega arith

    past : timeout < now - at → nat_lt (min last_count (at + timeout)) now ≡ true
    past older = lt-ltb (min last_count (at + timeout)) now (omega arith)

    by : (never : Bool) → nat_lt (cond never last_count (min last_count (at + timeout))) now ≡ (not never && nat_lt timeout (now - at))
    by true = le-ltb last_count now fits
    by false = ltb_from_iff (older, past)

fresh_fits : (timeout at : ℕ) → fresh_until timeout at ≤ last_count
fresh_fits timeout at = by (nat_eq timeout 0)
  where
    by : (never : Bool) → cond never last_count (min last_count (at + timeout)) ≤ last_count
    by true = omega arith
    by false = omega arith

-- what is bad where a reading is older than its timeout is good up to the last fresh tick
fresh_last : (bad : ℕ → Bool) (timeout at : ℕ) → ((tick : ℕ) → bad tick ≡ (not (nat_eq timeout 0) && nat_lt timeout (tick - at)))
    → IsLastGood bad (fresh_until timeout at)
fresh_last bad timeout at is = record {
  good = λ tick le. is tick ∙ (sym (past_fresh timeout at tick (omega (arith, le, fresh_fits timeout at))) ∙ le-ltb (fresh_until timeout at) tick le);
  ends = λ lt. let last = fresh_until timeout at in
      is (last + 1) ∙ (sym (past_fresh timeout at (last + 1) (omega (arith, lt))) ∙ lt-ltb last (last + 1) (omega arith));
}

-- a sensor that is not bad at a tick is so up to the last fresh tick of its reading
pub good_to : (sensor : Sensor) (at now : ℕ) → sensor.read_at ≡ Some at → is_bad sensor now ≡ false
    → IsLastGood (is_bad sensor) (fresh_until sensor.setting.timeout at)
good_to sensor at now is good =
    let parts = or_parts (is_none sensor.value || has_failed sensor) (is_stale sensor now) good in
    let timeout = sensor.setting.timeout in
    fresh_last (is_bad sensor) timeout at (λ tick.
    ap (λ (bad : Bool). bad || is_stale sensor tick) parts.0
    ∙ ap (λ (read_at : Option ℕ). not (nat_eq timeout 0) && option_map_or (nat_lt timeout) (option_map (λ (at : ℕ). tick - at) read_at) false) is)
