-- What is told of the elements of a list, each with its position.
use Rattle.std.proofs.Common.{arith, ◌≡◌, ◌∙◌, ℕ, zero, suc, ◌+◌, ◌<◌, Bool, true, false, List, [], ◌∷◌, ◌++◌, length, take, get_or, cond}
use Rattle.std.proofs.Math.Bool.{beq}
use Rattle.std.proofs.Common.{replicate, slice_index_or, refl, ap, ap₂, sym, append_assoc, append-nil, true≢false}
use Rattle.std.specs.List.{flat_map, enumerate_from}
use Rattle.std.proofs.lemmas.List.{length-take-le, take_more}
use Rattle.std.proofs.lemmas.Grind.{flat_map-append}
use Rattle.std.proofs.lemmas.List.Concat.{flat_map-cons}
use Rattle.sensor_core.specs.declared.limit.Limit.{Limit}
use Rattle.sensor_core.specs.Sensors.{Sensor, has_failed, has_alarm}
use Rattle.sensor_core.specs.Settings.{limits_of}
use Rattle.bmc_machine.specs.Changes.{alarm_change, sensor_changes}
use Rattle.bmc_watch.specs.declared.readings.Glimpse.{Glimpse}
use Rattle.bmc_watch.specs.Readings.{Shows}

-- an element behind the others
enumerate_push : {X : Type 0} (from : ℕ) (xs : List X) (x : X) → enumerate_from from (xs ++ x ∷ []) ≡ enumerate_from from xs ++ (from + length xs, x) ∷ []
enumerate_push from [] x = ap (λ (at : ℕ). (at, x) ∷ []) (let same : from ≡ from + 0 = omega arith in same)
enumerate_push {X} from (first ∷ xs) x =
    ap (λ (later : List (ℕ × X)). (from, first) ∷ later)
    (enumerate_push (from + 1) xs x ∙ ap (λ (at : ℕ). enumerate_from (from + 1) xs ++ (at, x) ∷ []) (moved from (length xs)))
  where
    moved : (from count : ℕ) → from + 1 + count ≡ from + suc count
    moved from count = omega arith

-- one element more is told
pub told_more : {X Y : Type 0} (tell : ℕ × X → List Y) (xs : List X) (at : ℕ) (d : X) (start so_far now : List Y) → at < length xs
    → so_far ≡ start ++ flat_map tell (enumerate_from 0 (take at xs)) → now ≡ so_far ++ tell (at, get_or xs at d)
    → now ≡ start ++ flat_map tell (enumerate_from 0 (take (at + 1) xs))
told_more {X} {Y} tell xs at d start so_far now within before grown =
    grown ∙ ap (λ (front : List Y). front ++ tell (at, get_or xs at d)) before
    ∙ append_assoc start (flat_map tell (enumerate_from 0 (take at xs))) (tell (at, get_or xs at d))
    ∙ ap (λ (more : List Y). start ++ more)
    (ap (λ (more : List Y). flat_map tell (enumerate_from 0 (take at xs)) ++ more) (sym (append-nil (tell (at, get_or xs at d))))
    ∙ sym (flat_map-append tell (enumerate_from 0 (take at xs)) ((at, get_or xs at d) ∷ []))
    ∙ ap (flat_map tell) (sym (ap (enumerate_from 0) (take_more xs at d within) ∙ enumerate_push 0 (take at xs) (get_or xs at d)
    ∙ ap (λ (place : ℕ). enumerate_from 0 (take at xs) ++ (place, get_or xs at d) ∷ []) counted)))
  where
    counted : 0 + length (take at xs) ≡ at
    counted = let len = length-take-le at xs (omega (arith, within)) in omega (arith, len)

-- ---- nothing is told of a sensor that shows the same

none_of_each : {X Y : Type 0} (tell : X → List Y) (xs : List X) → ((x : X) → tell x ≡ []) → flat_map tell xs ≡ []
none_of_each tell [] none = refl
none_of_each tell (x ∷ xs) none = flat_map-cons tell x xs ∙ ap (λ first. first ++ flat_map tell xs) (none x) ∙ none_of_each tell xs none

none_behind : (behind position : ℕ) → slice_index_or (replicate behind false) position false ≡ false
none_behind zero position = refl
none_behind (suc behind) zero = refl
none_behind (suc behind) (suc position) = none_behind behind position

-- no alarm is on behind those in use
on_at : (on : List Bool) (behind position : ℕ) → slice_index_or (on ++ replicate behind false) position false ≡ slice_index_or on position false
on_at [] behind position = none_behind behind position
on_at (first ∷ on) behind zero = refl
on_at (first ∷ on) behind (suc position) = on_at on behind position

-- so a glimpse has the alarm of each position
pub alarm_seen : (glimpse : Glimpse) (sensor : Sensor) (position : ℕ) → Shows glimpse sensor
    → slice_index_or glimpse.alarms position false ≡ has_alarm sensor position
alarm_seen glimpse sensor position shows = ap (λ on. slice_index_or on position false) shows.alarms ∙ on_at sensor.alarms _ position

none_where_same : {Y : Type 0} (was is : Bool) (told : List Y) → was ≡ is → cond (beq was is) [] told ≡ []
none_where_same false false told same = refl
none_where_same true true told same = refl
none_where_same false true told same = absurd (true≢false (sym same))
none_where_same true false told same = absurd (true≢false same)

none_alarmed : (name : List ℕ) (sensor after : Sensor) (at : ℕ × Limit) → has_alarm sensor at.0 ≡ has_alarm after at.0
    → alarm_change name sensor after at ≡ []
none_alarmed name sensor after (position, limit) same = none_where_same (has_alarm sensor position) (has_alarm after position) _ same

pub none_told : (name : List ℕ) (glimpse : Glimpse) (sensor after : Sensor) → Shows glimpse sensor → Shows glimpse after
    → sensor_changes name sensor after ≡ []
unfolding sensor_changes
none_told name glimpse sensor after shows shows_after =
    ap₂ (λ failure alarms. failure ++ alarms) (none_where_same (has_failed sensor) (has_failed after) _ (sym shows.failed ∙ shows_after.failed))
    (none_of_each (alarm_change name sensor after) (enumerate_from 0 (limits_of after.setting))
    (λ at. none_alarmed name sensor after at (sym (alarm_seen glimpse sensor at.0 shows) ∙ alarm_seen glimpse after at.0 shows_after)))
