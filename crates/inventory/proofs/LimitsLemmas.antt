-- The limits of an inventory.
use Rattle.std.proofs.Common.{◌≡◌, ◌∙◌, ℕ, ◌+◌, ◌-◌, ◌^◌, ◌<◌, ◌≤◌, Bool, true, false, cond, nat_lt, min, Option, Some, None, Result, Ok, Err}
use Rattle.std.proofs.Common.{refl, sym, arith, lit<}
use Rattle.std.proofs.lemmas.Bool.Decides.{nat_tests}
use Rattle.inventory.specs.declared.limits.Totals.{Totals}
use Rattle.inventory.specs.declared.fault.InventoryFault.{InventoryFault}
use Rattle.inventory.specs.declared.fault.InventoryFault.TheVariants.{BoardLimit, SensorLimit, ZoneLimit, FanLimit, PidLimit, StepLimit}
use Rattle.inventory.specs.Limits.{limit_of, most_boards, most_sensors, most_zones, most_fans, most_pids, most_steps, GivesTotals}

-- a number is above a limit exactly where it is cut off above the limit
test_of : (limit sum cut : ℕ) (above : Bool) → limit < 2 ^ 64 - 1 → cut ≡ min sum (2 ^ 64 - 1) → nat_lt limit cut ≡ above → nat_lt limit sum ≡ above
test_of limit sum cut true small is test = grind (arith, nat_tests)
test_of limit sum cut false small is test = grind (arith, nat_tests)

-- what is below a limit is not cut off
not_cut : (limit sum cut : ℕ) → limit < 2 ^ 64 - 1 → cut ≡ min sum (2 ^ 64 - 1) → nat_lt limit cut ≡ false → cut ≡ sum
not_cut limit sum cut small is few = grind (arith, nat_tests)

-- numbers that are cut off give what they give whole, cut off
pub cut_off : (count gone new gone_cut new_cut : ℕ) → count ≤ 2 ^ 64 - 1 → gone_cut ≡ min gone (2 ^ 64 - 1) → new_cut ≡ min new (2 ^ 64 - 1)
    → min (count - gone_cut + new_cut) (2 ^ 64 - 1) ≡ min (count - gone + new) (2 ^ 64 - 1)
cut_off count gone new gone_cut new_cut small is_gone is_new = omega arith

abbrev answer : Bool → Bool → Bool → Bool → Bool → Bool → Option InventoryFault
answer many sensors zones fans pids steps =
    cond many (Some BoardLimit)
    (cond sensors (Some SensorLimit)
    (cond zones (Some ZoneLimit) (cond fans (Some FanLimit) (cond pids (Some PidLimit) (cond steps (Some StepLimit) None)))))

-- no limit is passed
record AreNone (many many_sensors many_zones many_fans many_pids many_steps : Bool) : Type 0 where
  boards : many ≡ false
  sensors : many_sensors ≡ false
  zones : many_zones ≡ false
  fans : many_fans ≡ false
  pids : many_pids ≡ false
  steps : many_steps ≡ false

none_of : (many sensors zones fans pids steps : Bool) → answer many sensors zones fans pids steps ≡ None
    → AreNone many sensors zones fans pids steps
none_of true sensors zones fans pids steps is = absurd (cc)
none_of false true zones fans pids steps is = absurd (cc)
none_of false false true fans pids steps is = absurd (cc)
none_of false false false true pids steps is = absurd (cc)
none_of false false false false true steps is = absurd (cc)
none_of false false false false false true is = absurd (cc)
none_of false false false false false false is = record { boards = refl; sensors = refl; zones = refl; fans = refl; pids = refl; steps = refl }

-- totals that are cut off pass the limits that they pass whole, and are whole where they pass none
module _ (totals whole : Totals) (boards : totals.boards ≡ min whole.boards (2 ^ 64 - 1))
    (sensors : totals.sensors ≡ min whole.sensors (2 ^ 64 - 1)) (zones : totals.zones ≡ min whole.zones (2 ^ 64 - 1))
    (fans : totals.fans ≡ min whole.fans (2 ^ 64 - 1)) (pids : totals.pids ≡ min whole.pids (2 ^ 64 - 1))
    (steps : totals.steps ≡ min whole.steps (2 ^ 64 - 1)) where
  test_cut : (limit sum cut : ℕ) → limit < 2 ^ 64 - 1 → cut ≡ min sum (2 ^ 64 - 1) → nat_lt limit cut ≡ nat_lt limit sum
  test_cut limit sum cut small is = sym (test_of limit sum cut (nat_lt limit cut) small is refl)

  limit_cut : limit_of totals ≡ limit_of whole
  limit_cut =
      λ i. answer (test_cut most_boards whole.boards totals.boards (lit< tt) boards i)
      (test_cut most_sensors whole.sensors totals.sensors (lit< tt) sensors i) (test_cut most_zones whole.zones totals.zones (lit< tt) zones i)
      (test_cut most_fans whole.fans totals.fans (lit< tt) fans i) (test_cut most_pids whole.pids totals.pids (lit< tt) pids i)
      (test_cut most_steps whole.steps totals.steps (lit< tt) steps i)

  whole_is : limit_of totals ≡ None → totals ≡ whole
  whole_is none =
      let are = none_of (nat_lt most_boards totals.boards) (nat_lt most_sensors totals.sensors) (nat_lt most_zones totals.zones)
      (nat_lt most_fans totals.fans) (nat_lt most_pids totals.pids) (nat_lt most_steps totals.steps) none in
      λ i. record {
        boards = not_cut most_boards whole.boards totals.boards (lit< tt) boards are.boards i;
        sensors = not_cut most_sensors whole.sensors totals.sensors (lit< tt) sensors are.sensors i;
        zones = not_cut most_zones whole.zones totals.zones (lit< tt) zones are.zones i;
        fans = not_cut most_fans whole.fans totals.fans (lit< tt) fans are.fans i;
        pids = not_cut most_pids whole.pids totals.pids (lit< tt) pids are.pids i;
        steps = not_cut most_steps whole.steps totals.steps (lit< tt) steps are.steps i;
      }

  pub gives_whole : (result : Result Totals InventoryFault) → GivesTotals result totals → GivesTotals result whole
  gives_whole (Ok checked) gives = (gives.0 ∙ whole_is gives.1, sym limit_cut ∙ gives.1)
  gives_whole (Err fault) gives = sym limit_cut ∙ gives
