-- After a legal history there are no more live zones, fans and controllers than the limits say.
use Rattle.std.proofs.Common.{◌≡◌, ℕ, ◌+◌, ◌≤◌, List, Bool, true, false, cond, not, Option, Some, None, refl, arith, nat_lt}
use Rattle.std.specs.Prelude.{length, count_by}
use Rattle.std.proofs.lemmas.Bool.Decides.{nat_tests}
use Rattle.std.proofs.lemmas.List.Filters.{length-filter_both}
use Rattle.std.proofs.lemmas.List.Sums.{length-filter}
use Rattle.ctl_face.specs.declared.kind.Kind.{Kind}
use Rattle.ctl_face.specs.declared.kind.Kind.TheVariants.{Pid, Stepwise}
use Rattle.ctl_face.specs.Kinds.{kind_of, kind_eq}
use Rattle.cfg_json.specs.Configs.{is_zone, is_fan, is_pid, is_stepwise}
use Rattle.cfg_json.specs.declared.counts.Counts.{Counts}
use Rattle.inventory.specs.Limits.{most_boards, most_sensors, most_zones, most_fans, most_pids, most_steps, totals_of, limit_of, passed_limit}
use Rattle.inventory.specs.declared.family.Family.TheVariants as families
use Rattle.inventory.specs.declared.fault.InventoryFault.{InventoryFault}
use Rattle.inventory.specs.declared.fault.InventoryFault.TheVariants as limits
use Rattle.inventory.specs.declared.limits.Totals.{Totals}
use Rattle.fan_zone.specs.Live.{LiveControl, controls, zones, fans}
use Rattle.fan_zone.specs.Seats.{is_control_of}
use Rattle.bmc_machine.specs.Boards.{board_keys}
use Rattle.bmc_machine.specs.Histories.{Step, standing}
use Rattle.bmc_machine.specs.Indexes.{live_now}
use Rattle.bmc_machine.specs.Refusals.{IsLegal}
use Rattle.bmc_machine.proofs.LimitLemmas.{limits_hold}
use Rattle.bmc_machine.proofs.LiveCountLemmas.{live_fewer}
use Rattle.bmc_machine.proofs.LiveKindLemmas.{of_family, zones_counted, fans_counted, zones_count, fans_count}
use Rattle.bmc_machine.proofs.LiveKindLemmas.{of_kind, pids_counted, steps_counted, kinds_count}

-- ---- limits

-- a limit that is not passed
record IsWithin (most many : ℕ) (later : Option InventoryFault) : Type 0 where
  few : many ≤ most
  next : later ≡ None

within : (most many : ℕ) (fault : InventoryFault) (later : Option InventoryFault) → cond (nat_lt most many) (Some fault) later ≡ None
    → IsWithin most many later
within most many fault later none = by (nat_lt most many) refl none
  where
    by : (test : Bool) → nat_lt most many ≡ test → cond test (Some fault) later ≡ None → IsWithin most many later
    by true is none = absurd (cc)
    by false is none = record { few = grind (arith, nat_tests, is); next = none }

record AreWithin (totals : Totals) : Type 0 where
  zones : totals.zones ≤ most_zones
  fans : totals.fans ≤ most_fans
  pids : totals.pids ≤ most_pids
  steps : totals.steps ≤ most_steps

are_within : (totals : Totals) → limit_of totals ≡ None → AreWithin totals
are_within totals none =
    let boards = within most_boards totals.boards limits.BoardLimit _ none in
    let sensors = within most_sensors totals.sensors limits.SensorLimit _ boards.next in
    let zones = within most_zones totals.zones limits.ZoneLimit _ sensors.next in
    let fans = within most_fans totals.fans limits.FanLimit _ zones.next in
    let pids = within most_pids totals.pids limits.PidLimit _ fans.next in
    let steps = within most_steps totals.steps limits.StepLimit _ pids.next in
    record { zones = zones.few; fans = fans.few; pids = pids.few; steps = steps.few }

-- ---- histories

totals_within : (past : List Step) → IsLegal past → AreWithin (totals_of (standing past).configs (board_keys (standing past)))
unfolding passed_limit
totals_within past legal = are_within _ (limits_hold past legal)

pub few_zones : (past : List Step) → IsLegal past → length (zones (live_now past)) ≤ most_zones
few_zones past legal =
    let within = (totals_within past legal).zones in
    let fewer = live_fewer (of_family families.Zone) is_zone (λ (counts : Counts). counts.zones) zones_counted past in
    let all = zones_count (live_now past) in
    omega (arith, within, fewer, all)

pub few_fans : (past : List Step) → IsLegal past → length (fans (live_now past)) ≤ most_fans
few_fans past legal =
    let within = (totals_within past legal).fans in
    let fewer = live_fewer (of_family families.Fan) is_fan (λ (counts : Counts). counts.fans) fans_counted past in
    let all = fans_count (live_now past) in
    omega (arith, within, fewer, all)

pub few_pids : (past : List Step) → IsLegal past → count_by (is_control_of Pid) (controls (live_now past)) ≤ most_pids
few_pids past legal =
    let within = (totals_within past legal).pids in
    let fewer = live_fewer (of_kind Pid) is_pid (λ (counts : Counts). counts.pids) pids_counted past in
    let all = kinds_count Pid (live_now past) in
    omega (arith, within, fewer, all)

pub few_steps : (past : List Step) → IsLegal past → count_by (is_control_of Stepwise) (controls (live_now past)) ≤ most_steps
few_steps past legal =
    let within = (totals_within past legal).steps in
    let fewer = live_fewer (of_kind Stepwise) is_stepwise (λ (counts : Counts). counts.steps) steps_counted past in
    let all = kinds_count Stepwise (live_now past) in
    omega (arith, within, fewer, all)

-- each controller is of one of the two kinds
pub other_kind : (kind : Kind) → kind_eq kind Stepwise ≡ not (kind_eq kind Pid)
other_kind Pid = refl
other_kind Stepwise = refl

pub few_controls : (past : List Step) → IsLegal past → length (controls (live_now past)) ≤ most_pids + most_steps
few_controls past legal =
    let pids = few_pids past legal in
    let steps = few_steps past legal in
    let both = length-filter_both (is_control_of Pid) (is_control_of Stepwise) (λ (control : LiveControl). other_kind (kind_of control.item.setting))
    (controls (live_now past)) in
    let pids_are = length-filter (is_control_of Pid) (controls (live_now past)) in
    let steps_are = length-filter (is_control_of Stepwise) (controls (live_now past)) in
    omega (arith, pids, steps, both, pids_are, steps_are)
