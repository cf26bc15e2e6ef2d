use Rattle.std.proofs.Common.{◌≡◌, ◌++◌, ◌-◌, ◌^◌, List, take, min, option_map, option_to_list}
use Rattle.cfg_json.specs.Configs.{Config}
use Rattle.inventory.specs.Limits.{sensors_of, zones_of, fans_of, pids_of, steps_of}
use Rattle.inventory.proofs.limits.sum_counts.Given as goal

abbrev pub invariant-loop-key : goal.invariant-loop-key
invariant-loop-key g l =
    let all : List Config = l.shelf ++ option_to_list (option_map (λ config. config.now) l.plus) in
    record {
      sensors : l.sums.sensors ≡ min (sensors_of all (take l.key-index l.keys)) (2 ^ 64 - 1);
      zones : l.sums.zones ≡ min (zones_of all (take l.key-index l.keys)) (2 ^ 64 - 1);
      fans : l.sums.fans ≡ min (fans_of all (take l.key-index l.keys)) (2 ^ 64 - 1);
      pids : l.sums.pids ≡ min (pids_of all (take l.key-index l.keys)) (2 ^ 64 - 1);
      steps : l.sums.steps ≡ min (steps_of all (take l.key-index l.keys)) (2 ^ 64 - 1);
    }
