-- The work of a step: the patterns that are matched against records, and the probes that are evaluated.
use Rattle.std.specs.Prelude.{ℕ, ◌≤◌, ◌*◌, ◌&&◌, Bool, true, false, not, nat_le, if◌then◌else◌, List, length}
use Rattle.std.specs.Result.{is_ok}
use Rattle.bmc_base.specs.Places.{Place}
use Rattle.bmc_base.specs.Steps.{Counts, IsWithin, with_matches}
use Rattle.fru_record.specs.Records.{record_of}
use Rattle.probe_lang.specs.Presents.{holds_place}
use Rattle.cfg_json.specs.Configs.{Config}
use Rattle.match_rows.specs.Matching.{pattern_count}
use Rattle.bmc_machine.specs.Refusals.{most_frus}
use Rattle.bmc_watch.specs.Watches.{WatchView}

-- at most so many evaluations where these configurations are asked: two for each
abbrev pub most_evals : List Config → ℕ
most_evals configs = 2 * length configs

-- So many matches were counted, or at most so many where memory was wanting; and at most so many evaluations.
abbrev pub Tests : Bool → ℕ → ℕ → Counts → Counts → Type 0
Tests false matches evals old new = IsWithin (with_matches old matches) new evals
Tests true matches evals old new = (some : ℕ) × (some ≤ matches) × IsWithin (with_matches old some) new evals

-- whether a plug is tested: its place is free, its bytes are a record, and one more FRU may be present
abbrev pub is_tested : WatchView → Place → List ℕ → Bool
is_tested view place bytes = not (holds_place view.entries place) && (is_ok (record_of bytes) && not (nat_le most_frus (length view.entries)))

-- A plug that is tested counts as many matches as all configurations have patterns; any other counts no match and no evaluation.
abbrev pub TestsPlug : Bool → WatchView → Place → List ℕ → Counts → Counts → Type 0
TestsPlug is_short view place bytes old new =
    Tests is_short (if is_tested view place bytes then pattern_count view.configs else 0) (if is_tested view place bytes then most_evals view.configs else 0)
    old new
