-- The work of the steps that a plug, a loss of a FRU or a configuration takes.
use Rattle.std.proofs.Common.{◌≡◌, ◌∙◌, ℕ, ◌*◌, ◌≤◌, Bool, true, false, not, cond, ◌&&◌, List, length, refl, sym, ap, subst, arith}
use Rattle.std.specs.Prelude.{nat_le, Result, Ok, Err}
use Rattle.std.specs.Result.{is_ok, is_err, IsErrAnd}
use Rattle.std.proofs.lemmas.List.{length-map}
use Rattle.bmc_base.specs.Places.{Place}
use Rattle.bmc_base.specs.Counts.{raised}
use Rattle.bmc_base.specs.Steps.{Counts, IsWithin, with_matches}
use Rattle.fru_record.specs.Records.{record_of}
use Rattle.probe_lang.specs.Presents.{holds_place}
use Rattle.cfg_json.specs.Configs.{Config}
use Rattle.found_set.specs.Found.{Rule}
use Rattle.found_set.specs.declared.row.Row.{Row}
use Rattle.found_set.specs.Events as events
use Rattle.found_set.specs.Events.{Event, ConfigEvent, PlugEvent, UnplugEvent, is_idle_event, rules_after}
use Rattle.found_set.proofs.EventsLemmas.{none_within}
use Rattle.inventory.specs.Boards.{rule_of, rules_of}
use Rattle.match_rows.specs.Matching.{pattern_count, IsMatchedWithin}
use Rattle.bmc_machine.specs.Refusals.{most_frus}
use Rattle.bmc_watch.specs.Counting.{most_evals, is_tested, Tests, TestsPlug}
use Rattle.bmc_watch.specs.Watches.{WatchView}

-- ---- evaluations

-- at most so many are at most more
pub within_more : (old new : Counts) (few many : ℕ) → few ≤ many → IsWithin old new few → IsWithin old new many
within_more old new few many more within = record { more = within.more; within = omega (arith, within.within, more); counted = within.counted }

idle_or : (idle : Bool) (old new : Counts) (n : ℕ) → IsWithin old new (cond idle 0 n) → IsWithin old new n
idle_or true old new n within = within_more old new 0 n (omega arith) within
idle_or false old new n within = within

-- at most two evaluations for each configuration
pub within_rules : (event : Event) (old new : Counts) (rules : List Rule) (rows : List Row) (configs : List Config)
    → rules_after event rules ≡ rules_of configs → IsWithin old new (events.most_evals event rules rows) → IsWithin old new (most_evals configs)
within_rules event old new rules rows configs are within =
    subst (λ (n : ℕ). IsWithin old new (2 * n)) (ap length are ∙ length-map configs rule_of)
    (idle_or (is_idle_event event rows) old new (2 * length (rules_after event rules)) within)

-- ---- matches

raised_none : (count : ℕ) → raised count 0 ≡ count
raised_none count = omega arith

no_matches : (counts : Counts) → with_matches counts 0 ≡ counts
no_matches counts = ap (λ (matches : ℕ). record { matches = matches; evals = counts.evals }) (raised_none counts.matches)

-- nothing was tested
pub none_tested : (steps : Counts) → IsWithin (with_matches steps 0) steps 0
none_tested steps = subst (λ (counts : Counts). IsWithin counts steps 0) (sym (no_matches steps)) (none_within steps 0)

-- each pattern was matched
pub all_tested : (old mid new : Counts) (matches evals : ℕ) → mid ≡ with_matches old matches → IsWithin mid new evals → Tests false matches evals old new
all_tested old mid new matches evals is within = subst (λ (counts : Counts). IsWithin counts new evals) is within

-- memory was wanting while they were matched
pub some_tested : (old new : Counts) (matches evals : ℕ) → IsMatchedWithin old new matches → Tests true matches evals old new
some_tested old new matches evals matched =
    (matched.more, matched.within, subst (λ (counts : Counts). IsWithin counts new evals) matched.counted (none_within new evals))

-- or behind that
pub short_tested : (is_short : Bool) (old new : Counts) (matches evals : ℕ) → Tests false matches evals old new → Tests is_short matches evals old new
short_tested false old new matches evals tested = tested
short_tested true old new matches evals tested = (matches, omega arith, tested)

-- a call that failed for want of memory
pub err_is : {T E : Type 0} (Q : E → Type 0) (result : Result T E) → IsErrAnd result Q → is_err result ≡ true
err_is Q (Ok value) fails = absurd fails
err_is Q (Err fault) fails = refl

pub err_tested : {T E : Type 0} (Q : E → Type 0) (result : Result T E) (old new : Counts) (configs : List Config) → IsErrAnd result Q
    → IsMatchedWithin old new (pattern_count configs) → Tests (is_err result) (pattern_count configs) (most_evals configs) old new
err_tested Q result old new configs fails matched =
    subst (λ (short : Bool). Tests short (pattern_count configs) (most_evals configs) old new) (sym (err_is Q result fails))
    (some_tested old new (pattern_count configs) (most_evals configs) matched)

-- the record of a FRU was tested, whatever came behind
pub fru_tested : (is_short : Bool) (old mid new : Counts) (configs known : List Config) → known ≡ configs → mid ≡ with_matches old (pattern_count known)
    → IsWithin mid new (most_evals configs) → Tests is_short (pattern_count configs) (most_evals configs) old new
fru_tested is_short old mid new configs known same matched within =
    short_tested is_short old new (pattern_count configs) (most_evals configs)
    (all_tested old mid new (pattern_count configs) (most_evals configs)
    (matched ∙ ap (λ (configs : List Config). with_matches old (pattern_count configs)) same) within)

-- ---- plugs

-- a plug that is not tested
pub plug_untested : (is_short : Bool) (view : WatchView) (place : Place) (bytes : List ℕ) (steps : Counts) → is_tested view place bytes ≡ false
    → TestsPlug is_short view place bytes steps steps
plug_untested is_short view place bytes steps not_so =
    subst (λ (is : Bool). Tests is_short (cond is (pattern_count view.configs) 0) (cond is (most_evals view.configs) 0) steps steps) (sym not_so)
    (short_tested is_short steps steps 0 0 (none_tested steps))

-- a plug for which memory is wanting before it is tested
pub plug_short : (view : WatchView) (place : Place) (bytes : List ℕ) (steps : Counts) → TestsPlug true view place bytes steps steps
plug_short view place bytes steps = (
  0,
  omega arith,
  within_more (with_matches steps 0) steps 0 (cond (is_tested view place bytes) (most_evals view.configs) 0) (omega arith) (none_tested steps),
)

pub plug_failed : {T E : Type 0} (Q : E → Type 0) (result : Result T E) (view : WatchView) (place : Place) (bytes : List ℕ) (steps : Counts)
    → IsErrAnd result Q → TestsPlug (is_err result) view place bytes steps steps
plug_failed Q result view place bytes steps fails =
    subst (λ (short : Bool). TestsPlug short view place bytes steps steps) (sym (err_is Q result fails)) (plug_short view place bytes steps)

-- a plug that is tested
pub plug_tested : (is_short : Bool) (view : WatchView) (place : Place) (bytes : List ℕ) (old new : Counts) → is_tested view place bytes ≡ true
    → Tests is_short (pattern_count view.configs) (most_evals view.configs) old new → TestsPlug is_short view place bytes old new
plug_tested is_short view place bytes old new is tested =
    subst (λ (is : Bool). Tests is_short (cond is (pattern_count view.configs) 0) (cond is (most_evals view.configs) 0) old new) (sym is) tested

and_false : (b : Bool) → (b && false) ≡ false
and_false true = refl
and_false false = refl

-- its place is taken
pub untested_held : (view : WatchView) (place : Place) (bytes : List ℕ) → holds_place view.entries place ≡ true → is_tested view place bytes ≡ false
untested_held view place bytes held =
    ap (λ (b : Bool). not b && (is_ok (record_of bytes) && not (nat_le most_frus (length view.entries)))) held

-- its bytes are no record
pub untested_broken : (view : WatchView) (place : Place) (bytes : List ℕ) → is_ok (record_of bytes) ≡ false → is_tested view place bytes ≡ false
untested_broken view place bytes broken =
    ap (λ (b : Bool). not (holds_place view.entries place) && (b && not (nat_le most_frus (length view.entries)))) broken
    ∙ and_false (not (holds_place view.entries place))

-- no more FRUs may be present
pub untested_full : (view : WatchView) (place : Place) (bytes : List ℕ) → nat_le most_frus (length view.entries) ≡ true
    → is_tested view place bytes ≡ false
untested_full view place bytes full =
    ap (λ (b : Bool). not (holds_place view.entries place) && (is_ok (record_of bytes) && not b)) full
    ∙ ap (λ (b : Bool). not (holds_place view.entries place) && b) (and_false (is_ok (record_of bytes)))
    ∙ and_false (not (holds_place view.entries place))

-- else it is tested
pub is_tested_then : (view : WatchView) (place : Place) (bytes : List ℕ) → holds_place view.entries place ≡ false → is_ok (record_of bytes) ≡ true
    → nat_le most_frus (length view.entries) ≡ false → is_tested view place bytes ≡ true
is_tested_then view place bytes free good room =
    ap (λ (b : Bool). not b && (is_ok (record_of bytes) && not (nat_le most_frus (length view.entries)))) free
    ∙ ap (λ (b : Bool). b && not (nat_le most_frus (length view.entries))) good
    ∙ ap not room
