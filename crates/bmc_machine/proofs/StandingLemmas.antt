-- The FRUs that are present after a legal history, and their order.
use Rattle.std.proofs.Common.{◌≡◌, ℕ, suc, ◌<◌, ◌≤◌, List, [], ◌∷◌, length, Bool, true, false, not, cond, ◌||◌, Option, None, Some, Ok, Err, map}
use Rattle.std.proofs.Common.{refl, ap, ◌∙◌, subst, arith}
use Rattle.std.specs.Prelude.{Result, nat_le}
use Rattle.std.specs.List.{AllByRecursion, IsDistinct}
use Rattle.std.specs.List.Sorted.{IsStrictlySortedBy}
use Rattle.std.specs.Ordering.{is_eq, is_lt, ordering_reverse}
use Rattle.std.specs.declared.cmp.Ordering.{Ordering}
use Rattle.std.specs.declared.cmp.Ordering.TheVariants.{Less, Equal, Greater}
use Rattle.std.specs.Cmp.{IsTotalOrder}
use Rattle.std.proofs.lemmas.Bool.Decides.{nat_tests}
use Rattle.std.proofs.lemmas.Cmp.{nat_cmp_total, on_total, then_total}
use Rattle.std.proofs.lemmas.Map.Keys.{IsDistinct-from_sorted}
use Rattle.bmc_base.specs.Places.{Place, place_cmp, place_eq}
use Rattle.fru_area.specs.declared.field.Field.{Field}
use Rattle.fru_area.specs.declared.fault.FruFault.{FruFault}
use Rattle.fru_area.specs.declared.fault.FruFault.TheVariants as rules
use Rattle.fru_record.specs.Records.{record_of}
use Rattle.fru_record.proofs.RecordsLemmas.{record_of-rule}
use Rattle.bmc_report.specs.declared.refusal.Refusal.{Refusal}
use Rattle.bmc_report.specs.declared.refusal.Refusal.TheVariants.{Occupied}
use Rattle.bmc_machine.specs.Standings.{Fru, is_at, is_present, put, without}
use Rattle.bmc_machine.specs.Histories.{Step, Start, Configure, Plug, RefusedPlug, Unplug, Read, Lose, Tick, after_step, standing}
use Rattle.bmc_machine.specs.Refusals.{record_refusal, plug_refusal, ◌or_else◌, refusal_by_limit, most_frus, refusal_after, IsLegalStep, IsLegal}
use Rattle.inventory.proofs.BoardLemmas.{place_cmp_eq}
use Rattle.inventory.proofs.ListLemmas.{all_weaker, ascending_filter}

pub place_total : IsTotalOrder place_cmp
place_total = then_total (on_total (λ (place : Place). place.bus) nat_cmp_total) (on_total (λ (place : Place). place.address) nat_cmp_total)

abbrev pub places : List Fru → List Place
places frus = map (λ fru. fru.place) frus

-- a plug that is accepted found its place free
pub free_place : (past : List Step) (place : Place) (bytes : List ℕ) → refusal_after past (Plug place bytes) ≡ None
    → is_present (standing past).frus place ≡ false
free_place past place bytes accepted = by (is_present (standing past).frus place) _ accepted
  where
    by : (present : Bool) (broken : Option Refusal) → cond present (Some Occupied) broken ≡ None → present ≡ false
    by true broken none = absurd (cc)
    by false broken none = refl

-- what holds of the place of a FRU and of those of others holds of all of them
all_put : (Fact : Place → Type 0) (fru : Fru) (frus : List Fru) → Fact fru.place → AllByRecursion Fact (places frus)
    → AllByRecursion Fact (places (put fru frus))
all_put Fact fru [] fact facts = (fact, tt)
all_put Fact fru (other ∷ frus) fact facts = by (is_lt (place_cmp fru.place other.place)) (all_put Fact fru frus fact facts.1)
  where
    by : (first : Bool) → AllByRecursion Fact (places (put fru frus)) → AllByRecursion Fact (places (cond first (fru ∷ other ∷ frus) (other ∷ put fru frus)))
    by true rest = (fact, facts)
    by false rest = (facts.0, rest)

-- a FRU that is put in where its place is free leaves them in order
put_ascends : (fru : Fru) (frus : List Fru) → is_present frus fru.place ≡ false → IsStrictlySortedBy place_cmp (places frus)
    → IsStrictlySortedBy place_cmp (places (put fru frus))
unfolding IsStrictlySortedBy
put_ascends fru [] free ascend = (tt, tt)
put_ascends fru (other ∷ frus) free ascend = by (place_cmp fru.place other.place) refl free (λ free. put_ascends fru frus free ascend.1)
  where
    by : (order : Ordering) → place_cmp fru.place other.place ≡ order → (is_eq order || is_present frus fru.place) ≡ false
        → (is_present frus fru.place ≡ false → IsStrictlySortedBy place_cmp (places (put fru frus)))
        → IsStrictlySortedBy place_cmp (places (cond (is_lt order) (fru ∷ other ∷ frus) (other ∷ put fru frus)))
    by Less is free rest = ((is, all_weaker _ _ (λ place less. place_total.trans fru.place other.place place is less) _ ascend.0), ascend)
    by Equal is free rest = absurd (cc)
    by Greater is free rest = (all_put _ fru frus (place_total.antisymm other.place fru.place ∙ ap ordering_reverse is) ascend.0, rest free)

frus_ascend_next : (past : List Step) (step : Step) → IsLegalStep past step → IsStrictlySortedBy place_cmp (places (standing past).frus)
    → IsStrictlySortedBy place_cmp (places (after_step (standing past) step).frus)
frus_ascend_next past (Start options) legal ascend = ascend
frus_ascend_next past (Configure config) legal ascend = ascend
frus_ascend_next past (Plug place bytes) legal ascend =
    put_ascends (record { place = place; bytes = bytes }) (standing past).frus (free_place past place bytes legal) ascend
frus_ascend_next past (RefusedPlug place bytes refusal) legal ascend = ascend
frus_ascend_next past (Unplug place) legal ascend = ascending_filter (λ fru. fru.place) place_cmp (λ fru. not (is_at place fru)) (standing past).frus ascend
frus_ascend_next past (Read name raw) legal ascend = ascend
frus_ascend_next past (Lose name) legal ascend = ascend
frus_ascend_next past Tick legal ascend = ascend

-- after a legal history they ascend by place
pub frus_ascend : (past : List Step) → IsLegal past → IsStrictlySortedBy place_cmp (places (standing past).frus)
unfolding IsLegal standing IsStrictlySortedBy
frus_ascend [] legal = tt
frus_ascend (step ∷ past) legal = frus_ascend_next past step legal.1 (frus_ascend past legal.0)

-- so no two of them have one place
pub frus_differ : (past : List Step) → IsLegal past → IsDistinct place_eq (places (standing past).frus)
frus_differ past legal =
    subst (λ (same : Place → Place → Bool). IsDistinct same (places (standing past).frus)) (λ i place other. place_cmp_eq place other i)
    (IsDistinct-from_sorted place_cmp (places (standing past).frus) (frus_ascend past legal))

-- ---- how many they are

-- a rule that bytes break has a refusal
no_refusal : (bytes : List ℕ) (rule : FruFault) → record_of bytes ≡ Err rule → record_refusal rule ≡ None → ⊥
no_refusal bytes rules.OutOfMemory is none = record_of-rule bytes is
no_refusal bytes rules.FruShort is none = absurd (cc)
no_refusal bytes rules.FruTooLong is none = absurd (cc)
no_refusal bytes rules.HeaderVersion is none = absurd (cc)
no_refusal bytes rules.HeaderChecksum is none = absurd (cc)
no_refusal bytes (rules.AreaOutside area) is none = absurd (cc)
no_refusal bytes (rules.AreaVersion area) is none = absurd (cc)
no_refusal bytes (rules.AreaLength area) is none = absurd (cc)
no_refusal bytes (rules.AreaChecksum area) is none = absurd (cc)
no_refusal bytes (rules.FieldOutside area) is none = absurd (cc)
no_refusal bytes (rules.NoEnd area) is none = absurd (cc)

none_first : (first later : Option Refusal) → (first or_else later) ≡ None → first ≡ None
none_first None later none = refl
none_first (Some refusal) later none = absurd (cc)

-- a plug that is accepted found room
room_before : (past : List Step) (place : Place) (bytes : List ℕ) → refusal_after past (Plug place bytes) ≡ None
    → length (standing past).frus < most_frus
room_before past place bytes accepted =
    by (is_present (standing past).frus place) (record_of bytes) refl (nat_le most_frus (length (standing past).frus)) refl accepted
  where
    by_limit : Option Refusal
    by_limit = refusal_by_limit (after_step (standing past) (Plug place bytes))

    by : (present : Bool) (read : Result (List Field) FruFault) → record_of bytes ≡ read
        → (is_full : Bool) → nat_le most_frus (length (standing past).frus) ≡ is_full
        → cond present (Some Occupied) (plug_refusal is_full read or_else by_limit) ≡ None → length (standing past).frus < most_frus
    by true read is is_full told none = absurd (cc)
    by false (Ok fields) is true told none = absurd (cc)
    by false (Ok fields) is false told none = grind (arith, nat_tests, told)
    by false (Err rule) is is_full told none = absurd (no_refusal bytes rule is (none_first (record_refusal rule) by_limit none))

length_put : (fru : Fru) (frus : List Fru) → length (put fru frus) ≡ suc (length frus)
length_put fru [] = refl
length_put fru (other ∷ frus) = by (is_lt (place_cmp fru.place other.place)) (length_put fru frus)
  where
    by : (first : Bool) → length (put fru frus) ≡ suc (length frus)
        → length (cond first (fru ∷ other ∷ frus) (other ∷ put fru frus)) ≡ suc (suc (length frus))
    by true rest = refl
    by false rest = ap suc rest

length_without : (place : Place) (frus : List Fru) → length (without place frus) ≤ length frus
length_without place [] = omega arith
length_without place (fru ∷ frus) = by (is_at place fru) (length_without place frus)
  where
    by : (here : Bool) → length (without place frus) ≤ length frus
        → length (cond (not here) (fru ∷ without place frus) (without place frus)) ≤ suc (length frus)
    by true rest = omega (arith, rest)
    by false rest = omega (arith, rest)

frus_few_next : (past : List Step) (step : Step) → IsLegalStep past step → length (standing past).frus ≤ most_frus
    → length (after_step (standing past) step).frus ≤ most_frus
frus_few_next past (Start options) legal few = few
frus_few_next past (Configure config) legal few = few
frus_few_next past (Plug place bytes) legal few =
    let room = room_before past place bytes legal in
    let more = length_put (record { place = place; bytes = bytes }) (standing past).frus in
    omega (arith, room, more)
frus_few_next past (RefusedPlug place bytes refusal) legal few = few
frus_few_next past (Unplug place) legal few = let less = length_without place (standing past).frus in omega (arith, less, few)
frus_few_next past (Read name raw) legal few = few
frus_few_next past (Lose name) legal few = few
frus_few_next past Tick legal few = few

-- after a legal history they are no more than the limit
pub frus_few : (past : List Step) → IsLegal past → length (standing past).frus ≤ most_frus
unfolding IsLegal standing
frus_few [] legal = omega arith
frus_few (step ∷ past) legal = frus_few_next past step legal.1 (frus_few past legal.0)
