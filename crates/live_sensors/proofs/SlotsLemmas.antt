-- Names and their slots, where the sensor in one slot changes, goes or comes.
use Rattle.std.proofs.Common.{arith, ◌≡◌, ◌≢◌, ◌∙◌, ◌<◌, ◌≤◌, ℕ, length, nat_eq, bytes_eq, Bool, true, false, cond, List}
use Rattle.std.proofs.Common.{Option, Some, None, IsSome, IfSome, option_map, slice_index_or}
use Rattle.std.proofs.Common.{Result, Ok, Err, IfOk, refl, sym, ap, subst, true≢false}
use Rattle.std.specs.Prelude.{option_and_then}
use Rattle.std.specs.Option.{is_some}
use Rattle.std.specs.Map.{lookup}
use Rattle.std.specs.Cmp.Lexicographic.{bytes_decides}
use Rattle.std.proofs.lemmas.Bool.{eqb-true, eqb-false, ne_eqb, le-ltb}
use Rattle.bmc_base.specs.Names.{name_of, longest_name}
use Rattle.std.proofs.lemmas.Option.{same_Some, none-some}
use Rattle.sensor_core.specs.Sensors.{Sensor}
use Rattle.live_sensors.specs.Sensors.{LiveSensors, slot_of, sensor_in, ContainsSlot, IsTied, Changes}

-- what is in a slot
abbrev pub at : List (Option Sensor) → ℕ → Option Sensor
at slots slot = slice_index_or slots slot None

-- what holds of this slot and of all others holds of each
by_slot : (P : ℕ → Type 0) (slot : ℕ) → P slot → ((other : ℕ) → other ≢ slot → P other) → (each : ℕ) → P each
by_slot P slot this others each = of (nat_eq each slot) refl
  where
    of : (same : Bool) → nat_eq each slot ≡ same → P each
    of true is = subst P (sym (eqb-true each slot is)) this
    of false is = others each (eqb-false each slot is)

-- ---- a slot that a name has

pub contains_found : (names : List (List ℕ × ℕ)) (name : List ℕ) (found : Option ℕ) → found ≡ lookup (bytes_eq name) names
    → IfSome found (ContainsSlot names)
contains_found names name None is = tt
contains_found names name (Some slot) is = record { name = name; has = sym is }

-- a text of such a length is a name
pub is_name : (text : List ℕ) → 0 < length text → length text ≤ longest_name → name_of text ≡ Ok text
is_name text some few = rw (ne_eqb (length text) 0 (λ is. omega arith), le-ltb longest_name (length text) few) refl

-- a slot that a name has is not empty
pub not_empty : (names : List (List ℕ × ℕ)) (slots : List (Option Sensor)) (name : List ℕ) (slot : ℕ) → IsTied names slots
    → lookup (bytes_eq name) names ≡ Some slot → at slots slot ≡ None → ⊥
not_empty names slots name slot tied has empty = true≢false (sym (subst IsSome empty (tied.filled name slot has)))

-- a name without a sensor has no slot
pub no_slot : (names : List (List ℕ × ℕ)) (slots : List (Option Sensor)) (name : List ℕ) → IsTied names slots
    → option_and_then (at slots) (lookup (bytes_eq name) names) ≡ None → lookup (bytes_eq name) names ≡ None
no_slot names slots name tied none = of (lookup (bytes_eq name) names) refl none
  where
    of : (found : Option ℕ) → lookup (bytes_eq name) names ≡ found → option_and_then (at slots) found ≡ None → found ≡ None
    of None has none = refl
    of (Some slot) has empty = absurd (not_empty names slots name slot tied has empty)

-- what holds of the sensor in a slot holds of the sensor of each name that has the slot
pub at_names : {T E : Type 0} (result : Result T E) (names : List (List ℕ × ℕ)) (slots : List (Option Sensor)) (slot : ℕ) (P : T → Sensor → Type 0)
    → IfSome (at slots slot) (λ sensor. IfOk result (λ x. P x sensor))
    → IfOk result (λ x.
    (name : List ℕ) → lookup (bytes_eq name) names ≡ Some slot → IfSome (option_and_then (at slots) (lookup (bytes_eq name) names)) (P x))
at_names (Ok x) names slots slot P holds = λ name has. subst (λ found. IfSome found (P x)) (sym (ap (option_and_then (at slots)) has)) holds
at_names (Err e) names slots slot P holds = tt

-- another name has another slot
other_slot : (names : List (List ℕ × ℕ)) (slots : List (Option Sensor)) (name each : List ℕ) (slot its : ℕ) → IsTied names slots
    → lookup (bytes_eq name) names ≡ Some slot → bytes_eq name each ≡ false → lookup (bytes_eq each) names ≡ Some its → its ≢ slot
other_slot names slots name each slot its tied had differ has same =
    let one : name ≡ each = tied.apart name each slot had (has ∙ ap Some same) in
    true≢false (sym ((bytes_decides name each).1 one) ∙ differ)

-- where all other slots stay, each other name keeps its sensor
stays : (names : List (List ℕ × ℕ)) (slots slots' : List (Option Sensor)) (name each : List ℕ) (slot : ℕ) → IsTied names slots
    → lookup (bytes_eq name) names ≡ Some slot → ((other : ℕ) → other ≢ slot → at slots' other ≡ at slots other) → bytes_eq name each ≡ false
    → option_and_then (at slots') (lookup (bytes_eq each) names) ≡ option_and_then (at slots) (lookup (bytes_eq each) names)
stays names slots slots' name each slot tied had others differ = of (lookup (bytes_eq each) names) refl
  where
    of : (its : Option ℕ) → lookup (bytes_eq each) names ≡ its → option_and_then (at slots') its ≡ option_and_then (at slots) its
    of None has = refl
    of (Some its) has = others its (other_slot names slots name each slot its tied had differ has)

-- ---- a sensor that changes

pub changes : (now old new : LiveSensors) (slot : ℕ) (change : Sensor → Sensor) → old ≡ now → IsTied old.names old.slots
    → new.names ≡ old.names → new.room ≡ old.room → at new.slots slot ≡ option_map change (at old.slots slot)
    → ((other : ℕ) → other ≢ slot → at new.slots other ≡ at old.slots other) → Changes now new slot change
changes now old new slot change is tied names room changed others =
    subst (λ (before : LiveSensors). Changes before new slot change) is (record {
      names = names;
      room = room;
      slots = record { changed = changed; others = others };
      sensors = sensors;
    })
  where
    sensors : (name : List ℕ) → slot_of old name ≡ Some slot → (other : List ℕ)
        → sensor_in new other ≡ cond (bytes_eq name other) (option_map change (sensor_in old other)) (sensor_in old other)
    sensors name has other =
        ap (λ (each : List (List ℕ × ℕ)). option_and_then (at new.slots) (lookup (bytes_eq other) each)) names ∙ of (bytes_eq name other) refl
      where
        of : (same : Bool) → bytes_eq name other ≡ same
            → option_and_then (at new.slots) (slot_of old other) ≡ cond same (option_map change (sensor_in old other)) (sensor_in old other)
        of true is =
            let also : slot_of old other ≡ Some slot = ap (slot_of old) (sym ((bytes_decides name other).0 is)) ∙ has in
            ap (option_and_then (at new.slots)) also ∙ changed ∙ ap (option_map change) (sym (ap (option_and_then (at old.slots)) also))
        of false is = stays old.names old.slots new.slots name other slot tied has others is

-- ---- a sensor that goes

module _ (names names' : List (List ℕ × ℕ)) (slots slots' : List (Option Sensor)) (name : List ℕ) (slot : ℕ)
    (tied : IsTied names slots) (had : lookup (bytes_eq name) names ≡ Some slot)
    (freed : at slots' slot ≡ None) (others : (other : ℕ) → other ≢ slot → at slots' other ≡ at slots other)
    (out : (each : List ℕ) → lookup (bytes_eq each) names' ≡ cond (bytes_eq name each) None (lookup (bytes_eq each) names)) where
  pub gone_shows : (each : List ℕ) → option_and_then (at slots') (lookup (bytes_eq each) names')
      ≡ cond (bytes_eq name each) None (option_and_then (at slots) (lookup (bytes_eq each) names))
  gone_shows each = ap (option_and_then (at slots')) (out each) ∙ of (bytes_eq name each) refl
    where
      of : (same : Bool) → bytes_eq name each ≡ same → option_and_then (at slots') (cond same None (lookup (bytes_eq each) names))
          ≡ cond same None (option_and_then (at slots) (lookup (bytes_eq each) names))
      of true is = refl
      of false is = stays names slots slots' name each slot tied had others is

  -- a name that has a slot now is another one, and had it
  left : (each : List ℕ) (its : ℕ) → lookup (bytes_eq each) names' ≡ Some its
      → (bytes_eq name each ≡ false) × (lookup (bytes_eq each) names ≡ Some its)
  left each its has = of (bytes_eq name each) refl (sym (out each) ∙ has)
    where
      of : (same : Bool) → bytes_eq name each ≡ same → cond same None (lookup (bytes_eq each) names) ≡ Some its
          → (bytes_eq name each ≡ false) × (lookup (bytes_eq each) names ≡ Some its)
      of true is has = absurd (none-some its has)
      of false is has = (is, has)

  -- each other slot keeps its name
  keeps_name : (its : ℕ) → its ≢ slot → ContainsSlot names its → ContainsSlot names' its
  keeps_name its differs held = record { name = held.name; has = out held.name ∙ of (bytes_eq name held.name) refl }
    where
      of : (same : Bool) → bytes_eq name held.name ≡ same → cond same None (lookup (bytes_eq held.name) names) ≡ Some its
      of true is =
          let one : name ≡ held.name = (bytes_decides name held.name).0 is in
          absurd (differs (same_Some its slot (sym held.has ∙ ap (λ (each : List ℕ). lookup (bytes_eq each) names) (sym one) ∙ had)))
      of false is = held.has

  pub gone_tied : IsTied names' slots'
  gone_tied = record {
    filled = λ each its has.
        let was : (bytes_eq name each ≡ false) × (lookup (bytes_eq each) names ≡ Some its) = left each its has in
        subst IsSome (sym (others its (other_slot names slots name each slot its tied had was.0 was.1))) (tied.filled each its was.1);
    apart = λ each other its has also. tied.apart each other its (left each its has).1 (left other its also).1;
    named = by_slot (λ its. IsSome (at slots' its) → ContainsSlot names' its) slot
        (λ filled. absurd (true≢false (sym (subst IsSome freed filled))))
        (λ its differs filled. keeps_name its differs (tied.named its (subst IsSome (others its differs) filled)));
  }

-- ---- a sensor that comes

module _ (names names' : List (List ℕ × ℕ)) (slots slots' : List (Option Sensor)) (name : List ℕ) (slot : ℕ) (sensor : Sensor)
    (tied : IsTied names slots) (none : lookup (bytes_eq name) names ≡ None) (free : at slots slot ≡ None)
    (put : at slots' slot ≡ Some sensor) (others : (other : ℕ) → other ≢ slot → at slots' other ≡ at slots other)
    (up : (each : List ℕ) → lookup (bytes_eq each) names' ≡ cond (bytes_eq name each) (Some slot) (lookup (bytes_eq each) names)) where
  -- a slot that a name had stays as it was
  keeps : (each : List ℕ) (its : ℕ) → lookup (bytes_eq each) names ≡ Some its → at slots' its ≡ at slots its
  keeps each its has = others its (λ same. not_empty names slots each its tied has (ap (at slots) same ∙ free))

  pub come_shows : (each : List ℕ) → option_and_then (at slots') (lookup (bytes_eq each) names')
      ≡ cond (bytes_eq name each) (Some sensor) (option_and_then (at slots) (lookup (bytes_eq each) names))
  come_shows each = ap (option_and_then (at slots')) (up each) ∙ of (bytes_eq name each)
    where
      stays : (its : Option ℕ) → lookup (bytes_eq each) names ≡ its → option_and_then (at slots') its ≡ option_and_then (at slots) its
      stays None has = refl
      stays (Some its) has = keeps each its has

      of : (same : Bool) → option_and_then (at slots') (cond same (Some slot) (lookup (bytes_eq each) names))
          ≡ cond same (Some sensor) (option_and_then (at slots) (lookup (bytes_eq each) names))
      of true = put
      of false = stays (lookup (bytes_eq each) names) refl

  filled_by : (each : List ℕ) (its : ℕ) (same : Bool) → cond same (Some slot) (lookup (bytes_eq each) names) ≡ Some its → IsSome (at slots' its)
  filled_by each its true has = subst (λ (at_slot : ℕ). IsSome (at slots' at_slot)) (same_Some slot its has) (ap is_some put)
  filled_by each its false has = subst IsSome (sym (keeps each its has)) (tied.filled each its has)

  apart_by : (each other : List ℕ) (its : ℕ) (this that : Bool) → bytes_eq name each ≡ this → bytes_eq name other ≡ that
      → cond this (Some slot) (lookup (bytes_eq each) names) ≡ Some its → cond that (Some slot) (lookup (bytes_eq other) names) ≡ Some its
      → each ≡ other
  apart_by each other its true true one two has also = sym ((bytes_decides name each).0 one) ∙ (bytes_decides name other).0 two
  apart_by each other its true false one two has also =
      absurd (not_empty names slots other its tied also (ap (at slots) (sym (same_Some slot its has)) ∙ free))
  apart_by each other its false true one two has also =
      absurd (not_empty names slots each its tied has (ap (at slots) (sym (same_Some slot its also)) ∙ free))
  apart_by each other its false false one two has also = tied.apart each other its has also

  has_slot : (same : Bool) → bytes_eq name name ≡ same → cond same (Some slot) (lookup (bytes_eq name) names) ≡ Some slot
  has_slot true is = refl
  has_slot false is = absurd (true≢false (sym ((bytes_decides name name).1 refl) ∙ is))

  keeps_its_name : (its : ℕ) → ContainsSlot names its → ContainsSlot names' its
  keeps_its_name its held = record { name = held.name; has = up held.name ∙ of (bytes_eq name held.name) refl }
    where
      of : (same : Bool) → bytes_eq name held.name ≡ same → cond same (Some slot) (lookup (bytes_eq held.name) names) ≡ Some its
      of true is =
          let one : name ≡ held.name = (bytes_decides name held.name).0 is in
          absurd (none-some its (sym none ∙ ap (λ (each : List ℕ). lookup (bytes_eq each) names) one ∙ held.has))
      of false is = held.has

  pub come_tied : IsTied names' slots'
  come_tied = record {
    filled = λ each its has. filled_by each its (bytes_eq name each) (sym (up each) ∙ has);
    apart = λ each other its has also.
        apart_by each other its (bytes_eq name each) (bytes_eq name other) refl refl (sym (up each) ∙ has) (sym (up other) ∙ also);
    named = by_slot (λ its. IsSome (at slots' its) → ContainsSlot names' its) slot
        (λ filled. record { name = name; has = up name ∙ has_slot (bytes_eq name name) refl })
        (λ its differs filled. keeps_its_name its (tied.named its (subst IsSome (others its differs) filled)));
  }

-- ---- the slots of other names

-- where one name changes, each other name keeps its slot
pub other_keeps : (names names' : List (List ℕ × ℕ)) (name other : List ℕ) (found : Option ℕ)
    → lookup (bytes_eq other) names' ≡ cond (bytes_eq name other) found (lookup (bytes_eq other) names) → bytes_eq name other ≡ false
    → lookup (bytes_eq other) names' ≡ lookup (bytes_eq other) names
other_keeps names names' name other found is differ = is ∙ ap (λ (same : Bool). cond same found (lookup (bytes_eq other) names)) differ
