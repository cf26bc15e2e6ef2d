-- The entries of a moment, and the boards of one configuration.
use Rattle.std.specs.Prelude.{ℕ, ◌≡◌, ◌<◌, ◌&&◌, ◌||◌, not, Bool, true, false, IsTrue, IsSome, ⊤, ◌⊎◌, if◌then◌else◌}
use Rattle.std.specs.Prelude.{List, [], ◌∷◌, ◌++◌, filter, map, slice_get, Option, Some, None}
use Rattle.std.proofs.Math.Bool.{beq}
use Rattle.std.specs.Borrow.{Bor}
use Rattle.std.specs.List.{AllByRecursion}
use Rattle.std.specs.List.Sorted.{IsStrictlySortedBy}
use Rattle.std.specs.Option.{option_eq, option_cmp}
use Rattle.found_set.specs.Marks.{is_marked, mark_count, AreMarked}
use Rattle.std.specs.Ordering.{is_lt}
use Rattle.bmc_base.specs.Places.{Place, place_cmp, place_eq}
use Rattle.probe_lang.specs.declared.rows.Entry.{Entry}
use Rattle.probe_lang.specs.Sights.{entry_sight, has_config}
use Rattle.cfg_json.specs.Configs.{Config}
use Rattle.found_set.specs.declared.facts.Facts.{Facts}
use Rattle.inventory.specs.Boards.{has_board, hit_places, places_or_none}
use Rattle.inventory.specs.Indexes.{except}
use Rattle.inventory.specs.Differences.{Moment, IsMarkedBy, key_of}
use Rattle.inventory.specs.declared.apart.Apart.{Apart}
use Rattle.inventory.specs.declared.apart.Apart.TheVariants as known
use Rattle.inventory.specs.declared.apart.Otherwise.{Otherwise}
use Rattle.inventory.specs.declared.board.BoardKey.{BoardKey}

-- the places of the entries on reachable buses that a pattern of a configuration matches
abbrev pub hits_in : (ℕ → Bool) → List Entry → ℕ → List (Option Place)
hits_in reach entries number = map Some (hit_places reach (map entry_sight entries) number)

-- the boards of a configuration that is found at a moment
abbrev pub found_boards : Bool → (ℕ → Bool) → Moment → ℕ → List (Option Place)
found_boards match_one reach moment number = places_or_none match_one (hit_places reach (map entry_sight moment.entries) number)

-- the boards of a configuration at a moment
abbrev pub boards_now : Bool → (ℕ → Bool) → (ℕ → Bool) → Moment → ℕ → List (Option Place)
boards_now match_one found reach moment number = if found number then found_boards match_one reach moment number else []

-- the keys of the boards of a configuration that are here and not there
abbrev pub left : ℕ → List (Option Place) → List (Option Place) → List BoardKey
left number here there = map (key_of number) (except (has_board there) here)

-- the new keys are the old ones, and behind them those of the boards of a configuration that are here and not there
abbrev pub PushesLeft : ℕ → Bool → Moment → Moment → List BoardKey → List BoardKey → Type 0
PushesLeft number match_one here there old new =
    (found reach found_there reach_there : ℕ → Bool) → IsMarkedBy here.facts found reach → IsMarkedBy there.facts found_there reach_there
    → new ≡ old ++ left number (boards_now match_one found reach here number) (boards_now match_one found_there reach_there there number)

-- the keys of the boards of one more configuration, if there is one
abbrev pub plus_keys : (ℕ → Bool) → (ℕ → Bool) → Moment → ℕ → Option Config → List BoardKey
plus_keys found reach moment number None = []
plus_keys found reach moment number (Some config) = left number (boards_now config.probe.match_one found reach moment number) []

-- these entries are the others with this one among them
pub record IsAmong (entry : Entry) (others entries : List Entry) : Type 0 where
  pub front : List Entry
  pub back : List Entry
  pub without : others ≡ front ++ back
  pub with : entries ≡ front ++ entry ∷ back

-- this entry alone comes or goes
abbrev pub IsApartBy : Entry → List Entry → List Entry → Type 0
IsApartBy entry before after = IsAmong entry before after ⊎ IsAmong entry after before

-- each entry is on a bus of which both tests say the same
abbrev pub AreSeenAlike : (ℕ → Bool) → (ℕ → Bool) → List Entry → Type 0
AreSeenAlike reach reach_after entries = AllByRecursion (λ (entry : Entry). reach entry.place.bus ≡ reach_after entry.place.bus) entries

-- each FRU of the first moment is on a bus that is reachable at both moments or at neither
abbrev pub AreAllSeenAlike : Moment → Moment → Type 0
AreAllSeenAlike moment other =
    (reach reach_other : ℕ → Bool) → AreMarked moment.facts.reach reach → AreMarked other.facts.reach reach_other
    → AreSeenAlike reach reach_other moment.entries

-- each entry is on a bus of which both tests say the same, or has no hit of a configuration
abbrev pub AreHitAlike : (ℕ → Bool) → (ℕ → Bool) → ℕ → List Entry → Type 0
AreHitAlike reach reach_after number entries =
    AllByRecursion (λ (entry : Entry). (reach entry.place.bus && has_config entry.hits number)
    ≡ (reach_after entry.place.bus && has_config entry.hits number)) entries

-- a configuration that is not marked was not marked before, and no entry has a hit of it whose bus is reachable in one of both cases alone
abbrev pub MarksSeenOtherwise : List Bool → List Bool → Facts → Facts → List Entry → Type 0
MarksSeenOtherwise old new facts facts_after entries =
    (number : ℕ) → number < mark_count → is_marked new number ≡ false
    → (is_marked old number ≡ false) × ((reach reach_after : ℕ → Bool) → AreMarked facts.reach reach → AreMarked facts_after.reach reach_after
    → AreHitAlike reach reach_after number entries)

-- the entries behind some references
abbrev pub entries_of : List (Bor Entry) → List Entry
entries_of refs = map (λ (ref : Bor Entry). ref.now) refs

-- whether a place is this one, or on a bus of which both tests do not say the same
abbrev pub is_otherwise : (ℕ → Bool) → (ℕ → Bool) → Place → Place → Bool
is_otherwise reach reach_after changed place = place_eq place changed || not (beq (reach place.bus) (reach_after place.bus))

-- the entries at such places
abbrev pub otherwise_of : (ℕ → Bool) → (ℕ → Bool) → Place → List Entry → List Entry
otherwise_of reach reach_after changed entries = filter (λ (entry : Entry). is_otherwise reach reach_after changed entry.place) entries

-- the references are to such entries of the first moment
abbrev pub AreOtherwise : List (Bor Entry) → Moment → Moment → Place → Type 0
AreOtherwise refs moment other changed =
    (reach reach_other : ℕ → Bool) → AreMarked moment.facts.reach reach → AreMarked other.facts.reach reach_other
    → entries_of refs ≡ otherwise_of reach reach_other changed moment.entries

-- this entry alone comes or goes, and each other is seen as before
pub record IsLone (entry : Entry) (before after : Moment) : Type 0 where
  pub apart : IsApartBy entry before.entries after.entries
  pub alike : AreAllSeenAlike before after

-- this entry alone comes or goes, and these of both moments are it, or are seen at one of them alone
pub record AreApart (seen : Otherwise) (before after : Moment) : Type 0 where
  pub changed : Entry
  pub apart : IsApartBy changed before.entries after.entries
  pub otherwise : AreOtherwise seen.before.items before after changed.place
  pub otherwise_after : AreOtherwise seen.after.items after before changed.place

-- this is known of two moments
abbrev pub IsApart : Apart → Moment → Moment → Type 0
IsApart known.Unknown before after = ⊤
IsApart (known.Lone entry) before after = IsLone entry.now before after
IsApart (known.Several seen) before after = AreApart seen before after

-- a configuration is found at both moments
abbrev pub AreBothFound : ℕ → Moment → Moment → Type 0
AreBothFound number before after = (is_marked before.facts.found number ≡ true) × (is_marked after.facts.found number ≡ true)

-- and it has a hit at both
pub record HasBoth (number : ℕ) (before after : Moment) : Type 0 where
  pub found : AreBothFound number before after
  pub hit : (reach : ℕ → Bool) → AreMarked before.facts.reach reach → IsSome (slice_get (hit_places reach (map entry_sight before.entries) number) 0)
  pub hit_after : (reach : ℕ → Bool) → AreMarked after.facts.reach reach → IsSome (slice_get (hit_places reach (map entry_sight after.entries) number) 0)

-- each configuration that is not marked has the same boards at both moments
abbrev pub AreSameBut : List Bool → Moment → Moment → Type 0
AreSameBut marks before after =
    (number : ℕ) → number < mark_count → is_marked marks number ≡ false → (found reach found_after reach_after : ℕ → Bool)
    → IsMarkedBy before.facts found reach → IsMarkedBy after.facts found_after reach_after → (match_one : Bool)
    → boards_now match_one found reach before number ≡ boards_now match_one found_after reach_after after number

-- a place has these before it and those behind it
pub record IsBeside (place : Place) (front back : List Place) : Type 0 where
  pub before : AllByRecursion (λ (each : Place). IsTrue (is_lt (place_cmp each place))) front
  pub behind : AllByRecursion (λ (each : Place). IsTrue (is_lt (place_cmp place each))) back

-- these boards, without those at the front that come before this one
abbrev pub skip_before : Option Place → List (Option Place) → List (Option Place)
skip_before board [] = []
skip_before board (first ∷ boards) = if is_lt (option_cmp place_cmp first board) then skip_before board boards else first ∷ boards

-- whether this board is the first of these
abbrev pub is_first : Option Place → List (Option Place) → Bool
is_first board [] = false
is_first board (first ∷ boards) = option_eq place_eq board first

-- each board comes before those behind it
abbrev pub AreAscending : List (Option Place) → Type 0
AreAscending boards = IsStrictlySortedBy (option_cmp place_cmp) boards
