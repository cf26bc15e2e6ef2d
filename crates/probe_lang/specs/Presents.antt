-- The entries of the FRUs that are present, by place.
use Rattle.std.specs.Prelude.{Bool, true, not, ◌&&◌, if◌then◌else◌, List, [], ◌∷◌, filter, map, Option, Some, None}
use Rattle.std.specs.List.{list_all, list_any}
use Rattle.std.specs.Global.{Box}
use Rattle.std.specs.Ordering.{is_lt, is_eq}
use Rattle.bmc_base.specs.Places.{Place, place_cmp}
use Rattle.probe_lang.specs.declared.rows.Entry.{Entry}

-- what these boxes hold
abbrev pub unboxed : List (Box Entry) → List Entry
unboxed boxes = map (λ (entry : Box Entry). entry.value) boxes

abbrev pub is_entry_at : Place → Entry → Bool
is_entry_at place entry = is_eq (place_cmp place entry.place)

-- whether an entry stands at a place
abbrev pub holds_place : List Entry → Place → Bool
holds_place entries place = list_any (is_entry_at place) entries

-- with this entry among them, by place
abbrev pub with_entry : Entry → List Entry → List Entry
with_entry entry [] = entry ∷ []
with_entry entry (other ∷ entries) = if is_lt (place_cmp entry.place other.place) then entry ∷ other ∷ entries else other ∷ with_entry entry entries

-- without the one at this place
abbrev pub without_entry : Place → List Entry → List Entry
without_entry place entries = filter (λ entry. not (is_entry_at place entry)) entries

-- each comes before those behind it
abbrev pub are_by_place : List Entry → Bool
are_by_place [] = true
are_by_place (entry ∷ entries) = list_all (λ later. is_lt (place_cmp entry.place later.place)) entries && are_by_place entries

-- with one more, if one is given
abbrev pub with_one : Option Entry → List Entry → List Entry
with_one None entries = entries
with_one (Some entry) entries = with_entry entry entries

-- without the one at a place, if one is given
abbrev pub without_one : Option Place → List Entry → List Entry
without_one None entries = entries
without_one (Some place) entries = without_entry place entries

-- the entries after an event: those that are kept, with one more or without one
abbrev pub present_of : List Entry → Option Entry → Option Place → List Entry
present_of kept plus minus = with_one plus (without_one minus kept)
