-- What is kept of the FRUs that are present, by place.
use Rattle.std.specs.Prelude.{◌<◌, ◌==◌, Bool, true, not, ◌&&◌, if◌then◌else◌, List, [], ◌∷◌, filter, map, length}
use Rattle.std.specs.List.{list_all, list_any, All}
use Rattle.std.specs.Ordering.{is_lt, is_eq}
use Rattle.bmc_base.specs.Places.{Place, place_cmp}
use Rattle.probe_lang.specs.Sights.{Sight, kept_sight}
use Rattle.probe_lang.specs.declared.rows.Hit.{Hit}
use Rattle.probe_lang.specs.declared.rows.Channel.{Channel}
use Rattle.probe_lang.specs.declared.rows.Entry.{Entry}
use Rattle.found_set.specs.declared.row.Row.{Row}
use Rattle.found_set.specs.Found.{Rule}

abbrev pub row_of : Entry → Row
row_of entry = record { place = entry.place; hits = entry.hits; channels = entry.channels }

-- what hits and channels show
abbrev pub row_sight : Row → Sight
row_sight row = kept_sight row.place row.hits row.channels

abbrev pub sights_of : List Row → List Sight
sights_of rows = map row_sight rows

abbrev pub is_row_at : Place → Row → Bool
is_row_at place row = is_eq (place_cmp place row.place)

abbrev pub is_row_after : Place → Row → Bool
is_row_after place row = is_lt (place_cmp place row.place)

-- whether a row is at a place
abbrev pub holds_place : List Row → Place → Bool
holds_place rows place = list_any (is_row_at place) rows

-- with this row among them, before the first at a later place
abbrev pub with_row : Row → List Row → List Row
with_row row [] = row ∷ []
with_row row (other ∷ rows) = if is_row_after row.place other then row ∷ other ∷ rows else other ∷ with_row row rows

-- without the one at this place
abbrev pub without_row : Place → List Row → List Row
without_row place rows = filter (λ (row : Row). not (is_row_at place row)) rows

-- each comes before those behind it
abbrev pub are_by_place : List Row → Bool
are_by_place [] = true
are_by_place (row ∷ rows) = list_all (is_row_after row.place) rows && are_by_place rows

-- the hits and channels are of configurations that have a rule
pub record IsKnown (rules : List Rule) (row : Row) : Type 0 where
  pub hits : All (λ (hit : Hit). hit.config < length rules) row.hits
  pub channels : All (λ (channel : Channel). channel.config < length rules) row.channels

-- whether there are neither hits nor channels; such a row changes no fact
abbrev pub is_idle : Row → Bool
is_idle row = length row.hits == 0 && length row.channels == 0
