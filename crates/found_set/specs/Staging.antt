-- An event as the set holds it, with where its row is, and the room that it needs.
use Rattle.std.specs.Prelude.{◌≡◌, ◌<◌, true, false, length, Vec, Some, None, bytes_eq, position}
use Rattle.std.specs.List.{position_or_len}
use Rattle.std.specs.Global.{Global}
use Rattle.std.specs.Vec.{vec_len, vec_capacity}
use Rattle.found_set.specs.declared.row.Row.{Row}
use Rattle.found_set.specs.declared.staged.Event.{Event as Held}
use Rattle.found_set.specs.declared.staged.Event.TheVariants.{Config, Plug, Unplug}
use Rattle.found_set.specs.declared.staged.Staged.{Staged as HeldStaged}
use Rattle.found_set.specs.Named.{NamesView}
use Rattle.found_set.specs.Marks.{most_rules}
use Rattle.found_set.specs.Found.{Rule}
use Rattle.found_set.specs.Rows.{is_row_at, is_row_after, holds_place, are_by_place}
use Rattle.found_set.specs.Events.{Event, Staged, ConfigEvent, PlugEvent, UnplugEvent}

abbrev pub event_of : {L : Type 0} → Held L → Event
event_of (Config rule) = ConfigEvent rule.value
event_of (Plug at row) = PlugEvent row
event_of (Unplug at place) = UnplugEvent place

-- what is seen of an event that is staged, and of the facts after it
abbrev pub staged_of : {L : Type 0} → HeldStaged L → Staged
staged_of held = record { event = event_of held.event; facts = held.facts }

-- there is room for what an event brings: in memory, and for its name or place; and its row is where the event says
abbrev pub HasRoom : {L : Type 0} → Held L → NamesView → Vec Rule Global → Vec Row Global → Type 0
HasRoom (Config rule) names rules rows =
    (0 < names.spare) × (position (bytes_eq rule.value.name) names.names ≡ None) × (vec_len rules < vec_capacity rules) × (length rules.items < most_rules)
HasRoom (Plug at row) names rules rows =
    (vec_len rows < vec_capacity rows) × (holds_place rows.items row.place ≡ false) × (at ≡ position_or_len (is_row_after row.place) rows.items)
HasRoom (Unplug at place) names rules rows = (are_by_place rows.items ≡ true) × (position (is_row_at place) rows.items ≡ Some at)
