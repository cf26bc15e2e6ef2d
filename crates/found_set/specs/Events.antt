-- Events, and what they do to configurations, rows and facts.
use Rattle.std.specs.Prelude.{ℕ, ◌*◌, Bool, false, if◌then◌else◌, List, [], ◌∷◌, ◌++◌, length, filter}
use Rattle.std.specs.List.{list_all}
use Rattle.bmc_base.specs.Places.{Place}
use Rattle.found_set.specs.declared.facts.Facts.{Facts}
use Rattle.found_set.specs.declared.next_facts.EventKey.{EventKey}
use Rattle.found_set.specs.declared.next_facts.EventKey.TheVariants as key
use Rattle.found_set.specs.declared.row.Row.{Row}
use Rattle.found_set.specs.Found.{Rule, facts}
use Rattle.found_set.specs.Rows.{sights_of, with_row, without_row, is_row_at, is_idle}

-- a configuration comes, a FRU comes, or the FRU at a place goes
pub data Event : Type 0 where
  ConfigEvent : Rule → Event
  PlugEvent : Row → Event
  UnplugEvent : Place → Event

-- an event that is staged, and the facts after it
pub record Staged : Type 0 where
  pub event : Event
  pub facts : Facts

-- by what an event is known to the caller
abbrev pub key_of : Event → EventKey
key_of (ConfigEvent rule) = key.Config rule.name
key_of (PlugEvent row) = key.Plug row.place
key_of (UnplugEvent place) = key.Unplug place

abbrev pub names_after : Event → List (List ℕ) → List (List ℕ)
names_after (ConfigEvent rule) names = names ++ rule.name ∷ []
names_after (PlugEvent row) names = names
names_after (UnplugEvent place) names = names

abbrev pub rules_after : Event → List Rule → List Rule
rules_after (ConfigEvent rule) rules = rules ++ rule ∷ []
rules_after (PlugEvent row) rules = rules
rules_after (UnplugEvent place) rules = rules

abbrev pub rows_after : Event → List Row → List Row
rows_after (ConfigEvent rule) rows = rows
rows_after (PlugEvent row) rows = with_row row rows
rows_after (UnplugEvent place) rows = without_row place rows

-- the facts after an event
abbrev pub facts_after : Event → List Rule → List Row → Facts
facts_after event rules rows = facts (rules_after event rules) (sights_of (rows_after event rows))

-- whether it is seen at once that an event changes no fact: a row that comes or goes is idle
abbrev pub is_idle_event : Event → List Row → Bool
is_idle_event (ConfigEvent rule) rows = false
is_idle_event (PlugEvent row) rows = is_idle row
is_idle_event (UnplugEvent place) rows = list_all is_idle (filter (is_row_at place) rows)

-- at the most so many probes are evaluated for an event
abbrev pub most_evals : Event → List Rule → List Row → ℕ
most_evals event rules rows = if is_idle_event event rows then 0 else 2 * length (rules_after event rules)
