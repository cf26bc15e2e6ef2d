-- What is seen of a set, and what holds inside.
use Rattle.std.specs.Prelude.{◌≡◌, ◌≤◌, true, length, option_map}
use Rattle.std.specs.Option.{ForSome}
use Rattle.found_set.specs.declared.set.FoundSet.TheInside.{Inside}
use Rattle.found_set.specs.declared.staged.Staged.{Staged as HeldStaged}
use Rattle.found_set.specs.Marks.{most_rules}
use Rattle.found_set.specs.Found.{facts, names_of}
use Rattle.found_set.specs.Rows.{sights_of, are_by_place}
use Rattle.found_set.specs.Events.{facts_after}
use Rattle.found_set.specs.Staging.{event_of, staged_of, HasRoom}
use Rattle.found_set.specs.Sets.{SetView}

abbrev pub set_view : {L : Type 0} → Inside L → SetView
set_view inside = record { rules = inside.rules.items; rows = inside.rows.items; facts = inside.facts; staged = option_map staged_of inside.staged }

-- rows are by place, and the facts are those of the rules and rows, also after what is staged, for which there is room
pub record IsSound {L : Type 0} (inside : Inside L) : Type 0 where
  pub few : length inside.rules.items ≤ most_rules
  pub named : inside.names.names ≡ names_of inside.rules.items
  pub by_place : are_by_place inside.rows.items ≡ true
  pub facts : inside.facts ≡ facts inside.rules.items (sights_of inside.rows.items)
  pub next : ForSome inside.staged (λ (held : HeldStaged L). held.facts ≡ facts_after (event_of held.event) inside.rules.items inside.rows.items)
  pub room : ForSome inside.staged (λ (held : HeldStaged L). HasRoom held.event inside.names inside.rules inside.rows)
