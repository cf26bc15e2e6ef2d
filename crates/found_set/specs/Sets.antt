-- The set, what is staged, and what its calls do.
use Rattle.std.specs.Prelude.{◌≡◌, List, [], Option, Some, None, Result, IfOk, OnOk, OnErr}
use Rattle.bmc_base.specs.Steps.{Counts, IsWithin}
use Rattle.bmc_base.specs.declared.out_of_memory.OutOfMemory.{OutOfMemory}
use Rattle.found_set.specs.declared.facts.Facts.{Facts}
use Rattle.found_set.specs.declared.next_facts.NextFacts.{NextFacts}
use Rattle.found_set.specs.declared.row.Row.{Row}
use Rattle.found_set.specs.Found.{Rule, facts}
use Rattle.found_set.specs.Events.{Event, Staged, key_of, rules_after, rows_after, facts_after, most_evals}

-- what is seen of a set
pub record SetView : Type 0 where
  pub rules : List Rule
  pub rows : List Row
  pub facts : Facts
  pub staged : Option Staged

-- the set of no configurations and no rows
abbrev pub empty_set : SetView
empty_set = record { rules = []; rows = []; facts = facts [] []; staged = None }

-- an event, and the facts after it
abbrev pub after : Event → SetView → Staged
after event set = record { event = event; facts = facts_after event set.rules set.rows }

-- the set with this staged, or nothing
abbrev pub as_staged : SetView → Option Staged → SetView
as_staged set staged = record { rules = set.rules; rows = set.rows; facts = set.facts; staged = staged }

-- what a prepare of an event does: it answers the facts after it and stages both, or stages nothing, and leaves the rest
pub record Prepares (old new : SetView) (event : Event) (result : Result NextFacts OutOfMemory) (steps_old steps_new : Counts) : Type 0 where
  pub next : IfOk result (λ next. next ≡ record { key = key_of event; facts = facts_after event old.rules old.rows })
  pub ok : OnOk result (new ≡ as_staged old (Some (after event old)))
  pub err : OnErr result (new ≡ as_staged old None)
  pub counted : IsWithin steps_old steps_new (most_evals event old.rules old.rows)

-- the event and the facts are those that are staged
abbrev pub IsStaged : Option Staged → NextFacts → Type 0
IsStaged None next = ⊥
IsStaged (Some staged) next = (key_of staged.event ≡ next.key) × (staged.facts ≡ next.facts)

-- the set after the staged event
abbrev pub committed : SetView → SetView
committed set = by set.staged
  where
    by : Option Staged → SetView
    by None = set
    by (Some staged) = record { rules = rules_after staged.event set.rules; rows = rows_after staged.event set.rows; facts = staged.facts; staged = None }
