-- What a prepare does, from what its parts do.
use Rattle.std.proofs.Common.{◌≡◌, ◌+◌, ◌*◌, ℕ, List, [], ◌∷◌, ◌++◌, length, length-append, Ok, Some, None, ap, ap₂, subst, ◌∙◌, arith}
use Rattle.bmc_base.specs.Steps.{Counts, IsWithin}
use Rattle.found_set.specs.declared.facts.Facts.{Facts}
use Rattle.found_set.specs.declared.next_facts.EventKey.{EventKey}
use Rattle.found_set.specs.declared.next_facts.NextFacts.{NextFacts}
use Rattle.found_set.specs.declared.row.Row.{Row}
use Rattle.found_set.specs.Found.{Rule}
use Rattle.found_set.specs.Sets.{SetView, after, as_staged, Prepares}
use Rattle.found_set.specs.Events.{Event, ConfigEvent, facts_after, key_of, most_evals}

-- the set was unstaged, and then this event was staged in it
pub prepared : (old mid new : SetView) (event : Event) (key : EventKey) (told : Facts) (steps now : Counts) → mid ≡ as_staged old None → key ≡ key_of event
    → told ≡ facts_after event mid.rules mid.rows
    → new ≡ as_staged mid (Some (after event mid)) → IsWithin steps now (most_evals event mid.rules mid.rows)
    → (let next : NextFacts = record { key = key; facts = told } in Prepares old new event (Ok next) steps now)
prepared old mid new event key told steps now bare key_is told_is staged within = record {
  next = ap₂ (λ (key_now : EventKey) (facts_now : Facts). let next : NextFacts = record { key = key_now; facts = facts_now } in next) key_is (told_is
      ∙ ap (λ (v : SetView). facts_after event v.rules v.rows) bare);
  ok = staged ∙ ap (λ (v : SetView). as_staged v (Some (after event v))) bare;
  err = tt;
  counted = subst (λ (v : SetView). IsWithin steps now (most_evals event v.rules v.rows)) bare within;
}

-- one rule more
pub with_one : (steps now : Counts) (rules : List Rule) (rows : List Row) (rule : Rule) → IsWithin steps now (2 * (length rules + 1))
    → IsWithin steps now (most_evals (ConfigEvent rule) rules rows)
with_one steps now rules rows rule within =
    let more : length rules + 1 ≡ length (rules ++ rule ∷ []) = omega (arith, length-append rules (rule ∷ [])) in
    subst (λ (n : ℕ). IsWithin steps now (2 * n)) more within
