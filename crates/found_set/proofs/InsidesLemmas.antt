-- What keeps a set sound.
use Rattle.std.proofs.Common.{◌≡◌, ◌≤◌, ℕ, Vec, Global, List, [], ◌∷◌, ◌++◌, length, length-append, arith, Option, Some, None}
use Rattle.std.proofs.Common.{true, refl, subst, ap, ap₂, sym, ◌∙◌}
use Rattle.std.specs.Prelude.{option_map}
use Rattle.std.specs.Option.{ForSome}
use Rattle.std.proofs.lemmas.List.{same_from_push, map-append}
use Rattle.found_set.specs.declared.facts.Facts.{Facts}
use Rattle.found_set.specs.declared.row.Row.{Row}
use Rattle.found_set.specs.declared.set.FoundSet.TheInside.{Inside}
use Rattle.found_set.specs.declared.staged.Event.{Event as Held}
use Rattle.found_set.specs.declared.staged.Event.TheVariants.{Config, Plug, Unplug}
use Rattle.found_set.specs.declared.staged.Staged.{Staged as HeldStaged}
use Rattle.found_set.specs.Staging.{event_of, staged_of, HasRoom}
use Rattle.found_set.specs.Found.{Rule, facts, names_of}
use Rattle.found_set.specs.Named.{NamesView}
use Rattle.found_set.specs.Rows.{sights_of, are_by_place}
use Rattle.found_set.specs.Sets.{SetView, as_staged}
use Rattle.found_set.specs.Events.{Staged, Event, ConfigEvent, PlugEvent, UnplugEvent, names_after, rules_after, rows_after, facts_after}
use Rattle.found_set.specs.Insides.{IsSound}
use Rattle.found_set.proofs.RowsLemmas.{by_place_with, by_place_without}

none_is_not_some : {X : Type 0} (one : X) → None ≡ Some one → ⊥
none_is_not_some one same = cc

some_is : {X : Type 0} (one other : X) → Some one ≡ Some other → one ≡ other
some_is one other same = cc

-- nothing is staged
pub bare : {X : Type 0} (P : X → Type 0) → ForSome None P
bare P = λ other same. absurd (none_is_not_some other same)

pub bare_as : {X : Type 0} (P : X → Type 0) (staged : Option X) → staged ≡ None → ForSome staged P
bare_as P staged same = λ other is. absurd (none_is_not_some other (sym same ∙ is))

-- this is staged
pub only : {X : Type 0} (P : X → Type 0) (staged other : X) → staged ≡ other → P other → ForSome (Some staged) P
only P staged other same holds = λ third is. subst P (sym same ∙ some_is staged third is) holds

-- where nothing is seen to be staged, nothing is
pub unstaged : {L : Type 0} (staged : Option (HeldStaged L)) → option_map staged_of staged ≡ None → staged ≡ None
unstaged None seen = refl
unstaged (Some held) seen = absurd (cc)

-- the same rules, rows and facts, in other room and with something else staged
pub sound_with : {L : Type 0} (inside : Inside L) (names : NamesView) (rules : Vec Rule Global) (rows : Vec Row Global)
    (staged : Option (HeldStaged L)) → IsSound inside → names.names ≡ inside.names.names → rules.items ≡ inside.rules.items → rows.items ≡ inside.rows.items
    → ForSome staged (λ (held : HeldStaged L). held.facts ≡ facts_after (event_of held.event) inside.rules.items inside.rows.items)
    → ForSome staged (λ (held : HeldStaged L). HasRoom held.event names rules rows)
    → (let after : Inside L = record { names = names; rules = rules; rows = rows; facts = inside.facts; staged = staged } in IsSound after)
sound_with inside names rules rows staged sound names_same rules_same rows_same next room = record {
  named = names_same ∙ sound.named ∙ ap names_of (sym rules_same);
  few = subst (λ (rs : List Rule). length rs ≤ 256) (sym rules_same) sound.few;
  by_place = ap are_by_place rows_same ∙ sound.by_place;
  facts = sound.facts ∙ ap₂ (λ (rs : List Rule) (ws : List Row). facts rs (sights_of ws)) (sym rules_same) (sym rows_same);
  next = λ held is. next held is
      ∙ ap₂ (λ (rs : List Rule) (ws : List Row). facts_after (event_of held.event) rs ws) (sym rules_same) (sym rows_same);
  room = room;
}

-- what is seen with this staged
pub seen_with : (view : SetView) (rules : List Rule) (rows : List Row) (facts_now : Facts) (now other : Staged) → rules ≡ view.rules → rows ≡ view.rows
    → facts_now ≡ view.facts → now ≡ other
    → (let seen : SetView = record { rules = rules; rows = rows; facts = facts_now; staged = Some now } in seen) ≡ as_staged view (Some other)
seen_with view rules rows facts_now now other rules_same rows_same facts_same staged_same = cc

-- what is seen with nothing staged
pub seen_bare : (rules others : List Rule) (rows rest : List Row) (facts_now other_facts : Facts) → rules ≡ others → rows ≡ rest → facts_now ≡ other_facts
    → (let seen : SetView = record { rules = rules; rows = rows; facts = facts_now; staged = None } in
    seen) ≡ record { rules = others; rows = rest; facts = other_facts; staged = None }
seen_bare rules others rows rest facts_now other_facts rules_same rows_same facts_same = cc

few_after : {L : Type 0} (event : Held L) (names : NamesView) (rules : Vec Rule Global) (rows : Vec Row Global) → HasRoom event names rules rows
    → length rules.items ≤ 256 → length (rules_after (event_of event) rules.items) ≤ 256
few_after (Config rule) names rules rows room few = omega (arith, room.3, length-append rules.items (rule.value ∷ []))
few_after (Plug at row) names rules rows room few = few
few_after (Unplug at place) names rules rows room few = few

by_place_after : {L : Type 0} (event : Held L) (names : NamesView) (rules : Vec Rule Global) (rows : Vec Row Global) → HasRoom event names rules rows
    → are_by_place rows.items ≡ true → are_by_place (rows_after (event_of event) rows.items) ≡ true
by_place_after (Config rule) names rules rows room ordered = ordered
by_place_after (Plug at row) names rules rows room ordered = by_place_with row rows.items ordered room.1
by_place_after (Unplug at place) names rules rows room ordered = by_place_without place rows.items ordered

names_are_after : (event : Event) (rules : List Rule) (names : List (List ℕ)) → names ≡ names_of rules
    → names_after event names ≡ names_of (rules_after event rules)
names_are_after (ConfigEvent rule) rules names named =
    ap (λ (ns : List (List ℕ)). ns ++ rule.name ∷ []) named ∙ sym (map-append (λ (r : Rule). r.name) rules (rule ∷ []))
names_are_after (PlugEvent row) rules names named = named
names_are_after (UnplugEvent place) rules names named = named

-- what was staged is taken over
pub sound_after : {L : Type 0} (inside : Inside L) (held : HeldStaged L) (names : NamesView) (rules : Vec Rule Global) (rows : Vec Row Global)
    (facts_now : Facts) (staged : Option (HeldStaged L)) → IsSound inside → inside.staged ≡ Some held
    → names.names ≡ names_after (event_of held.event) inside.names.names → rules.items ≡ rules_after (event_of held.event) inside.rules.items
    → rows.items ≡ rows_after (event_of held.event) inside.rows.items → facts_now ≡ held.facts → staged ≡ None
    → (let after : Inside L = record { names = names; rules = rules; rows = rows; facts = facts_now; staged = staged } in IsSound after)
sound_after inside held names rules rows facts_now staged sound is names_same rules_same rows_same facts_same none = record {
  named = names_same ∙ names_are_after (event_of held.event) inside.rules.items inside.names.names sound.named ∙ ap names_of (sym rules_same);
  by_place = ap are_by_place rows_same ∙ by_place_after held.event inside.names inside.rules inside.rows (sound.room held is) sound.by_place;
  few = subst (λ (rs : List Rule). length rs ≤ 256) (sym rules_same)
      (few_after held.event inside.names inside.rules inside.rows (sound.room held is) sound.few);
  facts = facts_same ∙ sound.next held is ∙ ap₂ (λ (rs : List Rule) (ws : List Row). facts rs (sights_of ws)) (sym rules_same) (sym rows_same);
  next = bare_as _ _ none;
  room = bare_as _ _ none;
}

-- what is pushed and popped comes back
pub back : {X : Type 0} (old mid new : List X) (item last : X) → mid ≡ old ++ item ∷ [] → mid ≡ new ++ last ∷ [] → (new ≡ old) × (last ≡ item)
back old mid new item last pushed popped = same_from_push new old last item (sym popped ∙ pushed)
