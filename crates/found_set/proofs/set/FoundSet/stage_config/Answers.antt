-- A rule is pushed, evaluated with, and popped again.
use Rattle.std.proofs.Common.{◌≡◌, ◌∙◌, ℕ, ◌+◌, ◌*◌, ◌<◌, ◌≤◌, List, [], ◌∷◌, ◌++◌, length, ap, ap₂, sym, refl, subst, None, arith, append-nil, length-append}
use Rattle.std.proofs.Common.{vec_len, vec_capacity}
use Rattle.std.specs.Prelude.{bytes_eq, option_map, position}
use Rattle.std.proofs.lemmas.Result.{err_from_is_err_and}
use Rattle.bmc_base.specs.Steps.{IsWithin}
use Rattle.found_set.specs.declared.facts.Facts.{Facts}
use Rattle.found_set.specs.declared.row.Row.{Row}
use Rattle.found_set.specs.Found.{Rule, facts, matched_by, number_of, roots}
use Rattle.found_set.specs.Rows.{sights_of}
use Rattle.found_set.specs.Sets.{SetView}
use Rattle.found_set.specs.Events.{Staged, ConfigEvent, facts_after}
use Rattle.found_set.specs.Staging.{staged_of}
use Rattle.found_set.proofs.NamedLemmas.{number_by_name}
use Rattle.found_set.proofs.EarlierLemmas.{nothing_holds}
use Rattle.found_set.proofs.InsidesLemmas.{bare_as, unstaged, only, sound_with, seen_with, back}
use Rattle.found_set.proofs.set.FoundSet.stage_config.Goals as goal

pub invariant_of-self : goal.invariant_of-self
invariant_of-self g c =
    let none = unstaged c.self.inside.staged (ap (λ (v : SetView). v.staged) c.self.view_is ∙ c.requires.bare) in
    sound_with c.self.inside c.reserve.new.self c.self.inside.rules c.self.inside.rows c.self.inside.staged c.self.invariant c.reserve.ensures.names refl refl
    (bare_as _ _ none) (bare_as _ _ none)

pub invariant_of-self-in_err-reserve-2 : goal.invariant_of-self-in_err-reserve-2
invariant_of-self-in_err-reserve-2 g c =
    let none = unstaged c.self.inside.staged (ap (λ (v : SetView). v.staged) c.self.view_is ∙ c.requires.bare) in
    sound_with c.self.inside c.reserve.new.self c.reserve-2.new.self c.self.inside.rows c.self.inside.staged c.self.invariant
    c.reserve.ensures.names c.reserve-2.ensures.items refl (bare_as _ _ none) (bare_as _ _ none)

pub invariant_of-self-in_err-boxed : goal.invariant_of-self-in_err-boxed
invariant_of-self-in_err-boxed g c =
    let none = unstaged c.self.inside.staged (ap (λ (v : SetView). v.staged) c.self.view_is ∙ c.requires.bare) in
    let pushed : c.push_reserved.new.self.items ≡ c.self.inside.rules.items ++ c.args.rule ∷ [] = c.push_reserved.ensures.items
    ∙ ap (λ (rs : List Rule). rs ++ c.args.rule ∷ []) c.reserve-2.ensures.items in
    let kept = back c.self.inside.rules.items _ c.take_last-rule.new.self.items c.args.rule c.take_last-rule.result pushed c.take_last-rule.ensures.items in
    sound_with c.self.inside c.reserve.new.self c.take_last-rule.new.self c.self.inside.rows c.self.inside.staged c.self.invariant
    c.reserve.ensures.names kept.0 refl (bare_as _ _ none) (bare_as _ _ none)

pub invariant_of-self-2 : goal.invariant_of-self-2
invariant_of-self-2 g c =
    let rules = c.self.inside.rules.items in
    let rows = c.self.inside.rows.items in
    let names = c.reserve.new.self in
    let pushed : c.push_reserved.new.self.items ≡ rules ++ c.args.rule ∷ [] =
    c.push_reserved.ensures.items ∙ ap (λ (rs : List Rule). rs ++ c.args.rule ∷ []) c.reserve-2.ensures.items in
    let kept = back rules _ c.take_last-rule.new.self.items c.args.rule c.take_last-rule.result pushed c.take_last-rule.ensures.items in
    let held : c.in_ok-boxed.boxed.value ≡ c.args.rule = c.in_ok-boxed.ensures.ok ∙ kept.1 in
    let told : c.evaluate-facts.result ≡ facts_after (ConfigEvent c.in_ok-boxed.boxed.value) rules rows =
    c.evaluate-facts.ensures.facts
    ∙ ap₂ (λ (rs : List Rule) (ws : List Row). facts rs (sights_of ws)) (c.deref-2.ensures.value ∙ pushed)
    (c.of-rows.ensures ∙ append-nil _ ∙ c.deref.ensures.value)
    ∙ ap (λ (r : Rule). facts_after (ConfigEvent r) rules rows) (sym held) in
    let fresh : position (bytes_eq c.args.rule.name) names.names ≡ None =
    ap (position (bytes_eq c.args.rule.name)) (c.reserve.ensures.names ∙ c.self.invariant.named) ∙ number_by_name c.args.rule.name rules
    ∙ ap (λ (v : SetView). number_of v.rules c.args.rule.name) c.self.view_is ∙ c.requires.new in
    let new = subst (λ (r : Rule). position (bytes_eq r.name) names.names ≡ None) (sym held) fresh in
    let r : vec_len c.reserve-2.new.self + 1 ≤ vec_capacity c.reserve-2.new.self = c.in_ok-reserve-2.ensures.ok in
    let room : vec_len c.take_last-rule.new.self < vec_capacity c.take_last-rule.new.self =
    omega (arith, r, c.push_reserved.ensures.len, c.push_reserved.ensures.capacity, c.take_last-rule.ensures.len, c.take_last-rule.ensures.capacity) in
    let before : length rules < 256 = subst (λ (v : SetView). length v.rules < 256) (sym c.self.view_is) c.requires.few in
    let few : length c.take_last-rule.new.self.items < 256 = subst (λ (rs : List Rule). length rs < 256) (sym kept.0) before in
    sound_with c.self.inside names c.take_last-rule.new.self c.self.inside.rows _ c.self.invariant c.reserve.ensures.names kept.0 refl
    (only _ _ _ c.of.ensures told) (only _ _ _ c.of.ensures (c.in_ok-reserve.ensures.room, new, room, few))

pub evaluate-facts-requires-clause-earlier : goal.evaluate-facts-requires-clause-earlier
evaluate-facts-requires-clause-earlier g c =
    let pushed : c.push_reserved.new.self.items ≡ c.self.inside.rules.items ++ c.args.rule ∷ [] = c.push_reserved.ensures.items
    ∙ ap (λ (rs : List Rule). rs ++ c.args.rule ∷ []) c.reserve-2.ensures.items in
    let before : length c.self.inside.rules.items < 256 = subst (λ (v : SetView). length v.rules < 256) (sym c.self.view_is) c.requires.few in
    let few : length c.deref-2.result.now ≤ 256 =
    subst (λ (rs : List Rule). length rs ≤ 256) (sym (c.deref-2.ensures.value ∙ pushed))
    (omega (arith, before, length-append c.self.inside.rules.items (c.args.rule ∷ []))) in
    nothing_holds _ _ c.deref-2.result.now (matched_by (roots (sights_of c.of-rows.result))) few c.nothing.ensures

pub returns-clause-ok : goal.returns-clause-ok
returns-clause-ok g c =
    let pushed : c.push_reserved.new.self.items ≡ c.self.inside.rules.items ++ c.args.rule ∷ [] = c.push_reserved.ensures.items
    ∙ ap (λ (rs : List Rule). rs ++ c.args.rule ∷ []) c.reserve-2.ensures.items in
    c.evaluate-facts.ensures.facts
    ∙ ap₂ (λ (rs : List Rule) (ws : List Row). facts rs (sights_of ws)) (c.deref-2.ensures.value ∙ pushed)
    (c.of-rows.ensures ∙ append-nil _ ∙ c.deref.ensures.value)
    ∙ ap (λ (v : SetView). facts_after (ConfigEvent c.args.rule) v.rules v.rows) c.self.view_is

pub returns-clause-staged : goal.returns-clause-staged
returns-clause-staged g c =
    let rules = c.self.inside.rules.items in
    let pushed : c.push_reserved.new.self.items ≡ rules ++ c.args.rule ∷ [] =
    c.push_reserved.ensures.items ∙ ap (λ (rs : List Rule). rs ++ c.args.rule ∷ []) c.reserve-2.ensures.items in
    let kept = back rules _ c.take_last-rule.new.self.items c.args.rule c.take_last-rule.result pushed c.take_last-rule.ensures.items in
    let held : c.in_ok-boxed.boxed.value ≡ c.args.rule = c.in_ok-boxed.ensures.ok ∙ kept.1 in
    let told = c.evaluate-facts.ensures.facts
    ∙ ap₂ (λ (rs : List Rule) (ws : List Row). facts rs (sights_of ws)) (c.deref-2.ensures.value ∙ pushed)
    (c.of-rows.ensures ∙ append-nil _ ∙ c.deref.ensures.value)
    ∙ ap (λ (v : SetView). facts_after (ConfigEvent c.args.rule) v.rules v.rows) c.self.view_is in
    seen_with c.args.self.now c.take_last-rule.new.self.items c.self.inside.rows.items c.self.inside.facts (staged_of c.of.result) _ (kept.0
    ∙ ap (λ (v : SetView). v.rules) c.self.view_is) (ap (λ (v : SetView). v.rows) c.self.view_is) (ap (λ (v : SetView). v.facts) c.self.view_is)
    (ap staged_of c.of.ensures ∙ ap₂ (λ (r : Rule) (f : Facts). let s : Staged = record { event = ConfigEvent r; facts = f } in s) held told)

pub returns-in_err-boxed-clause-err : goal.returns-in_err-boxed-clause-err
returns-in_err-boxed-clause-err g c =
    let pushed : c.push_reserved.new.self.items ≡ c.self.inside.rules.items ++ c.args.rule ∷ [] = c.push_reserved.ensures.items
    ∙ ap (λ (rs : List Rule). rs ++ c.args.rule ∷ []) c.reserve-2.ensures.items in
    let kept = back c.self.inside.rules.items _ c.take_last-rule.new.self.items c.args.rule c.take_last-rule.result pushed c.take_last-rule.ensures.items in
    let failed = err_from_is_err_and c.from_residual-in_err-boxed.result c.from_residual-in_err-boxed.ensures.1 in
    rw failed.1 (ap (λ (rs : List Rule). let seen : SetView = record {
      rules = rs;
      rows = c.self.inside.rows.items;
      facts = c.self.inside.facts;
      staged = option_map staged_of c.self.inside.staged;
    } in seen) kept.0 ∙ c.self.view_is)

pub returns-clause-counted : goal.returns-clause-counted
returns-clause-counted g c =
    let pushed : c.push_reserved.new.self.items ≡ c.args.self.now.rules ++ c.args.rule ∷ [] =
    c.push_reserved.ensures.items ∙ ap (λ (rs : List Rule). rs ++ c.args.rule ∷ []) c.reserve-2.ensures.items
    ∙ ap (λ (v : SetView). v.rules ++ c.args.rule ∷ []) c.self.view_is in
    let more : length c.deref-2.result.now ≡ length c.args.self.now.rules + 1 =
    ap length (c.deref-2.ensures.value ∙ pushed) ∙ length-append c.args.self.now.rules (c.args.rule ∷ []) in
    subst (λ (n : ℕ). IsWithin c.args.steps.now c.evaluate-facts.new.steps (2 * n)) more c.evaluate-facts.ensures.counted
