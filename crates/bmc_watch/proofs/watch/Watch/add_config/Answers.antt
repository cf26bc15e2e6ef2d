use Rattle.std.proofs.Common.{arith, ◌≡◌, ◌∙◌, List, [], ◌∷◌, ◌++◌, map, length, Option, Some, None, refl, ap, sym, subst}
use Rattle.std.proofs.lemmas.Bool.{lt-leb}
use Rattle.std.proofs.lemmas.List.{length-append}
use Rattle.cfg_json.specs.Shelves.{most_configs, number_of}
use Rattle.bmc_base.specs.Steps.{IsWithin}
use Rattle.probe_lang.specs.Sights.{entry_sight}
use Rattle.cfg_json.specs.Configs.{Config}
use Rattle.found_set.specs.Found.{rule_of, facts}
use Rattle.found_set.specs.Events.{ConfigEvent}
use Rattle.found_set.proofs.EventsLemmas.{none_within}
use Rattle.found_set.specs.Rows.{sights_of}
use Rattle.found_set.specs.Sets.{SetView}
use Rattle.found_set.specs.declared.next_facts.NextFacts.{NextFacts}
use Rattle.inventory.specs.Boards.{rules_of, boards_in}
use Rattle.inventory.specs.Limits.{limit_of, totals_after, totals_of}
use Rattle.inventory.specs.Lists.{keys_of}
use Rattle.inventory.specs.declared.limits.Totals.{Totals}
use Rattle.cfg_json.specs.declared.item.Item.{Item}
use Rattle.bmc_report.specs.declared.refusal.Refusal.{Refusal}
use Rattle.bmc_machine.specs.Histories.{Configure}
use Rattle.bmc_watch.specs.Insides.{IsStocked, view_of}
use Rattle.bmc_watch.specs.Settling.{Settles, SettlesUnless}
use Rattle.bmc_watch.specs.Watches.{WatchView}
use Rattle.bmc_watch.specs.Changes.{IsDifference, AreWithin}
use Rattle.bmc_watch.specs.ItemSteps.{Continues}
use Rattle.bmc_watch.specs.Steps.{Tries}
use Rattle.bmc_watch.proofs.StepsLemmas.{configured, config_over_limit}
use Rattle.bmc_watch.proofs.EventsLemmas.{IsSeen, on_err, not_ok, new_name, rules_more, seen, difference_is, gone_within, within_more, staged_within}
use Rattle.bmc_watch.proofs.EventsLemmas.{tells_those, set_after, no_entries}
use Rattle.bmc_watch.proofs.GrowthLemmas.{config_continues, config_counted}
use Rattle.bmc_watch.proofs.StockLemmas.{IsNext, items_with, limit_named, no_refusal, stock_is, settles, taken_over, told_by}
use Rattle.bmc_watch.specs.Counting.{most_evals}
use Rattle.bmc_watch.proofs.CountingLemmas.{within_rules}
use Rattle.bmc_watch.proofs.LeftLemmas.{left_same, left_sound}
use Rattle.bmc_watch.proofs.watch.Watch.add_config.Given.{Over}
use Rattle.bmc_watch.proofs.watch.Watch.add_config.Goals.{In_ok-next, In_ok-difference, After-commit-2}
use Rattle.bmc_watch.proofs.watch.Watch.add_config.Goals as goal

pub prepare_config-requires-clause-new : goal.prepare_config-requires-clause-new
prepare_config-requires-clause-new g c =
    new_name c.self.inside.set.rules c.self.inside.shelf c.name.result c.args.config c.self.invariant.rules c.name.ensures
    (ap (λ (view : WatchView). number_of view.configs c.args.config.name) c.self.view_is ∙ c.requires.new)

pub add-requires-clause-new : goal.add-requires-clause-new
add-requires-clause-new g c =
    ap (λ (view : WatchView). number_of view.configs c.args.config.name) c.self.view_is ∙ c.requires.new

pub add-requires-clause-few : goal.add-requires-clause-few
add-requires-clause-few g c = omega (arith, c.requires.few, ap (λ (view : WatchView). length view.configs) c.self.view_is)

pub prepare-requires-clause-few : goal.prepare-requires-clause-few
prepare-requires-clause-few g c =
    omega (arith, c.requires.few, ap (λ (view : WatchView). length view.configs) c.self.view_is, length-append c.self.inside.shelf (c.args.config ∷ []))

-- ---- what is known once the boards are compared

module _ (g : Over) (c : In_ok-difference g) where
  abbrev all : List Config
  all = c.self.inside.shelf ++ c.args.config ∷ []

  seen_before : IsSeen c.self.inside.shelf c.self.inside.rows.entries c.of-before.result
  seen_before =
      seen c.self.inside.shelf c.self.inside.rows.entries c.of-before.result c.self.inside.set.rules c.self.inside.set.rows
      (c.of-before.ensures.facts ∙ c.facts.ensures.current ∙ ap (λ (set : SetView). facts set.rules (sights_of set.rows)) c.in_ok-next.ensures.ok)
      c.self.invariant.rules c.self.invariant.rows (c.of-before.ensures.entries ∙ c.busy.ensures.value)

  seen_behind : IsSeen all c.self.inside.rows.entries c.of-after.result
  seen_behind =
      seen all c.self.inside.rows.entries c.of-after.result _ c.self.inside.set.rows
      (c.of-after.ensures.facts ∙ c.facts-2.ensures ∙ ap (λ (next : NextFacts). next.facts) c.in_ok-next.ensures.next)
      (rules_more c.self.inside.set.rules c.self.inside.shelf c.args.config c.name.result c.probe.result.now c.as_slice.result.now c.self.invariant.rules
      c.name.ensures c.probe.ensures (c.as_slice.ensures ∙ c.in_ok-fixed.ensures))
      c.self.invariant.rows (c.of-after.ensures.entries ∙ c.busy-2.ensures.value)

  boards_differ : IsDifference (length c.self.inside.shelf) (length all) (boards_in c.self.inside.shelf (map entry_sight c.self.inside.rows.entries))
      (boards_in all (map entry_sight c.self.inside.rows.entries)) c.in_ok-difference.difference.gone_boards c.in_ok-difference.difference.new_boards
  boards_differ =
      difference_is c.self.inside.shelf all c.of-before.result c.of-after.result c.self.inside.rows.entries c.self.inside.rows.entries
      c.in_ok-difference.difference.gone_boards c.in_ok-difference.difference.new_boards seen_before seen_behind c.in_ok-difference.ensures

  -- the items behind the step follow those before it
  items_continue : Continues all c.self.inside.keep.kept c.in_ok-difference.difference c.of-after.result c.self.inside.stock.items
      (items_with all c.self.inside.keep.kept c.in_ok-difference.difference.new_boards c.self.inside.rows.entries)
  items_continue =
      config_continues c.self.inside.shelf c.args.config c.self.inside.rows.entries c.busy.ensures.all c.self.inside.keep.kept
      c.in_ok-difference.difference c.self.inside.totals c.self.inside.stock.items c.of-after.result boards_differ c.self.invariant.stock seen_behind.works

  counted : (totals : Totals) → totals ≡ totals_after all c.self.inside.totals c.in_ok-difference.difference.gone_boards
      c.in_ok-difference.difference.new_boards → totals ≡ totals_of all (keys_of (length all) (boards_in all (map entry_sight c.self.inside.rows.entries)))
  counted totals is =
      config_counted c.self.inside.shelf c.args.config c.self.inside.rows.entries c.busy.ensures.all c.in_ok-difference.difference.gone_boards
      c.in_ok-difference.difference.new_boards c.self.inside.totals totals boards_differ c.self.invariant.stock.counted is

-- ---- a limit

pub returns-in-Err-clause-tried : goal.returns-in-Err-clause-tried
returns-in-Err-clause-tried g c =
    let old = view_of c.self.inside in
    let compared = (goal.at.returns-in-Err-clause-tried g c).In_ok-difference in
    let limit = limit_named (c.self.inside.shelf ++ c.args.config ∷ []) c.self.inside.rows.entries _ c.in-Err.fault
    (counted g compared _ refl) c.in-Err.ensures
    ∙ ap Some (sym c.limit_refused.ensures) in
    let never = ap (λ (view : WatchView). view.plugged) c.self.view_is ∙ c.requires.never in
    let empty = no_entries c.self.inside.plugged c.self.inside.rows.entries never c.self.invariant.none in
    subst (λ (refusal : Option Refusal). Tries c.args.self.now (Configure c.args.config) refusal c.refuse.new.self
    × SettlesUnless refusal c.args.self.now c.refuse.new.self c.args.sensors.now c.args.sensors.now)
    (sym c.refuse.ensures.reason) (
      subst (λ (view : WatchView). Tries view (Configure c.args.config) (Some c.limit_refused.result) c.refuse.new.self) c.self.view_is
          (config_over_limit old c.refuse.new.self c.args.config c.limit_refused.result never empty
          (ap (λ (view : WatchView). number_of view.configs c.args.config.name) c.self.view_is ∙ c.requires.new)
          (lt-leb most_configs (length c.self.inside.shelf)
          (omega (arith, c.requires.few, ap (λ (view : WatchView). length view.configs) c.self.view_is)))
          limit c.refuse.ensures.left),
      refl,
    )

-- ---- the items

pub prepare-requires-clause-order : goal.prepare-requires-clause-order
prepare-requires-clause-order g c = (items_continue g (goal.at.prepare-requires-clause-order g c).In_ok-difference).order

pub prepare-requires-clause-tie : goal.prepare-requires-clause-tie
prepare-requires-clause-tie g c = (_, (items_continue g (goal.at.prepare-requires-clause-tie g c).In_ok-difference).follows)

-- ---- want of memory

pub returns-in_err-items-clause-tried : goal.returns-in_err-items-clause-tried
returns-in_err-items-clause-tried g c = not_ok _ _ c.from_residual-in_err-items.result c.from_residual-in_err-items.ensures.1

pub returns-in_err-gone-clause-tried : goal.returns-in_err-gone-clause-tried
returns-in_err-gone-clause-tried g c = not_ok _ _ c.from_residual-in_err-gone.result c.from_residual-in_err-gone.ensures.1

pub returns-in_err-add-clause-tried : goal.returns-in_err-add-clause-tried
returns-in_err-add-clause-tried g c = not_ok _ _ c.from_residual-in_err-add.result c.from_residual-in_err-add.ensures.1

pub returns-in_err-difference-clause-tried : goal.returns-in_err-difference-clause-tried
returns-in_err-difference-clause-tried g c = not_ok _ _ c.from_residual-in_err-difference.result c.from_residual-in_err-difference.ensures.1

pub invariant_of-self-in_err-difference : goal.invariant_of-self-in_err-difference
invariant_of-self-in_err-difference g c =
    left_sound c.self.inside _ c.self.invariant refl c.in_ok-next.ensures.ok refl refl (λ number. refl) refl refl (omega arith)

pub returns-in_err-difference-clause-same : goal.returns-in_err-difference-clause-same
returns-in_err-difference-clause-same g c =
    on_err c.from_residual-in_err-difference.result
    (left_same (view_of c.self.inside) _ _ c.self.view_is refl refl refl (λ number. refl) refl, record { names = refl; slots = refl })

pub invariant_of-self-in-Err : goal.invariant_of-self-in-Err
invariant_of-self-in-Err g c =
    left_sound c.self.inside _ c.self.invariant refl c.in_ok-next.ensures.ok refl refl (λ number. refl) refl refl (omega arith)

pub invariant_of-self-in_err-items : goal.invariant_of-self-in_err-items
invariant_of-self-in_err-items g c =
    left_sound c.self.inside _ c.self.invariant refl c.in_ok-next.ensures.ok refl refl (λ number. refl) refl c.prepare.ensures.items (omega arith)

pub returns-in_err-items-clause-same : goal.returns-in_err-items-clause-same
returns-in_err-items-clause-same g c =
    on_err c.from_residual-in_err-items.result
    (left_same (view_of c.self.inside) _ _ c.self.view_is refl refl refl (λ number. refl) refl, record { names = refl; slots = refl })

pub invariant_of-self-in_err-gone : goal.invariant_of-self-in_err-gone
invariant_of-self-in_err-gone g c =
    left_sound c.self.inside _ c.self.invariant refl c.in_ok-next.ensures.ok refl refl
    c.stage_changes.ensures.kept refl c.prepare.ensures.items c.stage_changes.ensures.more

pub returns-in_err-gone-clause-same : goal.returns-in_err-gone-clause-same
returns-in_err-gone-clause-same g c =
    on_err c.from_residual-in_err-gone.result (
      left_same (view_of c.self.inside) _ _ c.self.view_is refl refl refl c.stage_changes.ensures.kept c.stage_changes.ensures.changes,
      c.stage_changes.ensures.sensors,
    )

pub invariant_of-self-in_err-add : goal.invariant_of-self-in_err-add
invariant_of-self-in_err-add g c =
    left_sound c.self.inside _ c.self.invariant c.in_err-add.ensures.err c.in_ok-next.ensures.ok refl refl
    c.stage_changes.ensures.kept refl c.prepare.ensures.items c.stage_changes.ensures.more

pub returns-in_err-add-clause-same : goal.returns-in_err-add-clause-same
returns-in_err-add-clause-same g c =
    on_err c.from_residual-in_err-add.result (
      left_same (view_of c.self.inside) _ _ c.self.view_is c.in_err-add.ensures.err refl refl c.stage_changes.ensures.kept c.stage_changes.ensures.changes,
      c.stage_changes.ensures.sensors,
    )

-- ---- what is told

pub tell_changes-requires-clause-staged : goal.tell_changes-requires-clause-staged
tell_changes-requires-clause-staged g c =
    let differs = boards_differ g (goal.at.tell_changes-requires-clause-staged g c).In_ok-difference in
    let differs_now = subst (λ (configs : List Config). IsDifference (length c.self.inside.shelf) (length configs)
    (boards_in c.self.inside.shelf (map entry_sight c.self.inside.rows.entries)) (boards_in configs (map entry_sight c.self.inside.rows.entries))
    c.in_ok-difference.difference.gone_boards c.in_ok-difference.difference.new_boards) (sym c.in_ok-add.ensures.ok) differs in
    staged_within _ _ _ _ _ _ _ differs_now c.in_ok-gone.ensures.staged

pub tell_changes-requires-clause-gone : goal.tell_changes-requires-clause-gone
tell_changes-requires-clause-gone g c =
    let differs = boards_differ g (goal.at.tell_changes-requires-clause-gone g c).In_ok-difference in
    subst (λ (configs : List Config). AreWithin c.in_ok-gone.gone (length configs)) (sym c.in_ok-add.ensures.ok)
    (within_more c.in_ok-gone.gone c.self.inside.shelf c.args.config (gone_within _ _ _ _ _ _ _ differs c.in_ok-gone.ensures.gone))

-- ---- what is known once all is taken over

module _ (g : Over) (c : After-commit-2 g) where
  abbrev before : WatchView
  before = view_of c.self.inside

  abbrev behind : List Config → WatchView
  behind configs = record {
    configs = configs;
    entries = c.self.inside.rows.entries;
    plugged = c.self.inside.plugged;
    kept = c.tell_changes.new.keep.kept;
    changes = c.tell_items.new.changes.items;
  }

  abbrev grown : List Config
  grown = c.self.inside.shelf ++ c.args.config ∷ []

  abbrev items_then : List Config → List Item
  items_then configs = items_with configs c.self.inside.keep.kept c.in_ok-difference.difference.new_boards c.self.inside.rows.entries

  -- the items that are staged are those behind the step
  staged : Continues grown c.self.inside.keep.kept c.in_ok-difference.difference c.of-after.result c.self.inside.stock.items (items_then grown)
      → c.prepare.new.self.staged ≡ Some (items_then grown)
  staged continue = c.in_ok-items.ensures.staged _ continue.follows

  next : IsDifference (length c.self.inside.shelf) (length grown) (boards_in c.self.inside.shelf (map entry_sight c.self.inside.rows.entries))
      (boards_in grown (map entry_sight c.self.inside.rows.entries)) c.in_ok-difference.difference.gone_boards c.in_ok-difference.difference.new_boards
      → c.in-Ok.totals ≡ totals_of grown (keys_of (length grown) (boards_in grown (map entry_sight c.self.inside.rows.entries)))
      → c.prepare.new.self.staged ≡ Some (items_then grown)
      → IsNext before (behind c.add.new.self) c.in-Ok.totals (items_then grown) c.in_ok-items.items.gone c.in_ok-items.items.new
  next differs counted are_staged =
      let differs_now = subst (λ (configs : List Config). IsDifference (length c.self.inside.shelf) (length configs)
      (boards_in c.self.inside.shelf (map entry_sight c.self.inside.rows.entries)) (boards_in configs (map entry_sight c.self.inside.rows.entries))
      c.in_ok-difference.difference.gone_boards c.in_ok-difference.difference.new_boards) (sym c.in_ok-add.ensures.ok) differs in
      let tells = tells_those c.add.new.self c.in_ok-difference.difference.gone_boards c.in_ok-difference.difference.new_boards c.in_ok-gone.gone
      c.stage_changes.new.keep.staged _ _ _ c.in_ok-gone.ensures.gone c.in_ok-gone.ensures.staged c.tell_changes.ensures.told in
      taken_over before (behind c.add.new.self) (c.args.config ∷ []) c.in_ok-difference.difference.gone_boards c.in_ok-difference.difference.new_boards
      c.stage_changes.new.keep.kept c.tell_changes.new.keep.kept c.tell_changes.new.changes.items c.self.inside.totals c.in-Ok.totals
      c.self.inside.stock.items _ c.in_ok-items.items c.in_ok-add.ensures.ok c.self.invariant.stock differs_now c.stage_changes.ensures.kept tells refl
      (subst (λ (configs : List Config). c.in-Ok.totals ≡ totals_of configs (keys_of (length configs)
      (boards_in configs (map entry_sight c.self.inside.rows.entries)))) (sym c.in_ok-add.ensures.ok) counted)
      (ap limit_of c.in-Ok.ensures.0 ∙ c.in-Ok.ensures.1) (ap items_then (sym c.in_ok-add.ensures.ok))
      (told_by c.self.inside.stock.items c.in_ok-items.items c.prepare.new.self.staged _ are_staged c.in_ok-items.ensures.gone c.in_ok-items.ensures.new)
      c.tell_items.ensures.items

pub invariant_of-self-2 : goal.invariant_of-self-2
invariant_of-self-2 g c =
    let done = (goal.at.invariant_of-self-2 g c).After-commit-2 in
    let compared = (goal.at.invariant_of-self-2 g c).In_ok-difference in
    let are_staged = staged g done (items_continue g compared) in
    let is = next g done (boards_differ g compared) (counted g compared _ c.in-Ok.ensures.0) are_staged in
    let set = set_after (ConfigEvent (rule_of c.name.result c.probe.result.now c.as_slice.result.now)) c.self.inside.set c.prepare_config.new.self
    c.commit.new.self c.in_ok-next.ensures.ok c.commit.ensures in
    record {
      rules = set.0
          ∙ rules_more c.self.inside.set.rules c.self.inside.shelf c.args.config c.name.result c.probe.result.now c.as_slice.result.now
          c.self.invariant.rules c.name.ensures c.probe.ensures (c.as_slice.ensures ∙ c.in_ok-fixed.ensures)
          ∙ sym (ap rules_of c.in_ok-add.ensures.ok);
      rows = set.1 ∙ c.self.invariant.rows;
      none = c.self.invariant.none;
      stock = subst (IsStocked c.add.new.self c.self.inside.rows.entries c.tell_changes.new.keep.kept c.in-Ok.totals) (sym
          (stock_is c.prepare.new.self.staged _ c.commit-2.new.self.items are_staged c.commit-2.ensures.items)) is.stocked;
      room = omega (arith, c.self.invariant.room, c.stage_changes.ensures.more, c.tell_changes.ensures.capacity, c.tell_items.ensures.capacity);
    }

pub returns-clause-tried : goal.returns-clause-tried
returns-clause-tried g c =
    let done = (goal.at.returns-clause-tried g c).After-commit-2 in
    let compared = (goal.at.returns-clause-tried g c).In_ok-difference in
    let is = next g done (boards_differ g compared) (counted g compared _ c.in-Ok.ensures.0) (staged g done (items_continue g compared)) in
    let old = before g done in
    let new = behind g done c.add.new.self in
    let follows = settles old new c.in_ok-items.items.gone c.in_ok-items.items.new c.args.sensors.now c.stage_changes.new.sensors c.settle_sensors.new.sensors
    is.goes is.comes c.stage_changes.ensures.sensors c.settle_sensors.ensures.settled c.settle_sensors.ensures.slots in
    let never = ap (λ (view : WatchView). view.plugged) c.self.view_is ∙ c.requires.never in
    let empty = no_entries c.self.inside.plugged c.self.inside.rows.entries never c.self.invariant.none in
    subst (λ (view : WatchView). Tries view (Configure c.args.config) None new × Settles view new c.args.sensors.now c.settle_sensors.new.sensors)
    c.self.view_is (
      configured old new c.args.config never empty
          (ap (λ (view : WatchView). number_of view.configs c.args.config.name) c.self.view_is ∙ c.requires.new)
          (lt-leb most_configs (length c.self.inside.shelf)
          (omega (arith, c.requires.few, ap (λ (view : WatchView). length view.configs) c.self.view_is)))
          c.in_ok-add.ensures.ok refl refl
          (no_refusal new.configs new.entries new.kept c.in-Ok.totals _ is.stocked)
          is.moves,
      follows,
    )

-- ---- the work

counted_within : (g : Over) (c : In_ok-next g)
    → IsWithin c.args.steps.now c.prepare_config.new.steps (most_evals (c.args.self.now.configs ++ c.args.config ∷ []))
counted_within g c =
    within_rules (ConfigEvent (rule_of c.name.result c.probe.result.now c.as_slice.result.now)) c.args.steps.now c.prepare_config.new.steps
    c.self.inside.set.rules c.self.inside.set.rows (c.args.self.now.configs ++ c.args.config ∷ [])
    (rules_more c.self.inside.set.rules c.self.inside.shelf c.args.config c.name.result c.probe.result.now c.as_slice.result.now c.self.invariant.rules
    c.name.ensures c.probe.ensures (c.as_slice.ensures ∙ c.in_ok-fixed.ensures)
    ∙ ap (λ (view : WatchView). rules_of (view.configs ++ c.args.config ∷ [])) c.self.view_is) c.in_ok-next.ensures.counted

pub returns-in_err-fixed-clause-counted : goal.returns-in_err-fixed-clause-counted
returns-in_err-fixed-clause-counted g c =
    none_within c.args.steps.now (most_evals (c.args.self.now.configs ++ c.args.config ∷ []))

pub returns-in_err-next-clause-counted : goal.returns-in_err-next-clause-counted
returns-in_err-next-clause-counted g c =
    within_rules (ConfigEvent (rule_of c.name.result c.probe.result.now c.as_slice.result.now)) c.args.steps.now c.prepare_config.new.steps
    c.self.inside.set.rules c.self.inside.set.rows (c.args.self.now.configs ++ c.args.config ∷ [])
    (rules_more c.self.inside.set.rules c.self.inside.shelf c.args.config c.name.result c.probe.result.now c.as_slice.result.now c.self.invariant.rules
    c.name.ensures c.probe.ensures (c.as_slice.ensures ∙ c.in_ok-fixed.ensures)
    ∙ ap (λ (view : WatchView). rules_of (view.configs ++ c.args.config ∷ [])) c.self.view_is) c.in_err-next.ensures.counted

pub returns-in_err-difference-clause-counted : goal.returns-in_err-difference-clause-counted
returns-in_err-difference-clause-counted g c = counted_within g (goal.at.returns-in_err-difference-clause-counted g c).In_ok-next

pub returns-in-Err-clause-counted : goal.returns-in-Err-clause-counted
returns-in-Err-clause-counted g c = counted_within g (goal.at.returns-in-Err-clause-counted g c).In_ok-next

pub returns-in_err-items-clause-counted : goal.returns-in_err-items-clause-counted
returns-in_err-items-clause-counted g c = counted_within g (goal.at.returns-in_err-items-clause-counted g c).In_ok-next

pub returns-in_err-gone-clause-counted : goal.returns-in_err-gone-clause-counted
returns-in_err-gone-clause-counted g c = counted_within g (goal.at.returns-in_err-gone-clause-counted g c).In_ok-next

pub returns-in_err-add-clause-counted : goal.returns-in_err-add-clause-counted
returns-in_err-add-clause-counted g c = counted_within g (goal.at.returns-in_err-add-clause-counted g c).In_ok-next

pub returns-clause-counted : goal.returns-clause-counted
returns-clause-counted g c = counted_within g (goal.at.returns-clause-counted g c).In_ok-next
