-- The totals and the items of a state: before a step, behind it, and where no board comes or goes.
use Rattle.std.proofs.Common.{◌≡◌, ◌∙◌, ℕ, List, [], ◌∷◌, ◌++◌, map, length, Bool, true, false, not, cond, Option, Some, None, refl, sym, ap, ap₂}
use Rattle.std.proofs.Common.{subst, subst₂, filter, filter_map, inl, inr, ◌≤◌}
use Rattle.std.specs.Option.{option_eq}
use Rattle.std.specs.Prelude.{bytes_eq, option_and_then, option_map, slice_index_or, IsSomeAnd}
use Rattle.std.specs.Map.{lookup}
use Rattle.std.specs.List.{AllByRecursion}
use Rattle.std.specs.Ordering.{is_eq}
use Rattle.std.proofs.lemmas.Bool.{or_left, or_right, or_cases}
use Rattle.bmc_base.specs.Places.{Place, place_eq, place_cmp}
use Rattle.probe_lang.specs.Presents.{without_entry, is_entry_at, are_by_place}
use Rattle.probe_lang.specs.Sights.{Sight, entry_sight}
use Rattle.probe_lang.specs.declared.rows.Entry.{Entry}
use Rattle.cfg_json.specs.Configs.{Config}
use Rattle.cfg_json.specs.declared.item.Item.{Item}
use Rattle.fru_rows.specs.Idle.{busy}
use Rattle.found_set.specs.Found.{is_found, is_reached}
use Rattle.inventory.specs.Boards.{boards_in, board_places, has_board, rules_of}
use Rattle.inventory.specs.Differences.{Moment, keys_left, places_of}
use Rattle.inventory.specs.Follows.{kept_with, AreKeysAscending, Follows}
use Rattle.inventory.specs.Indexes.{kept_of, except, with_board, with_boards}
use Rattle.inventory.specs.Items.{entry_fields, is_live, items, items_less, live}
use Rattle.inventory.specs.Limits.{limit_of, no_totals, passed_limit, totals_of, totals_after}
use Rattle.inventory.specs.Lists.{keys_of, board_list}
use Rattle.inventory.specs.Moments.{IsAmong, AreAscending}
use Rattle.inventory.specs.Naming.{naming_items}
use Rattle.inventory.specs.declared.board.BoardKey.{BoardKey}
use Rattle.inventory.specs.declared.changed.Difference.{Difference}
use Rattle.inventory.specs.declared.limits.Totals.{Totals}
use Rattle.inventory.specs.declared.stock.ItemDifference.{ItemDifference}
use Rattle.inventory.specs.declared.fault.InventoryFault.{InventoryFault}
use Rattle.inventory.proofs.BoardLemmas.{board_itself, board_same}
use Rattle.inventory.proofs.BoardsLemmas.{board_places_ascend}
use Rattle.inventory.proofs.IndexesLemmas.{has_front}
use Rattle.inventory.proofs.MergeLemmas.{entries_ascend}
use Rattle.inventory.proofs.CallersLemmas.{follows_moment, new_ascend}
use Rattle.inventory.proofs.NamingLemmas.{naming_is_live, naming_live}
use Rattle.inventory.proofs.TotalsLemmas.{totals_add_up}
use Rattle.bmc_machine.specs.Refusals.{limit_refusal}
use Rattle.bmc_machine.proofs.FewerLemmas.{boards_fewer}
use Rattle.bmc_machine.proofs.LimitLemmas.{keys_fewer}
use Rattle.bmc_report.specs.declared.change.Change.{Change}
use Rattle.bmc_machine.specs.Changes.{item_change}
use Rattle.live_sensors.specs.Items.{has_sensor, settled}
use Rattle.live_sensors.specs.Sensors.{LiveSensors, sensor_in, slot_of}
use Rattle.bmc_watch.specs.Settling.{AreKept, live_left, Settles}
use Rattle.bmc_watch.specs.Changes.{IsDifference, Tells}
use Rattle.bmc_watch.specs.Insides.{IsStocked}
use Rattle.bmc_watch.specs.ItemSteps.{Continues, TellsItems}
use Rattle.bmc_watch.specs.Watches.{WatchView, view_boards, view_items, view_keys, Moves}
use Rattle.bmc_watch.proofs.EventsLemmas.{IsSeen}
use Rattle.bmc_watch.proofs.ItemsLemmas.{fields_apart}
use Rattle.bmc_watch.proofs.KeysLemmas.{keeps, moves}

-- ---- boards that are kept

-- a board that is kept stays so
with_has : (kept : List (Option Place)) (place other : Option Place) → has_board kept other ≡ true → has_board (with_board kept place) other ≡ true
with_has kept place other has = by (has_board kept place)
  where
    by : (there : Bool) → has_board (cond there kept (kept ++ place ∷ [])) other ≡ true
    by true = has
    by false = has_front kept (place ∷ []) other has

all_have : (kept places : List (Option Place)) (other : Option Place) → has_board kept other ≡ true → has_board (with_boards kept places) other ≡ true
all_have kept [] other has = has
all_have kept (place ∷ places) other has = all_have (with_board kept place) places other (with_has kept place other has)

-- a board that is put behind the others is among them
has_last : (front : List (Option Place)) (place : Option Place) → has_board (front ++ place ∷ []) place ≡ true
has_last [] place = or_left _ _ (board_itself place)
has_last (other ∷ front) place = or_right _ _ (has_last front place)

own_has : (kept : List (Option Place)) (place : Option Place) → has_board (with_board kept place) place ≡ true
own_has kept place = by (has_board kept place) refl
  where
    by : (there : Bool) → has_board kept place ≡ there → has_board (cond there kept (kept ++ place ∷ [])) place ≡ true
    by true is = is
    by false is = has_last kept place

-- those that are put behind are all among them
new_have : (kept places : List (Option Place)) (other : Option Place) → has_board places other ≡ true → has_board (with_boards kept places) other ≡ true
new_have kept [] other has = absurd (cc)
new_have kept (place ∷ places) other has =
    elim (or_cases (option_eq place_eq other place) (has_board places other) has) [
      | inl here ↦ all_have (with_board kept place) places other
          (subst (λ (one : Option Place). has_board (with_board kept place) one ≡ true) (sym (board_same other place here)) (own_has kept place))
      | inr later ↦ new_have (with_board kept place) places other later
    ]

-- boards that are kept already add nothing
pub with_new : (kept before after : List (Option Place)) → ((place : Option Place) → has_board before place ≡ true → has_board kept place ≡ true)
    → with_boards kept (except (has_board before) after) ≡ with_boards kept after
with_new kept before [] all = refl
with_new kept before (place ∷ after) all =
    by (has_board before place) refl (with_new kept before after all)
    (with_new (with_board kept place) before after (λ other has. with_has kept place other (all other has)))
  where
    by : (was : Bool) → has_board before place ≡ was → with_boards kept (except (has_board before) after) ≡ with_boards kept after
        → with_boards (with_board kept place) (except (has_board before) after) ≡ with_boards (with_board kept place) after
        → with_boards kept (cond (not was) (place ∷ except (has_board before) after) (except (has_board before) after))
        ≡ with_boards (with_board kept place) after
    by true was rest more = rest ∙ ap (λ (there : Bool). with_boards (cond there kept (kept ++ place ∷ [])) after) (sym (all place was))
    by false was rest more = more

-- ---- what is kept behind a step

-- the boards of these FRUs, by configuration
abbrev boards_of : List Config → List Entry → ℕ → List (Option Place)
boards_of configs entries = boards_in configs (map entry_sight entries)

abbrev keys_in : List Config → List Entry → List BoardKey
keys_in configs entries = keys_of (length configs) (boards_of configs entries)

-- where each board is kept already, and those that come are kept behind them
module _ (configs : List Config) (entries : List Entry) (kept kept_now : List (List (Option Place))) (before : ℕ → List (Option Place))
    (all : (number : ℕ) (place : Option Place) → has_board (before number) place ≡ true → has_board (kept_of kept number) place ≡ true)
    (keep : (number : ℕ)
    → kept_of kept_now number ≡ with_boards (kept_of kept number) (except (has_board (before number)) (boards_of configs entries number))) where
  kept_is : (number : ℕ) → kept_of kept_now number ≡ with_boards (kept_of kept number) (boards_of configs entries number)
  kept_is number = keep number ∙ with_new (kept_of kept number) (before number) (boards_of configs entries number) (all number)

  holds_then : (number : ℕ) (place : Option Place) → has_board (boards_of configs entries number) place ≡ true
      → has_board (kept_of kept_now number) place ≡ true
  holds_then number place has =
      subst (λ (kept : List (Option Place)). has_board kept place ≡ true) (sym (kept_is number))
      (new_have (kept_of kept number) (boards_of configs entries number) place has)

-- ---- the items of a step

-- boards ascend
pub boards_ascend : (configs : List Config) (entries : List Entry) → are_by_place entries ≡ true → (number : ℕ)
    → AreAscending (boards_of configs entries number)
unfolding boards_in
boards_ascend configs entries order number =
    board_places_ascend configs (is_found (rules_of configs) (map entry_sight entries)) (is_reached (rules_of configs) (map entry_sight entries))
    (map entry_sight entries) number (entries_ascend entries order)

-- what the naming boards of these FRUs expose, where boards that come are kept behind the others
abbrev pub items_with : List Config → List (List (Option Place)) → List BoardKey → List Entry → List Item
items_with configs kept new entries = naming_items configs (kept_with kept new) (entry_fields (busy entries)) (keys_in configs entries)

-- From these FRUs to those, and from the first of these configurations to all: the items behind the step follow those before it.
module _ (configs all : List Config) (kept : List (List (Option Place))) (entries entries_now : List Entry) (difference : Difference)
    (order : are_by_place entries ≡ true) (order_now : are_by_place entries_now ≡ true)
    (gone_is : difference.gone_boards ≡ keys_left (length all) (boards_of configs entries) (boards_of all entries_now))
    (new_is : difference.new_boards ≡ keys_left (length all) (boards_of all entries_now) (boards_of configs entries))
    (holds : (number : ℕ) (place : Option Place) → has_board (boards_of configs entries number) place ≡ true → has_board (kept_of kept number) place ≡ true)
    (alike : (number : ℕ) (place : Option Place) → has_board (boards_of configs entries number) place ≡ true
    → has_board (boards_of all entries_now number) place ≡ true
    → option_and_then (entry_fields (busy entries)) place ≡ option_and_then (entry_fields (busy entries_now)) place)
    (before : List Item) (was : before ≡ naming_items all (kept_of kept) (entry_fields (busy entries)) (keys_of (length all) (boards_of configs entries)))
    (moment : Moment) (works : moment.entries ≡ busy entries_now) where
  pub continues : Continues all kept difference moment before (items_with all kept difference.new_boards entries_now)
  continues = record {
    order = subst AreKeysAscending (sym new_is)
        (new_ascend all (length all) kept (boards_of configs entries) (boards_of all entries_now) (entry_fields (busy entries))
        (entry_fields (busy entries_now)) (boards_ascend configs entries order) (boards_ascend all entries_now order_now) holds alike);
    follows = subst₂ (λ (gone new : List BoardKey). Follows gone new before (naming_items all (kept_with kept new) (entry_fields moment.entries) new)
        (items_with all kept new entries_now)) (sym gone_is) (sym new_is)
        (subst₂ (λ (there : List Entry) (first : List Item). Follows goes comes first (naming_items all (kept_with kept comes) (entry_fields there) comes)
        (items_with all kept comes entries_now)) (sym works) (sym was)
        (follows_moment all (length all) kept (boards_of configs entries) (boards_of all entries_now) (entry_fields (busy entries))
        (entry_fields (busy entries_now)) (boards_ascend configs entries order) (boards_ascend all entries_now order_now) holds alike));
  }
    where
      goes : List BoardKey
      goes = keys_left (length all) (boards_of configs entries) (boards_of all entries_now)

      comes : List BoardKey
      comes = keys_left (length all) (boards_of all entries_now) (boards_of configs entries)

-- Where no configuration comes.
module _ (configs : List Config) (kept : List (List (Option Place))) (entries entries_now : List Entry) (difference : Difference)
    (order : are_by_place entries ≡ true) (order_now : are_by_place entries_now ≡ true)
    (differs : IsDifference (length configs) (length configs) (boards_of configs entries) (boards_of configs entries_now)
    difference.gone_boards difference.new_boards)
    (totals : Totals) (before : List Item) (stocked : IsStocked configs entries kept totals before) (moment : Moment)
    (shows : IsSeen configs entries_now moment)
    (entry : Entry) where
  -- a FRU comes
  pub plug_continues : IsAmong entry (busy entries) (busy entries_now) → AllByRecursion (λ (each : Entry). is_entry_at each.place entry ≡ false) (busy entries)
      → Continues configs kept difference moment before (items_with configs kept difference.new_boards entries_now)
  plug_continues among apart =
      continues configs configs kept entries entries_now difference order order_now differs.those_gone differs.those_new stocked.holds
      (λ number place has now. sym (fields_apart configs entry entries entries_now among apart number place has)) before stocked.items moment shows.works

  -- a FRU goes
  pub unplug_continues : IsAmong entry (busy entries_now) (busy entries)
      → AllByRecursion (λ (each : Entry). is_entry_at each.place entry ≡ false) (busy entries_now)
      → Continues configs kept difference moment before (items_with configs kept difference.new_boards entries_now)
  unplug_continues among apart =
      continues configs configs kept entries entries_now difference order order_now differs.those_gone differs.those_new stocked.holds
      (λ number place has now. fields_apart configs entry entries_now entries among apart number place now) before stocked.items moment shows.works

-- the totals are those of the boards that are there then
pub counted_then : (configs : List Config) (entries entries_now : List Entry) (gone new : List BoardKey) (totals totals_now : Totals)
    → are_by_place entries ≡ true → are_by_place entries_now ≡ true
    → IsDifference (length configs) (length configs) (boards_of configs entries) (boards_of configs entries_now) gone new
    → totals ≡ totals_of configs (keys_in configs entries) → totals_now ≡ totals_after configs totals gone new
    → totals_now ≡ totals_of configs (keys_in configs entries_now)
counted_then configs entries entries_now gone new totals totals_now order order_now differs was is =
    is ∙ ap (λ (totals : Totals). totals_after configs totals gone new) was
    ∙ ap₂ (totals_after configs (totals_of configs (keys_in configs entries))) differs.those_gone differs.those_new
    ∙ totals_add_up configs (length configs) (boards_of configs entries) (boards_of configs entries_now) (boards_ascend configs entries order)
    (boards_ascend configs entries_now order_now)

-- ---- the state behind a step

-- what is live is so among all items
pub live_all : (view : WatchView) (totals : Totals) (inventory : List Item) → IsStocked view.configs view.entries view.kept totals inventory
    → live inventory ≡ live (view_items view)
live_all view totals inventory stocked =
    ap live stocked.items ∙ naming_live view.configs (entry_fields (busy view.entries)) (board_list (kept_of view.kept) (view_keys view))

-- an item is live among what the naming boards expose where it is so among all
pub lives : (view : WatchView) (totals : Totals) (inventory : List Item) → IsStocked view.configs view.entries view.kept totals inventory
    → (item : Item) → is_live inventory item ≡ is_live (view_items view) item
lives view totals inventory stocked item =
    ap (λ (items : List Item). is_live items item) stocked.items
    ∙ naming_is_live view.configs (entry_fields (busy view.entries)) (board_list (kept_of view.kept) (view_keys view)) item

-- so the live items are those of the naming boards that are live among all
pub live_shown : (view : WatchView) (totals : Totals) (inventory : List Item) → IsStocked view.configs view.entries view.kept totals inventory
    → filter (is_live (view_items view)) inventory ≡ live (view_items view)
unfolding live
live_shown view totals inventory stocked =
    sym (λ i. filter (λ item. lives view totals inventory stocked item i) inventory) ∙ live_all view totals inventory stocked

-- a state after what was staged is taken over
pub record IsNext (old new : WatchView) (totals : Totals) (inventory gone fresh : List Item) : Type 0 where
  pub moves : Moves old new
  pub stocked : IsStocked new.configs new.entries new.kept totals inventory
  pub goes : gone ≡ live_left old new
  pub comes : fresh ≡ live_left new old

pub taken_over : (old new : WatchView) (more : List Config) (gone fresh : List BoardKey) (kept kept_now : List (List (Option Place))) (told : List Change)
    (totals totals_now : Totals) (before next : List Item) (items : ItemDifference) → new.configs ≡ old.configs ++ more
    → IsStocked old.configs old.entries old.kept totals before
    → IsDifference (length old.configs) (length new.configs) (view_boards old) (view_boards new) gone fresh
    → ((number : ℕ) → kept_of kept number ≡ kept_of old.kept number) → Tells new.configs gone fresh kept kept_now told → new.kept ≡ kept_now
    → totals_now ≡ totals_of new.configs (view_keys new) → limit_of totals_now ≡ None
    → next ≡ items_with new.configs old.kept fresh new.entries → TellsItems before items next
    → new.changes ≡ told ++ filter_map (item_change true) items.gone ++ filter_map (item_change false) items.new
    → IsNext old new totals_now next items.gone items.new
taken_over old new more gone fresh kept kept_now told totals totals_now before next items configs was differs same tells kept_are counted fits is tells_items
    changes =
    let keep = keeps old new gone fresh kept kept_now told differs same tells kept_are in
    let stocked : IsStocked new.configs new.entries new.kept totals_now next = record {
      counted = counted;
      items = is ∙ ap (λ (kept : ℕ → List (Option Place)). naming_items new.configs kept (entry_fields (busy new.entries)) (view_keys new)) kept_same;
      holds = holds_then new.configs new.entries old.kept new.kept (view_boards old) was.holds keep;
      fits = fits;
    } in
    let live_before = live_all old totals before was in
    let live_now = live_all new totals_now next stocked in
    record {
      moves = moves old new more gone fresh kept kept_now told before next items.gone items.new configs differs same tells kept_are live_before live_now
          tells_items.gone_are tells_items.new_are changes;
      stocked = stocked;
      goes = tells_items.gone_are ∙ ap₂ items_less live_before live_now;
      comes = tells_items.new_are ∙ ap₂ items_less live_now live_before;
    }
  where
    kept_at : (number : ℕ) → kept_with old.kept fresh number ≡ kept_of new.kept number
    kept_at number =
        ap (λ (kept : List (Option Place)). with_boards kept (places_of number fresh)) (sym (same number)) ∙ sym (tells.all_kept number)
        ∙ ap (λ (kept : List (List (Option Place))). kept_of kept number) (sym kept_are)

    kept_same : kept_with old.kept fresh ≡ kept_of new.kept
    kept_same = λ i number. kept_at number i

-- the items that are told are those of what was staged
pub told_of : (before : List Item) (items : ItemDifference) (staged : Option (List Item)) (next : List Item) → staged ≡ Some next
    → IsSomeAnd staged (TellsItems before items) → TellsItems before items next
told_of before items staged next is tells = subst (λ (staged : Option (List Item)). IsSomeAnd staged (TellsItems before items)) is tells

pub told_by : (before : List Item) (items : ItemDifference) (staged : Option (List Item)) (next : List Item) → staged ≡ Some next
    → IsSomeAnd staged (λ next. items.gone ≡ items_less (live before) (live next))
    → IsSomeAnd staged (λ next. items.new ≡ items_less (live next) (live before)) → TellsItems before items next
told_by before items staged next is gone new = record {
  gone_are = subst (λ (staged : Option (List Item)). IsSomeAnd staged (λ next. items.gone ≡ items_less (live before) (live next))) is gone;
  new_are = subst (λ (staged : Option (List Item)). IsSomeAnd staged (λ next. items.new ≡ items_less (live next) (live before))) is new;
}

-- what was staged is there
pub stock_is : (staged : Option (List Item)) (next now : List Item) → staged ≡ Some next → staged ≡ Some now → now ≡ next
stock_is staged next now is taken = cc

-- each name has the sensor that it had
pub kept_sensor : (before now : LiveSensors) → AreKept before now → (name : List ℕ) → sensor_in now name ≡ sensor_in before name
kept_sensor before now kept name =
    λ i. option_and_then (λ slot. slice_index_or (kept.slots i) slot None) (lookup (bytes_eq name) (kept.names i))

-- the sensors are settled as the live items go and come
pub settles : (old new : WatchView) (gone fresh : List Item) (before staged now : LiveSensors) → gone ≡ live_left old new → fresh ≡ live_left new old
    → AreKept before staged → ((name : List ℕ) → sensor_in now name ≡ settled gone fresh name (sensor_in staged name))
    → ((name : List ℕ) → has_sensor name gone ≡ false → has_sensor name fresh ≡ false → slot_of now name ≡ slot_of staged name)
    → Settles old new before now
settles old new gone fresh before staged now goes comes kept follow still = record {
  sensors = λ name. follow name ∙ (λ i. settled (goes i) (comes i) name (kept_sensor before staged kept name i));
  slots = λ name none_gone none_new.
      still name (ap (has_sensor name) goes ∙ none_gone) (ap (has_sensor name) comes ∙ none_new)
      ∙ ap (λ (names : List (List ℕ × ℕ)). lookup (bytes_eq name) names) kept.names;
}

-- ---- limits

-- the limit that the totals pass is the refusal
pub limit_named : (configs : List Config) (entries : List Entry) (totals : Totals) (fault : InventoryFault)
    → totals ≡ totals_of configs (keys_in configs entries)
    → limit_of totals ≡ Some fault → option_map limit_refusal (passed_limit configs (keys_in configs entries)) ≡ Some (limit_refusal fault)
unfolding passed_limit
limit_named configs entries totals fault is passed = ap (option_map limit_refusal) (ap limit_of (sym is) ∙ passed)

pub no_refusal : (configs : List Config) (entries : List Entry) (kept : List (List (Option Place))) (totals : Totals) (inventory : List Item)
    → IsStocked configs entries kept totals inventory → option_map limit_refusal (passed_limit configs (keys_in configs entries)) ≡ None
unfolding passed_limit
no_refusal configs entries kept totals inventory stocked = ap (option_map limit_refusal) (ap limit_of (sym stocked.counted) ∙ stocked.fits)

sights_without : (place : Place) (entries : List Entry)
    → map entry_sight (without_entry place entries) ≡ filter (λ (sight : Sight). not (is_eq (place_cmp place sight.place))) (map entry_sight entries)
sights_without place [] = refl
sights_without place (entry ∷ entries) = by (is_entry_at place entry) (sights_without place entries)
  where
    later : List Sight
    later = filter (λ (sight : Sight). not (is_eq (place_cmp place sight.place))) (map entry_sight entries)

    by : (here : Bool) → map entry_sight (without_entry place entries) ≡ later
        → map entry_sight (cond (not here) (entry ∷ without_entry place entries) (without_entry place entries))
        ≡ cond (not here) (entry_sight entry ∷ later) later
    by true rest = rest
    by false rest = ap (λ (sights : List Sight). entry_sight entry ∷ sights) rest

-- where a FRU is taken away no limit is passed
pub none_passed : (configs : List Config) (entries : List Entry) (kept : List (List (Option Place))) (totals totals_now : Totals) (inventory : List Item)
    (place : Place) (fault : InventoryFault) → IsStocked configs entries kept totals inventory
    → totals_now ≡ totals_of configs (keys_in configs (without_entry place entries)) → limit_of totals_now ≡ Some fault → ⊥
unfolding passed_limit
none_passed configs entries kept totals totals_now inventory place fault stocked is passed =
    let none : limit_of (totals_of configs (keys_in configs (without_entry place entries))) ≡ None =
    keys_fewer configs (length configs) (boards_of configs (without_entry place entries)) (boards_of configs entries) fewer
    (ap limit_of (sym stocked.counted) ∙ stocked.fits) in
    let differ : None ≡ Some fault = sym none ∙ ap limit_of (sym is) ∙ passed in absurd (cc)
  where
    fewer : (number : ℕ) → length (boards_of configs (without_entry place entries) number) ≤ length (boards_of configs entries number)
    fewer number =
        subst (λ (sights : List Sight). length (boards_in configs sights number) ≤ length (boards_of configs entries number))
        (sym (sights_without place entries))
        (boards_fewer configs (λ (sight : Sight). not (is_eq (place_cmp place sight.place))) (map entry_sight entries) number)

-- ---- where no board comes or goes

-- what is kept may be held in another way
pub stocked_kept : (configs : List Config) (entries : List Entry) (kept kept_now : List (List (Option Place))) (totals : Totals) (inventory : List Item)
    → ((number : ℕ) → kept_of kept_now number ≡ kept_of kept number) → IsStocked configs entries kept totals inventory
    → IsStocked configs entries kept_now totals inventory
stocked_kept configs entries kept kept_now totals inventory same stocked = record {
  counted = stocked.counted;
  items = stocked.items
      ∙ ap (λ (kept : ℕ → List (Option Place)). naming_items configs kept (entry_fields (busy entries)) (keys_in configs entries))
      (λ i number. sym (same number) i);
  holds = λ number place has. subst (λ (kept : List (Option Place)). has_board kept place ≡ true) (sym (same number)) (stocked.holds number place has);
  fits = stocked.fits;
}

-- an idle FRU comes or goes
pub idle_stocked : (configs : List Config) (entries entries_now : List Entry) (kept : List (List (Option Place))) (totals : Totals) (inventory : List Item)
    → busy entries_now ≡ busy entries
    → ((number : ℕ) → boards_in configs (map entry_sight entries_now) number ≡ boards_in configs (map entry_sight entries) number)
    → IsStocked configs entries kept totals inventory → IsStocked configs entries_now kept totals inventory
idle_stocked configs entries entries_now kept totals inventory busy_same same stocked = record {
  counted = stocked.counted ∙ sym (ap (λ (boards : ℕ → List (Option Place)). totals_of configs (keys_of (length configs) boards)) all_same);
  items = stocked.items
      ∙ sym (ap₂ (λ (entries : List Entry) (boards : ℕ → List (Option Place)).
      naming_items configs (kept_of kept) (entry_fields entries) (keys_of (length configs) boards)) busy_same all_same);
  holds = λ number place has. stocked.holds number place
      (sym (ap (λ (boards : List (Option Place)). has_board boards place) (same number)) ∙ has);
  fits = stocked.fits;
}
  where
    all_same : boards_of configs entries_now ≡ boards_of configs entries
    all_same = λ i number. same number i

-- where nothing has happened
pub stocked_none : IsStocked [] [] [] no_totals []
unfolding items boards_in board_places
stocked_none = record { counted = refl; items = refl; holds = λ number place has. absurd (cc); fits = refl }

pub stocked_new : (configs : List Config) (entries : List Entry) (kept : List (List (Option Place))) (totals : Totals) (inventory : List Item)
    → configs ≡ [] → entries ≡ [] → kept ≡ [] → totals ≡ no_totals → inventory ≡ [] → IsStocked configs entries kept totals inventory
stocked_new configs entries kept totals inventory no_configs no_entries none_kept none_counted no_items =
    subst (λ (configs : List Config). IsStocked configs entries kept totals inventory) (sym no_configs)
    (subst (λ (entries : List Entry). IsStocked [] entries kept totals inventory) (sym no_entries)
    (subst (λ (kept : List (List (Option Place))). IsStocked [] [] kept totals inventory) (sym none_kept)
    (subst (λ (totals : Totals). IsStocked [] [] [] totals inventory) (sym none_counted)
    (subst (λ (inventory : List Item). IsStocked [] [] [] no_totals inventory) (sym no_items) stocked_none))))
