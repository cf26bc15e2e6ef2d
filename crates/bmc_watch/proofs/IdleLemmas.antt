-- FRUs without hits and channels change nothing that is found, reachable or a board.
use Rattle.std.proofs.Common.{◌≡◌, ℕ, ◌+◌, List, [], ◌∷◌, ◌++◌, map, length, Bool, true, false, cond, not, ◌==◌, ◌&&◌, ◌||◌, nat_eq, Option}
use Rattle.std.proofs.Common.{append_assoc, filter_map, subst, arith}
use Rattle.std.proofs.Common.{refl, ap, ap₂, sym, ◌∙◌}
use Rattle.std.specs.Prelude.{slice_get, option_map}
use Rattle.std.specs.List.{AllByRecursion, list_any, flat_map, range_with_len}
use Rattle.std.specs.Option.{unwrap_or}
use Rattle.std.proofs.lemmas.Bool.{or_left, or_right}
use Rattle.std.proofs.lemmas.Bool.Decides.{nat_tests}
use Rattle.bmc_base.specs.Places.{Place}
use Rattle.probe_lang.specs.Sights.{Sight, entry_sight, has_hit, has_config, has_channel}
use Rattle.probe_lang.specs.declared.rows.Entry.{Entry}
use Rattle.probe_lang.specs.declared.rows.Hit.{Hit}
use Rattle.probe_lang.specs.declared.rows.Channel.{Channel}
use Rattle.cfg_json.specs.Configs.{Config}
use Rattle.cfg_json.specs.declared.item.Item.{Item}
use Rattle.found_set.specs.Marks.{is_marked}
use Rattle.found_set.specs.Found.{Rule, found_from, found, matched_by, on_buses, is_root, roots, moves_to, opens, is_reached, is_found}
use Rattle.fru_rows.specs.Idle.{is_idle, busy}
use Rattle.inventory.specs.Boards.{boards_in, board_places, hit_places, places_or_none, rules_of, has_board}
use Rattle.inventory.specs.Indexes.{kept_of, except, with_boards}
use Rattle.inventory.specs.Differences.{key_of}
use Rattle.inventory.specs.Moments.{IsAmong}
use Rattle.inventory.specs.Items.{entry_fields, items, id_eq, items_less, live}
use Rattle.inventory.specs.Lists.{keys_of, board_list}
use Rattle.inventory.proofs.BoardLemmas.{pass_all, except_none}
use Rattle.inventory.proofs.IdsLemmas.{id_itself}
use Rattle.inventory.proofs.ListLemmas.{filter_none}
use Rattle.inventory.proofs.MomentsLemmas.{places_append, places_one}
use Rattle.inventory.specs.declared.board.BoardKey.{BoardKey}
use Rattle.bmc_report.specs.declared.change.Change.{Change}
use Rattle.bmc_machine.specs.Changes.{changes_between, board_change, item_change}
use Rattle.live_sensors.specs.Items.{settled}
use Rattle.live_sensors.specs.Sensors.{LiveSensors, sensor_in}
use Rattle.bmc_watch.specs.Settling.{live_left, Settles}
use Rattle.bmc_watch.specs.Watches.{WatchView, view_boards, view_items, Moves}

empties : (hits : List Hit) (channels : List Channel) → (length hits == 0 && length channels == 0) ≡ true → (hits ≡ []) × (channels ≡ [])
empties [] [] none = (refl, refl)
empties [] (channel ∷ channels) none = absurd (grind (arith, nat_tests))
empties (hit ∷ hits) channels none = absurd (grind (arith, nat_tests))

-- what an idle entry has
idle_parts : (entry : Entry) → is_idle entry ≡ true → (entry.hits ≡ []) × (entry.channels ≡ [])
idle_parts entry idle = empties entry.hits entry.channels idle

-- ---- what is found and reachable over FRUs of which as much is seen

opens_alike : (number : ℕ) (rules : List Rule) (marks : List Bool) (sights others : List Sight) (bus : ℕ)
    → ((config : ℕ) → moves_to sights config bus ≡ moves_to others config bus) → opens number rules marks sights bus ≡ opens number rules marks others bus
opens_alike number [] marks sights others bus alike = refl
opens_alike number (rule ∷ rules) [] sights others bus alike = refl
opens_alike number (rule ∷ rules) (first ∷ later) sights others bus alike =
    ap₂ (λ (moved more : Bool). (first && (list_any (nat_eq bus) rule.fixed || moved)) || more) (alike number)
    (opens_alike (number + 1) rules later sights others bus alike)

module _ (sights others : List Sight)
    (matched : (test : ℕ → Bool) (config pattern : ℕ) → matched_by (on_buses test sights) config pattern ≡ matched_by (on_buses test others) config pattern)
    (moved : (config bus : ℕ) → moves_to (roots sights) config bus ≡ moves_to (roots others) config bus) (rules : List Rule) where
  found_alike : (test : ℕ → Bool) → found rules (on_buses test sights) ≡ found rules (on_buses test others)
  found_alike test =
      let same : matched_by (on_buses test sights) ≡ matched_by (on_buses test others) = λ i config pattern. matched test config pattern i in
      ap (λ (test : ℕ → ℕ → Bool). found_from rules rules test []) same

  reached_alike : is_reached rules sights ≡ is_reached rules others
  reached_alike = λ i bus. at bus i
    where
      at : (bus : ℕ) → is_reached rules sights bus ≡ is_reached rules others bus
      at bus =
          ap (λ (opened : Bool). is_root bus || opened)
          (opens_alike 0 rules (found rules (roots sights)) (roots sights) (roots others) bus (λ config. moved config bus)
          ∙ ap (λ (marks : List Bool). opens 0 rules marks (roots others) bus) (found_alike is_root))

  is_found_alike : is_found rules sights ≡ is_found rules others
  is_found_alike = λ i number. at number i
    where
      at : (number : ℕ) → is_found rules sights number ≡ is_found rules others number
      at number =
          ap (λ (marks : List Bool). is_marked marks number)
          (found_alike (is_reached rules sights) ∙ ap (λ (test : ℕ → Bool). found rules (on_buses test others)) reached_alike)

-- ---- one FRU that shows nothing, among others

module _ (entry : Entry) (hits : entry.hits ≡ []) (channels : entry.channels ≡ []) where
  shows_none : (config pattern : ℕ) → (entry_sight entry).matched config pattern ≡ false
  shows_none config pattern = ap (λ (hits : List Hit). has_hit hits config pattern) hits

  leads_nowhere : (config bus : ℕ) → (entry_sight entry).opened config bus ≡ false
  leads_nowhere config bus = ap (λ (channels : List Channel). has_channel channels config bus) channels

  has_no_hit : (number : ℕ) → (entry_sight entry).hit number ≡ false
  has_no_hit number = ap (λ (hits : List Hit). has_config hits number) hits

  -- a test that it fails, over the FRUs on some buses
  any_among : (buses : ℕ → Bool) (test : Sight → Bool) → test (entry_sight entry) ≡ false → (front back : List Entry)
      → list_any test (on_buses buses (map entry_sight (front ++ entry ∷ back))) ≡ list_any test (on_buses buses (map entry_sight (front ++ back)))
  any_among buses test fails [] back = by (buses entry.place.bus)
    where
      by : (is_on : Bool)
          → list_any test (cond is_on (entry_sight entry ∷ on_buses buses (map entry_sight back)) (on_buses buses (map entry_sight back)))
          ≡ list_any test (on_buses buses (map entry_sight back))
      by true = ap (λ (here : Bool). here || list_any test (on_buses buses (map entry_sight back))) fails
      by false = refl
  any_among buses test fails (other ∷ front) back = by (buses other.place.bus) (any_among buses test fails front back)
    where
      by : (is_on : Bool)
          → list_any test (on_buses buses (map entry_sight (front ++ entry ∷ back))) ≡ list_any test (on_buses buses (map entry_sight (front ++ back)))
          → list_any test (cond is_on (entry_sight other ∷ on_buses buses (map entry_sight (front ++ entry ∷ back)))
          (on_buses buses (map entry_sight (front ++ entry ∷ back))))
          ≡ list_any test (cond is_on (entry_sight other ∷ on_buses buses (map entry_sight (front ++ back))) (on_buses buses (map entry_sight
          (front ++ back))))
      by true rest = ap (λ (later : Bool). test (entry_sight other) || later) rest
      by false rest = rest

  -- the places of hits are those of the others
  hits_among : (reach : ℕ → Bool) (number : ℕ) (front back : List Entry)
      → hit_places reach (map entry_sight (front ++ back)) number ≡ hit_places reach (map entry_sight (front ++ entry ∷ back)) number
  hits_among reach number front back =
      places_append reach number front back
      ∙ (ap (λ (places : List Place). hit_places reach (map entry_sight front) number ++ places) (sym without)
      ∙ sym (places_append reach number front (entry ∷ back)))
    where
      rest : List Place
      rest = hit_places reach (map entry_sight back) number

      no_hit : (is_on : Bool) → (is_on && false) ≡ false
      no_hit true = refl
      no_hit false = refl

      without : hit_places reach (map entry_sight (entry ∷ back)) number ≡ rest
      without =
          places_one reach number entry back
          ∙ ap (λ (is : Bool). cond is (entry.place ∷ rest) rest)
          (ap (λ (has : Bool). reach entry.place.bus && has) (has_no_hit number) ∙ no_hit (reach entry.place.bus))

  boards_among : (configs : List Config) (front back : List Entry) (number : ℕ)
      → boards_in configs (map entry_sight (front ++ entry ∷ back)) number ≡ boards_in configs (map entry_sight (front ++ back)) number
  unfolding boards_in board_places
  boards_among configs front back number =
      let sights = map entry_sight (front ++ entry ∷ back) in
      let others = map entry_sight (front ++ back) in
      let matched = λ (test : ℕ → Bool) (config pattern : ℕ).
      any_among test (λ (sight : Sight). sight.matched config pattern) (shows_none config pattern) front back in
      let moved = λ (config bus : ℕ). any_among is_root (λ (sight : Sight). sight.opened config bus) (leads_nowhere config bus) front back in
      let reach = reached_alike sights others matched moved (rules_of configs) in
      let found = is_found_alike sights others matched moved (rules_of configs) in
      ap₂ (λ (found reach : ℕ → Bool). board_places configs found reach sights number) found reach
      ∙ ap (λ (places : List Place). unwrap_or (option_map (λ (config : Config).
      cond (is_found (rules_of configs) others number) (places_or_none config.probe.match_one places) []) (slice_get configs number)) [])
      (sym (hits_among (is_reached (rules_of configs) others) number front back))

-- ---- an idle FRU comes or goes

-- the boards are the same with it and without it
pub idle_boards : (configs : List Config) (entry : Entry) (others entries : List Entry) → IsAmong entry others entries → is_idle entry ≡ true
    → (number : ℕ) → boards_in configs (map entry_sight entries) number ≡ boards_in configs (map entry_sight others) number
idle_boards configs entry others entries among idle number =
    let parts = idle_parts entry idle in
    ap (λ (there : List Entry). boards_in configs (map entry_sight there) number) among.with
    ∙ boards_among entry parts.0 parts.1 configs among.front among.back number
    ∙ sym (ap (λ (there : List Entry). boards_in configs (map entry_sight there) number) among.without)

-- so they are the same with the busy FRUs alone
pub busy_boards : (configs : List Config) (entries : List Entry) (number : ℕ)
    → boards_in configs (map entry_sight (busy entries)) number ≡ boards_in configs (map entry_sight entries) number
busy_boards configs entries number = behind [] entries
  where
    behind : (front entries : List Entry)
        → boards_in configs (map entry_sight (front ++ busy entries)) number ≡ boards_in configs (map entry_sight (front ++ entries)) number
    behind front [] = refl
    behind front (entry ∷ entries) = by (is_idle entry) refl (λ front. behind front entries)
      where
        by : (idle : Bool) → is_idle entry ≡ idle
            → ((front : List Entry) → boards_in configs (map entry_sight (front ++ busy entries)) number
            ≡ boards_in configs (map entry_sight (front ++ entries)) number)
            → boards_in configs (map entry_sight (front ++ cond (not idle) (entry ∷ busy entries) (busy entries))) number
            ≡ boards_in configs (map entry_sight (front ++ entry ∷ entries)) number
        by true is rest =
            let parts = idle_parts entry is in rest front ∙ sym (boards_among entry parts.0 parts.1 configs front entries number)
        by false is rest =
            ap (λ (there : List Entry). boards_in configs (map entry_sight there) number) (sym (append_assoc front (entry ∷ []) (busy entries)))
            ∙ rest (front ++ entry ∷ [])
            ∙ ap (λ (there : List Entry). boards_in configs (map entry_sight there) number) (append_assoc front (entry ∷ []) entries)

-- no board is left over of those that are there too
pub except_self : (boards : List (Option Place)) → except (has_board boards) boards ≡ []
except_self boards = except_none (has_board boards) boards (pass_all (has_board boards) boards (λ place has. has))

no_keys : (boards boards_after : ℕ → List (Option Place)) → ((number : ℕ) → boards_after number ≡ boards number) → (numbers : List ℕ)
    → flat_map (λ number. map (key_of number) (except (has_board (boards_after number)) (boards number))) numbers ≡ []
no_keys boards boards_after same [] = refl
no_keys boards boards_after same (number ∷ numbers) =
    ap₂ (λ (left : List (Option Place)) (later : List BoardKey). map (key_of number) left ++ later)
    (ap (λ (there : List (Option Place)). except (has_board there) (boards number)) (same number) ∙ except_self (boards number))
    (no_keys boards boards_after same numbers)

-- an item is among those with it
holds_item : (item : Item) (front back : List Item) → list_any (λ (other : Item). id_eq other.id item.id) (front ++ item ∷ back) ≡ true
holds_item item [] back = or_left _ _ (id_itself item.id)
holds_item item (other ∷ front) back = or_right _ _ (holds_item item front back)

-- no item is left over of those that are there too
pub less_self : (all : List Item) → items_less all all ≡ []
unfolding items_less
less_self all = filter_none _ all (each [] all)
  where
    each : (front back : List Item)
        → AllByRecursion (λ (item : Item). not (list_any (λ (other : Item). id_eq other.id item.id) (front ++ back)) ≡ false) back
    each front [] = tt
    each front (item ∷ back) = (
      ap not (holds_item item front back),
      subst (λ (all : List Item). AllByRecursion (λ (item : Item). not (list_any (λ (other : Item). id_eq other.id item.id) all) ≡ false) back)
          (append_assoc front (item ∷ []) back) (each (front ++ item ∷ []) back),
    )

no_changes : (a b c d : List Change) → a ≡ [] → b ≡ [] → c ≡ [] → d ≡ [] → a ++ b ++ c ++ d ≡ []
no_changes a b c d no_a no_b no_c no_d = λ i. no_a i ++ no_b i ++ no_c i ++ no_d i

-- where all boards are the same so is what they expose
items_same : (old new : WatchView) → new.configs ≡ old.configs → busy new.entries ≡ busy old.entries
    → ((number : ℕ) → view_boards new number ≡ view_boards old number) → new.kept ≡ old.kept → view_items new ≡ view_items old
items_same old new configs works same kept =
    λ i. items (configs i) (entry_fields (works i)) (board_list (kept_of (kept i)) (keys_of (length (configs i)) (λ number. same number i)))

-- where all boards are the same each sensor stays
pub idle_settles : (old new : WatchView) (sensors : LiveSensors) → new.configs ≡ old.configs → busy new.entries ≡ busy old.entries
    → ((number : ℕ) → view_boards new number ≡ view_boards old number) → new.kept ≡ old.kept → Settles old new sensors sensors
idle_settles old new sensors configs works same kept = record {
  sensors = λ name. sym (λ i. settled (none_gone i) (none_new i) name (sensor_in sensors name));
  slots = λ name gone fresh. refl;
}
  where
    live_same : live (view_items new) ≡ live (view_items old)
    live_same = ap live (items_same old new configs works same kept)

    none_gone : live_left old new ≡ []
    none_gone = ap (items_less (live (view_items old))) live_same ∙ less_self (live (view_items old))

    none_new : live_left new old ≡ []
    none_new = ap (items_less (live (view_items new))) (sym live_same) ∙ less_self (live (view_items new))

-- where all boards are the same there are no changes
pub idle_moves : (old new : WatchView) → new.configs ≡ old.configs → busy new.entries ≡ busy old.entries
    → ((number : ℕ) → view_boards new number ≡ view_boards old number) → new.kept ≡ old.kept → new.changes ≡ [] → Moves old new
unfolding changes_between
idle_moves old new configs works same kept none = record {
  kept = λ number.
      ap (λ (lists : List (List (Option Place))). kept_of lists number) kept
      ∙ sym (ap (with_boards (kept_of old.kept number)) (ap (except (has_board (view_boards old number))) (same number)
      ∙ except_self (view_boards old number)));
  changes =
      none
      ∙ sym (no_changes _ _ _ _
      (ap (map (board_change true old.configs (kept_of old.kept))) (no_keys (view_boards old) (view_boards new) same (range_with_len 0 (length old.configs))))
      (ap (map (board_change false new.configs (kept_of new.kept)))
      (no_keys (view_boards new) (view_boards old) (λ number. sym (same number)) (range_with_len 0 (length new.configs))))
      (ap (filter_map (item_change true)) (ap (items_less (live (view_items old))) (ap live same_items) ∙ less_self (live (view_items old))))
      (ap (filter_map (item_change false)) (ap (items_less (live (view_items new))) (sym (ap live same_items)) ∙ less_self (live (view_items new)))));
}
  where
    same_items : view_items new ≡ view_items old
    same_items = items_same old new configs works same kept
