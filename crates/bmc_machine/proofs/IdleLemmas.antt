-- A step that is no configuration, plug or unplug leaves what is present, the boards, the items and what of them is live.
use Rattle.std.proofs.Common.{◌≡◌, ℕ, List, [], ◌∷◌, ◌++◌, Bool, true, false, not, map, Option, refl, ap, ap₂}
use Rattle.std.specs.Prelude.{length, filter_map}
use Rattle.std.specs.List.{AllByRecursion, flat_map, range_with_len}
use Rattle.std.proofs.lemmas.Bool.{or_left, or_right}
use Rattle.bmc_base.specs.Places.{Place}
use Rattle.cfg_json.specs.declared.item.Item.{Item}
use Rattle.inventory.specs.Boards.{has_board}
use Rattle.inventory.specs.Differences.{key_of, keys_left}
use Rattle.inventory.specs.Indexes.{except}
use Rattle.inventory.specs.Items.{items, items_less, live}
use Rattle.inventory.specs.Lists.{board_list}
use Rattle.inventory.specs.declared.board.BoardKey.{BoardKey}
use Rattle.inventory.proofs.BoardLemmas.{except_none, pass_all}
use Rattle.inventory.proofs.IdsLemmas.{id_itself}
use Rattle.inventory.proofs.ListLemmas.{all_weaker, filter_none}
use Rattle.bmc_machine.specs.Boards.{boards, board_keys, fields_at}
use Rattle.bmc_machine.specs.Histories.{Step, Start, Configure, Plug, RefusedPlug, Unplug, Read, Lose, Tick, standing, is_idle_step}
use Rattle.bmc_machine.specs.Indexes.{kept, boards_now, items_now, live_now}
use Rattle.bmc_machine.specs.Lives.{has_id}
use Rattle.bmc_machine.specs.Changes.{Inventory, inventory, board_change, item_change, changes_between}
use Rattle.bmc_machine.proofs.IndexLemmas.{kept_idle}

pub standing_idle : (step : Step) (past : List Step) → is_idle_step step ≡ true → standing (step ∷ past) ≡ standing past
unfolding standing
standing_idle (Start options) past idle = refl
standing_idle (Configure config) past idle = absurd (cc)
standing_idle (Plug place bytes) past idle = absurd (cc)
standing_idle (RefusedPlug place bytes refusal) past idle = refl
standing_idle (Unplug place) past idle = absurd (cc)
standing_idle (Read name raw) past idle = refl
standing_idle (Lose name) past idle = refl
standing_idle Tick past idle = refl

module _ (step : Step) (past : List Step) (idle : is_idle_step step ≡ true) where
  same : standing (step ∷ past) ≡ standing past
  same = standing_idle step past idle

  pub kept_same : kept (step ∷ past) ≡ kept past
  kept_same = λ i number. kept_idle step past number same i

  pub boards_same : boards_now (step ∷ past) ≡ boards_now past
  unfolding boards_now
  boards_same = λ i. board_list (kept_same i) (board_keys (same i))

  pub items_same : items_now (step ∷ past) ≡ items_now past
  unfolding items_now
  items_same = λ i. items (same i).configs (fields_at (same i).frus) (boards_same i)

  pub live_same : live_now (step ∷ past) ≡ live_now past
  unfolding live_now
  live_same = ap live items_same

  pub inventory_same : inventory (step ∷ past) ≡ inventory past
  inventory_same = λ i. record { configs = (same i).configs; boards = boards (same i); kept = kept_same i; live = live_same i }

-- ---- between two moments that are alike nothing changes

no_keys : (boards : ℕ → List (Option Place)) (numbers : List ℕ)
    → flat_map (λ number. map (key_of number) (except (has_board (boards number)) (boards number))) numbers ≡ []
no_keys boards [] = refl
no_keys boards (number ∷ numbers) =
    ap₂ (λ (left : List (Option Place)) (later : List BoardKey). map (key_of number) left ++ later)
    (except_none (has_board (boards number)) (boards number) (pass_all (has_board (boards number)) (boards number) (λ place has. has)))
    (no_keys boards numbers)

-- each item has an id of the list
pub have_ids : (items : List Item) → AllByRecursion (λ (item : Item). has_id items item.id ≡ true) items
have_ids [] = tt
have_ids (first ∷ items) =
    (or_left _ _ (id_itself first.id), all_weaker _ _ (λ (item : Item) has. or_right _ _ has) items (have_ids items))

pub less_self : (items : List Item) → items_less items items ≡ []
unfolding items_less
less_self items =
    filter_none (λ (item : Item). not (has_id items item.id)) items (all_weaker _ _ (λ (item : Item) has. ap not has) items (have_ids items))

pub nothing_between : (now : Inventory) → changes_between now now ≡ []
unfolding changes_between
nothing_between now = λ i. keys true i ++ keys false i ++ live_items true i ++ live_items false i
  where
    keys : (gone : Bool) → map (board_change gone now.configs now.kept) (keys_left (length now.configs) now.boards now.boards) ≡ []
    keys gone = ap (map (board_change gone now.configs now.kept)) (no_keys now.boards (range_with_len 0 (length now.configs)))

    live_items : (gone : Bool) → filter_map (item_change gone) (items_less now.live now.live) ≡ []
    live_items gone = ap (filter_map (item_change gone)) (less_self now.live)
