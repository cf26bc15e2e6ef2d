-- Rows that are appended one after another.
use Rattle.std.proofs.Common.{◌≡◌, ◌∙◌, ℕ, zero, suc, ◌+◌, List, [], ◌∷◌, ◌++◌, drop, Option, Some, None, option_map, slice_get, refl, sym, ap}
use Rattle.std.proofs.Common.{append_assoc, append-nil, zero-add, Bool, true, false, cond, filter}
use Rattle.std.specs.List.{flat_map, range_with_len}
use Rattle.std.specs.Option.{unwrap_or}
use Rattle.std.proofs.lemmas.List.{flat_map_more}
use Rattle.std.proofs.lemmas.Grind.{flat_map-append}
use Rattle.bmc_base.specs.Places.{Place}
use Rattle.cfg_json.specs.Configs.{Config}
use Rattle.cfg_json.specs.declared.item.Item.{Item}
use Rattle.inventory.specs.Indexes.{index_in}
use Rattle.inventory.specs.Items.{is_live, live}
use Rattle.inventory.specs.Shown.{items_of}
use Rattle.inventory.specs.declared.shown.Shown.{Shown}
use Rattle.inventory.proofs.DifferencesLemmas.{range_push}
use Rattle.inventory.proofs.LessLemmas.{drop_at}
use Rattle.bmc_report.specs.BoardRows.{index_row}
use Rattle.bmc_machine.specs.Boards.{name_of}
use Rattle.bmc_machine.specs.Shows.{index_rows}
use Rattle.live_sensors.specs.Sensors.{LiveSensors}
use Rattle.bmc_watch.specs.Watches.{WatchView, view_items}
use Rattle.bmc_core.specs.Lists.{item_sensor_row, row_if_live, sensor_rows}

drop_past : {X : Type 0} (xs : List X) (i : ℕ) → slice_get xs i ≡ None → drop i xs ≡ []
drop_past [] zero past = refl
drop_past [] (suc i) past = refl
drop_past (first ∷ xs) zero past = absurd (cc)
drop_past (first ∷ xs) (suc i) past = drop_past xs i past

module _ {X : Type 0} (row : X → List ℕ) (text whole : List ℕ) where
  -- of the rows that are left one more is appended
  pub rows_more : (rest later : List X) (x : X) (grown : List ℕ) → text ++ flat_map row rest ≡ whole → rest ≡ x ∷ later → grown ≡ text ++ row x
      → grown ++ flat_map row later ≡ whole
  rows_more rest later x grown before next grows =
      ap (λ (front : List ℕ). front ++ flat_map row later) grows ∙ append_assoc text (row x) (flat_map row later)
      ∙ ap (λ (rest : List X). text ++ flat_map row rest) (sym next) ∙ before

  -- none is left
  pub rows_all : (rest : List X) → text ++ flat_map row rest ≡ whole → rest ≡ [] → text ≡ whole
  rows_all rest before none = sym (append-nil text) ∙ ap (λ (rest : List X). text ++ flat_map row rest) (sym none) ∙ before

  -- the same by a position
  pub rows_next : (xs : List X) (i : ℕ) (x : X) (grown : List ℕ) → text ++ flat_map row (drop i xs) ≡ whole → slice_get xs i ≡ Some x
      → grown ≡ text ++ row x → grown ++ flat_map row (drop (i + 1) xs) ≡ whole
  rows_next xs i x grown before at grows = rows_more (drop i xs) (drop (i + 1) xs) x grown before (drop_at xs i x at) grows

  pub rows_past : (xs : List X) (i : ℕ) → text ++ flat_map row (drop i xs) ≡ whole → slice_get xs i ≡ None → text ≡ whole
  rows_past xs i before past = rows_all (drop i xs) before (drop_past xs i past)

-- the rows of the next number
rows_numbered : (row : ℕ → List ℕ) (start text grown : List ℕ) (number : ℕ) → text ≡ start ++ flat_map row (range_with_len 0 number)
    → grown ≡ text ++ row number → grown ≡ start ++ flat_map row (range_with_len 0 (number + 1))
rows_numbered row start text grown number before grows =
    grows ∙ ap (λ (front : List ℕ). front ++ row number) before ∙ flat_map_more row start (range_with_len 0 number) number
    ∙ ap (λ (n : ℕ). start ++ flat_map row (range_with_len 0 number ++ n ∷ [])) (sym (zero-add number))
    ∙ ap (λ (numbers : List ℕ). start ++ flat_map row numbers) (sym (range_push 0 number))

-- the rows of the boards that are kept of the next configuration
pub kept_more : (configs : List Config) (kept : ℕ → List (Option Place)) (number : ℕ) (config : Config) (name start text grown : List ℕ)
    → text ≡ start ++ flat_map (index_rows configs kept) (range_with_len 0 number) → Some config ≡ slice_get configs number → name ≡ config.name
    → grown ≡ text ++ flat_map (λ place. index_row name (index_in (kept number) place) place) (kept number)
    → grown ≡ start ++ flat_map (index_rows configs kept) (range_with_len 0 (number + 1))
kept_more configs kept number config name start text grown before at is grows =
    rows_numbered (index_rows configs kept) start text grown number before
    (grows ∙ ap (λ (name : List ℕ). text ++ flat_map (λ place. index_row name (index_in (kept number) place) place) (kept number)) named)
  where
    named : name ≡ name_of configs number
    named = is ∙ ap (λ (config : Option Config). unwrap_or (option_map (λ (config : Config). config.name) config) []) at

-- ---- live sensors

module _ (watch : WatchView) (sensors : LiveSensors) (tick : ℕ) where
  -- the rows of items, by whether each is live, are those of live items
  rows_live : (items : List Item) → flat_map (row_if_live watch sensors tick) items ≡ sensor_rows sensors tick (filter (is_live (view_items watch)) items)
  rows_live [] = refl
  rows_live (item ∷ items) = by (is_live (view_items watch) item) (rows_live items)
    where
      by : (lives : Bool) → flat_map (row_if_live watch sensors tick) items ≡ sensor_rows sensors tick (filter (is_live (view_items watch)) items)
          → cond lives (item_sensor_row sensors tick item) [] ++ flat_map (row_if_live watch sensors tick) items
          ≡ sensor_rows sensors tick (cond lives (item ∷ filter (is_live (view_items watch)) items) (filter (is_live (view_items watch)) items))
      by true rest = ap (λ (rows : List ℕ). item_sensor_row sensors tick item ++ rows) rest
      by false rest = rest

  -- and so are those of the items of boards
  rows_shown : (boards : List Shown)
      → flat_map (λ (board : Shown). flat_map (row_if_live watch sensors tick) board.items.items) boards
      ≡ flat_map (row_if_live watch sensors tick) (items_of boards)
  rows_shown [] = refl
  rows_shown (board ∷ boards) =
      ap (λ (rows : List ℕ). flat_map (row_if_live watch sensors tick) board.items.items ++ rows) (rows_shown boards)
      ∙ sym (flat_map-append (row_if_live watch sensors tick) board.items.items (items_of boards))

  pub all_shown : (boards : List Shown) → filter (is_live (view_items watch)) (items_of boards) ≡ live (view_items watch)
      → flat_map (λ (board : Shown). flat_map (row_if_live watch sensors tick) board.items.items) boards
      ≡ sensor_rows sensors tick (live (view_items watch))
  all_shown boards lives = rows_shown boards ∙ rows_live (items_of boards) ∙ ap (sensor_rows sensors tick) lives
