-- The totals and the items where a configuration comes.
use Rattle.std.proofs.Common.{◌≡◌, ◌∙◌, ℕ, zero, suc, ◌+◌, ◌<◌, List, [], ◌∷◌, ◌++◌, map, length, Option, true, refl, sym, ap, ap₂, arith}
use Rattle.std.proofs.Common.{append-nil}
use Rattle.std.specs.Prelude.{slice_get, option_map, sum_by}
use Rattle.std.specs.Option.{unwrap_or}
use Rattle.std.specs.List.{AllByRecursion, flat_map, range_with_len}
use Rattle.std.proofs.lemmas.Grind.{flat_map-append}
use Rattle.std.proofs.lemmas.List.{length-append}
use Rattle.std.proofs.lemmas.List.Elements.{recursion_from_All}
use Rattle.std.proofs.lemmas.List.Sums.{sum_by-cons}
use Rattle.bmc_base.specs.Places.{Place}
use Rattle.probe_lang.specs.Presents.{are_by_place}
use Rattle.probe_lang.specs.Sights.{entry_sight}
use Rattle.probe_lang.specs.declared.rows.Entry.{Entry}
use Rattle.cfg_json.specs.Configs.{Config, counts_of}
use Rattle.cfg_json.specs.declared.counts.Counts.{Counts}
use Rattle.inventory.specs.Boards.{boards_in, has_board}
use Rattle.cfg_json.specs.declared.item.Item.{Item}
use Rattle.fru_rows.specs.Idle.{busy}
use Rattle.inventory.specs.Differences.{Moment, key_of, keys_left}
use Rattle.inventory.specs.Indexes.{except, kept_of}
use Rattle.inventory.specs.Items.{entry_fields}
use Rattle.inventory.specs.Limits.{no_counts, board_counts, totals_of, totals_after}
use Rattle.inventory.specs.Lists.{keys_of}
use Rattle.inventory.specs.Naming.{naming_items}
use Rattle.inventory.specs.declared.board.BoardKey.{BoardKey}
use Rattle.inventory.specs.declared.changed.Difference.{Difference}
use Rattle.inventory.specs.declared.limits.Totals.{Totals}
use Rattle.inventory.proofs.DifferencesLemmas.{range_push}
use Rattle.inventory.proofs.CallersLemmas.{configs_alike}
use Rattle.inventory.proofs.ListLemmas.{all_weaker}
use Rattle.inventory.proofs.TotalsLemmas.{totals_add_up}
use Rattle.bmc_watch.specs.Changes.{IsDifference, AreWithin}
use Rattle.bmc_watch.proofs.KeysLemmas.{keys_by, no_boards, within_by}
use Rattle.bmc_watch.specs.Insides.{IsStocked}
use Rattle.bmc_watch.specs.ItemSteps.{Continues}
use Rattle.bmc_watch.proofs.StockLemmas.{boards_ascend, continues, items_with}

-- ---- what is counted of the boards of the configurations before

slice_front : (configs more : List Config) (number : ℕ) → number < length configs → slice_get (configs ++ more) number ≡ slice_get configs number
slice_front [] more number few = absurd (omega (arith, few))
slice_front (config ∷ configs) more zero few = refl
slice_front (config ∷ configs) more (suc number) few = slice_front configs more number (omega (arith, few))

counts_front : (configs more : List Config) (key : BoardKey) → key.config < length configs
    → board_counts (configs ++ more) key ≡ board_counts configs key
counts_front configs more key few =
    ap (λ (found : Option Config). unwrap_or (option_map (λ (config : Config). counts_of config.exposes) found) no_counts)
    (slice_front configs more key.config few)

sum_alike : (test other : BoardKey → ℕ) (count : ℕ) (keys : List BoardKey) → AreWithin keys count
    → ((key : BoardKey) → key.config < count → test key ≡ other key) → sum_by test keys ≡ sum_by other keys
sum_alike test other count [] within alike = refl
sum_alike test other count (key ∷ keys) within alike =
    sum_by-cons test key keys
    ∙ ap₂ (λ (first later : ℕ). first + later) (alike key (within 0 key (omega arith)))
    (sum_alike test other count keys (λ k d few. within (suc k) d (omega (arith, few))) alike)
    ∙ sym (sum_by-cons other key keys)

totals_front : (configs more : List Config) (keys : List BoardKey) → AreWithin keys (length configs)
    → totals_of configs keys ≡ totals_of (configs ++ more) keys
totals_front configs more keys within = λ i. record {
  boards = length keys;
  sensors = same (λ counts. counts.sensors) i;
  zones = same (λ counts. counts.zones) i;
  fans = same (λ counts. counts.fans) i;
  pids = same (λ counts. counts.pids) i;
  steps = same (λ counts. counts.steps) i;
}
  where
    same : (weight : Counts → ℕ)
        → sum_by (λ key. weight (board_counts configs key)) keys ≡ sum_by (λ key. weight (board_counts (configs ++ more) key)) keys
    same weight =
        sum_alike (λ key. weight (board_counts configs key)) (λ key. weight (board_counts (configs ++ more) key)) (length configs) keys within
        (λ key few. ap weight (sym (counts_front configs more key few)))

-- a configuration without boards adds no keys
no_more : (places : ℕ → List (Option Place)) (number : ℕ) → places number ≡ [] → keys_by places 0 (number + 1) ≡ keys_by places 0 number
no_more places number none =
    let from : 0 + number ≡ number = omega arith in
    ap (flat_map keys_at) (range_push 0 number ∙ ap (λ n. range_with_len 0 number ++ n ∷ []) from)
    ∙ flat_map-append keys_at (range_with_len 0 number) (number ∷ [])
    ∙ ap (λ (keys : List BoardKey). keys_by places 0 number ++ keys) (append-nil (keys_at number) ∙ ap (map (key_of number)) none)
    ∙ append-nil (keys_by places 0 number)
  where
    keys_at : ℕ → List BoardKey
    keys_at number = map (key_of number) (places number)

-- ---- behind the step

module _ (configs : List Config) (config : Config) (entries : List Entry) (order : are_by_place entries ≡ true) where
  abbrev all : List Config
  all = configs ++ config ∷ []

  abbrev count : ℕ
  count = length all

  abbrev before : ℕ → List (Option Place)
  before = boards_in configs (map entry_sight entries)

  abbrev after : ℕ → List (Option Place)
  after = boards_in all (map entry_sight entries)

  one_more : count ≡ length configs + 1
  one_more = length-append configs (config ∷ [])

  none : before (length configs) ≡ []
  none = no_boards configs (map entry_sight entries) (length configs) (omega arith)

  keys_same : keys_of count before ≡ keys_of (length configs) before
  keys_same = ap (λ (count : ℕ). keys_of count before) one_more ∙ no_more before (length configs) none

  gone_same : keys_left count before after ≡ keys_left (length configs) before after
  gone_same =
      ap (λ (count : ℕ). keys_left count before after) one_more
      ∙ no_more (λ number. except (has_board (after number)) (before number)) (length configs)
      (ap (except (has_board (after (length configs)))) none)

  -- the totals
  pub config_counted : (gone new : List BoardKey) (totals totals_now : Totals) → IsDifference (length configs) count before after gone new
      → totals ≡ totals_of configs (keys_of (length configs) before) → totals_now ≡ totals_after all totals gone new
      → totals_now ≡ totals_of all (keys_of count after)
  config_counted gone new totals totals_now differs was is =
      is ∙ ap (λ (totals : Totals). totals_after all totals gone new) counted
      ∙ ap₂ (totals_after all (totals_of all (keys_of count before))) (differs.those_gone ∙ sym gone_same) differs.those_new
      ∙ totals_add_up all count before after (boards_ascend configs entries order) (boards_ascend all entries order)
    where
      counted : totals ≡ totals_of all (keys_of count before)
      counted =
          was ∙ totals_front configs (config ∷ []) (keys_of (length configs) before) (within_by before 0 (length configs) (length configs) (omega arith))
          ∙ ap (totals_of all) (sym keys_same)

  -- a board of a configuration that was there has it
  configs_front : (keys : List BoardKey) → AreWithin keys (length configs)
      → AllByRecursion (λ (key : BoardKey). slice_get configs key.config ≡ slice_get all key.config) keys
  configs_front keys within =
      all_weaker (λ (key : BoardKey). key.config < length configs) _ (λ key few. sym (slice_front configs (config ∷ []) key.config few)) keys
      (recursion_from_All _ keys within)

  -- the items
  pub config_continues : (kept : List (List (Option Place))) (difference : Difference) (totals : Totals) (items : List Item) (moment : Moment)
      → IsDifference (length configs) count before after difference.gone_boards difference.new_boards
      → IsStocked configs entries kept totals items → moment.entries ≡ busy entries
      → Continues all kept difference moment items (items_with all kept difference.new_boards entries)
  config_continues kept difference totals items moment differs stocked works =
      continues configs all kept entries entries difference order order (differs.those_gone ∙ sym gone_same) differs.those_new stocked.holds
      (λ number place has now. refl) items
      (stocked.items
      ∙ configs_alike configs all (kept_of kept) (entry_fields (busy entries)) (keys_of (length configs) before)
      (configs_front (keys_of (length configs) before) (within_by before 0 (length configs) (length configs) (omega arith)))
      ∙ ap (naming_items all (kept_of kept) (entry_fields (busy entries))) (sym keys_same))
      moment works
