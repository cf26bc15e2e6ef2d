-- Lists that grow by one element at a time.
use Rattle.std.proofs.Common.{◌≡◌, ℕ, ◌+◌, ◌<◌, List, [], ◌∷◌, ◌++◌, map, take, length, get_or, Bool, Option, Some, None, refl, ap, ap₂, sym, ◌∙◌, append_assoc}
use Rattle.std.proofs.Common.{append-nil, filter_map, slice_get, option_map}
use Rattle.std.specs.Option.{option_to_list}
use Rattle.std.specs.Option.{unwrap_or}
use Rattle.std.specs.List.{flat_map}
use Rattle.std.proofs.lemmas.List.{take_more, map-append}
use Rattle.std.proofs.lemmas.List.Elements.{filter_map-append}
use Rattle.std.proofs.lemmas.Grind.{flat_map-append}
use Rattle.bmc_base.specs.Places.{Place}
use Rattle.cfg_json.specs.Configs.{Config}
use Rattle.cfg_json.specs.declared.item.Item.{Item}
use Rattle.inventory.specs.Indexes.{index_in}
use Rattle.inventory.specs.declared.board.BoardKey.{BoardKey}
use Rattle.bmc_report.specs.declared.change.Change.{Change}
use Rattle.bmc_report.specs.declared.change.Change.TheVariants.{Board}
use Rattle.bmc_machine.specs.Changes.{board_change, item_change}

-- what each element adds
pub flat_map_one : {X Y : Type 0} (what : X → List Y) (xs : List X) (i : ℕ) (x : X) (so_far now added : List Y) → i < length xs → x ≡ get_or xs i x
    → what x ≡ added → so_far ≡ flat_map what (take i xs) → now ≡ so_far ++ added → now ≡ flat_map what (take (i + 1) xs)
flat_map_one {X} what xs i x so_far now added within is adds before grown =
    grown ∙ ap (λ (front : List _). front ++ added) before
    ∙ ap (λ (more : List _). flat_map what (take i xs) ++ more) (sym (append-nil (what x) ∙ adds))
    ∙ sym (flat_map-append what (take i xs) (x ∷ []))
    ∙ ap (λ (items : List X). flat_map what items) (sym (take_more xs i x within ∙ ap (λ (last : X). take i xs ++ last ∷ []) (sym is)))

-- a change more
pub change_more : (gone : Bool) (configs : List Config) (kept : ℕ → List (Option Place)) (keys : List BoardKey) (i : ℕ) (key : BoardKey) (config : Config)
    (start so_far now : List Change) → i < length keys → key ≡ get_or keys i key → Some config ≡ slice_get configs key.config
    → so_far ≡ start ++ map (board_change gone configs kept) (take i keys)
    → now ≡ so_far ++ Board gone config.name (index_in (kept key.config) key.place) key.place ∷ []
    → now ≡ start ++ map (board_change gone configs kept) (take (i + 1) keys)
change_more gone configs kept keys i key config start so_far now within is found before grown =
    let same : Board gone config.name (index_in (kept key.config) key.place) key.place ≡ board_change gone configs kept key =
    ap (λ (config : Option Config). Board gone (unwrap_or (option_map (λ config. config.name) config) [])
    (index_in (kept key.config) key.place) key.place) found in
    grown ∙ ap (λ (front : List Change). front ++ Board gone config.name (index_in (kept key.config) key.place) key.place ∷ []) before
    ∙ append_assoc start (map (board_change gone configs kept) (take i keys)) (Board gone config.name (index_in (kept key.config) key.place) key.place ∷ [])
    ∙ ap (λ (changes : List Change). start ++ changes)
    (ap (λ (change : Change). map (board_change gone configs kept) (take i keys) ++ change ∷ []) same
    ∙ sym (map-append (board_change gone configs kept) (take i keys) (key ∷ []))
    ∙ ap (map (board_change gone configs kept)) (sym (take_more keys i key within ∙ ap (λ (last : BoardKey). take i keys ++ last ∷ []) (sym is))))

-- what each element gives, if it gives anything
filter_map_single : {X Y : Type 0} (give : X → Option Y) (x : X) → filter_map give (x ∷ []) ≡ option_to_list (give x)
filter_map_single {Y} give x = by (give x)
  where
    by : (given : Option Y) → filter_map (λ (given : Option Y). given) (given ∷ []) ≡ option_to_list given
    by None = refl
    by (Some y) = refl

pub item_more : (gone : Bool) (items : List Item) (i : ℕ) (item : Item) (change : Option Change) (start so_far now : List Change) → i < length items
    → item ≡ get_or items i item → change ≡ item_change gone item → so_far ≡ start ++ filter_map (item_change gone) (take i items)
    → now ≡ so_far ++ option_to_list change → now ≡ start ++ filter_map (item_change gone) (take (i + 1) items)
item_more gone items i item change start so_far now within is given before grown =
    grown ∙ ap₂ (λ (front : List Change) (change : Option Change). front ++ option_to_list change) before given
    ∙ append_assoc start (filter_map give (take i items)) (option_to_list (give item))
    ∙ ap (λ (more : List Change). start ++ more)
    (ap (λ (more : List Change). filter_map give (take i items) ++ more) (sym (filter_map_single give item))
    ∙ sym (filter_map-append give (take i items) (item ∷ []))
    ∙ ap (filter_map give) (sym (take_more items i item within ∙ ap (λ (last : Item). take i items ++ last ∷ []) (sym is))))
  where
    give : Item → Option Change
    give = item_change gone
