-- Items of valid configurations are valid.
use Rattle.std.proofs.Common.{◌≡◌, ℕ, suc, ◌+◌, ◌≤◌, List, [], ◌∷◌, ◌++◌, length, Option, Some, None, option_and_then, option_map, option_to_list}
use Rattle.std.proofs.Common.{refl, sym, ap, subst}
use Rattle.std.specs.Prelude.{IfSome}
use Rattle.std.specs.List.{All, AllByRecursion, filter_map, cons_option, enumerate_from}
use Rattle.std.proofs.lemmas.List.Elements.{All-nil, All-cons, All-head, All-tail, All-same, All-append, All-push, All-filter}
use Rattle.bmc_base.specs.Places.{Place}
use Rattle.fru_area.specs.declared.field.Field.{Field}
use Rattle.tmpl.specs.Rendering.{rendered}
use Rattle.cfg_json.specs.Configs.{Config, most_names, IsValidBody, IsValidConfig, IsValidControl, IsValidExpose}
use Rattle.cfg_json.specs.declared.expose.ControlPart.{ControlPart}
use Rattle.cfg_json.specs.declared.expose.Expose.{Expose}
use Rattle.cfg_json.specs.declared.expose.Body.{Body}
use Rattle.cfg_json.specs.declared.expose.Body.TheVariants.{Sensor, Fan, Zone, Control, Mux, Passive}
use Rattle.cfg_json.specs.declared.item.ControlItem.{ControlItem}
use Rattle.cfg_json.specs.declared.item.Item.{Item}
use Rattle.cfg_json.specs.declared.item.ItemPart.{ItemPart}
use Rattle.cfg_json.specs.declared.item.ItemPart.TheVariants as parts
use Rattle.inventory.specs.declared.board.Board.{Board}
use Rattle.inventory.specs.Items.{control_at, names_at, part_of, rendered_item, IsValidControlItem, IsValidPart, IsValidItem}
use Rattle.inventory.specs.Items.{is_live, live, items_less}
use Rattle.inventory.specs.Shown.{items_of, AreShown, IsShown}
use Rattle.inventory.specs.declared.shown.Shown.{Shown}

-- ---- an item

module _ (place : Option Place) (fields : Option (List Field)) (index : ℕ) where
  -- there are as many names as templates
  names_count : (templates : List (List ℕ)) → IfSome (names_at place fields index templates) (λ names. length names ≡ length templates)
  names_count [] = refl
  names_count (template ∷ templates) =
      by (rendered place fields index template) (names_at place fields index templates) (names_count templates)
    where
      by : (name : Option (List ℕ)) (names : Option (List (List ℕ))) → IfSome names (λ names. length names ≡ length templates)
          → IfSome (option_and_then (λ name. option_map (λ names. name ∷ names) names) name) (λ names. length names ≡ suc (length templates))
      by None names is = tt
      by (Some name) None is = tt
      by (Some name) (Some names) is = ap suc is

  control_valid : (part : ControlPart) → IsValidControl part → IfSome (control_at place fields index part) IsValidControlItem
  control_valid part valid =
      by (rendered place fields index part.zone) (names_at place fields index part.inputs) (names_at place fields index part.outputs)
      (names_count part.inputs) (names_count part.outputs)
    where
      control : List ℕ → List (List ℕ) → List (List ℕ) → ControlItem
      control zone inputs outputs = record { setting = part.setting; zone = zone; inputs = inputs; outputs = outputs }

      by : (zone : Option (List ℕ)) (inputs outputs : Option (List (List ℕ))) → IfSome inputs (λ names. length names ≡ length part.inputs)
          → IfSome outputs (λ names. length names ≡ length part.outputs)
          → IfSome (option_and_then (λ zone. option_and_then (λ inputs. option_map (control zone inputs) outputs) inputs) zone) IsValidControlItem
      by None inputs outputs all also = tt
      by (Some zone) None outputs all also = tt
      by (Some zone) (Some inputs) None all also = tt
      by (Some zone) (Some inputs) (Some outputs) all also = record {
        setting = valid.setting;
        inputs = few (length inputs) (length part.inputs) all valid.inputs;
        outputs = few (length outputs) (length part.outputs) also valid.outputs;
      }
        where
          few : (n count : ℕ) → n ≡ count → count ≤ most_names → n ≤ most_names
          few n count is small = subst (λ (each : ℕ). each ≤ most_names) (sym is) small

  part_valid : (body : Body) → IsValidBody body → IfSome (part_of place fields index body) IsValidPart
  part_valid (Sensor part) valid = valid
  part_valid Fan valid = tt
  part_valid (Zone setting) valid = valid
  part_valid (Control part) valid = by (control_at place fields index part) (control_valid part valid)
    where
      by : (control : Option ControlItem) → IfSome control IsValidControlItem → IfSome (option_map parts.Control control) IsValidPart
      by None is = tt
      by (Some control) is = is
  part_valid (Mux part) valid = tt
  part_valid Passive valid = tt

item_valid : (board : Board) (fields : Option (List Field)) (position : ℕ) (expose : Expose) → IsValidExpose expose
    → IfSome (rendered_item board fields (position, expose)) IsValidItem
item_valid board fields position expose valid =
    by (rendered board.key.place fields board.index expose.name) (part_of board.key.place fields board.index expose.body)
    (part_valid board.key.place fields board.index expose.body valid)
  where
    item : List ℕ → ItemPart → Item
    item name part = record {
      id = record { config = board.key.config; place = board.key.place; expose = position };
      name = name;
      part = part;
    }

    by : (name : Option (List ℕ)) (part : Option ItemPart) → IfSome part IsValidPart
        → IfSome (option_and_then (λ name. option_map (item name) part) name) IsValidItem
    by None part is = tt
    by (Some name) None is = tt
    by (Some name) (Some part) is = is

-- ---- the items of boards

pub rendered_valid : (board : Board) (fields : Option (List Field)) (from : ℕ) (exposes : List Expose) → All IsValidExpose exposes
    → All IsValidItem (filter_map (rendered_item board fields) (enumerate_from from exposes))
rendered_valid board fields from [] valid = All-nil IsValidItem
rendered_valid board fields from (expose ∷ exposes) valid =
    by (rendered_item board fields (from, expose)) _ (item_valid board fields from expose (All-head IsValidExpose expose exposes valid))
    (rendered_valid board fields (from + 1) exposes (All-tail IsValidExpose expose exposes valid))
  where
    by : (item : Option Item) (rest : List Item) → IfSome item IsValidItem → All IsValidItem rest → All IsValidItem (cons_option item rest)
    by None rest one later = later
    by (Some item) rest one later = All-cons IsValidItem item rest one later

-- ---- configurations with one more

pub plus_valid : (configs : List Config) (plus : Option Config) → All IsValidConfig configs → IfSome plus IsValidConfig
    → All IsValidConfig (configs ++ option_to_list plus)
plus_valid configs None valid one = All-append IsValidConfig configs [] valid (All-nil IsValidConfig)
plus_valid configs (Some config) valid one = All-push IsValidConfig configs config valid one

-- ---- the live items that are not elsewhere

pub less_valid : (items here there shown : List Item) → here ≡ live items → shown ≡ items_less here there → All IsValidItem items → All IsValidItem shown
unfolding live items_less
less_valid items here there shown here_is shown_is valid =
    All-same IsValidItem shown (items_less here there) shown_is
    (All-filter _ IsValidItem here (All-same IsValidItem here (live items) here_is (All-filter (is_live items) IsValidItem items valid)))

-- ---- boards with their items

each_valid : (boards : List Shown) → AllByRecursion IsShown boards → All IsValidItem (items_of boards)
each_valid [] shown = All-nil IsValidItem
each_valid (board ∷ boards) shown = All-append IsValidItem board.items.items (items_of boards) shown.0.valid (each_valid boards shown.1)

-- the live items of these boards that are not elsewhere
pub told_valid : (boards : List Shown) (there told : List Item) → AreShown boards → told ≡ items_less (live (items_of boards)) there → All IsValidItem told
told_valid boards there told shown told_is =
    less_valid (items_of boards) (live (items_of boards)) there told refl told_is (each_valid boards shown.each)
