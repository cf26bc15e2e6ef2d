-- The boards whose items may be live.
use Rattle.std.proofs.Common.{◌≡◌, ◌∙◌, ℕ, ◌+◌, Bool, true, false, not, cond, ◌||◌, List, [], ◌∷◌, ◌++◌, length, filter, Option, Some, None}
use Rattle.std.proofs.Common.{option_map, slice_get, refl, sym, ap, ap₂, subst, arith, inl, inr}
use Rattle.std.specs.Prelude.{◌==◌, ◌&&◌, bytes_eq, find, filter_map, option_and_then, IfSome}
use Rattle.std.specs.Option.{is_some, option_eq, option_cmp, unwrap_or}
use Rattle.std.specs.Ordering.{is_eq}
use Rattle.std.specs.declared.cmp.Ordering.TheVariants.{Less}
use Rattle.std.specs.Cmp.{IsTotalOrder}
use Rattle.std.specs.Cmp.Lexicographic.{options_total}
use Rattle.std.specs.List.{AllByRecursion, cons_option, enumerate_from}
use Rattle.std.specs.List.Sorted.{IsStrictlySortedBy}
use Rattle.std.proofs.lemmas.Bool.{eqb-true, or_cases, or_left, or_right}
use Rattle.std.proofs.lemmas.List.Elements.{filter-append}
use Rattle.bmc_base.specs.Places.{Place, place_cmp, place_eq}
use Rattle.fru_area.specs.declared.field.Field.{Field}
use Rattle.match_rows.proofs.PlacesLemmas.{place_total}
use Rattle.tmpl.specs.Rendering.{rendered}
use Rattle.ctl_face.specs.Kinds.{kind_eq, kind_of}
use Rattle.ctl_face.specs.declared.kind.Kind.{Kind}
use Rattle.ctl_face.specs.declared.kind.Kind.TheVariants.{Pid, Stepwise}
use Rattle.cfg_json.specs.Configs.{Config, counts_of, is_fan, is_pid, is_sensor, is_stepwise, is_zone}
use Rattle.cfg_json.specs.declared.expose.Body.{Body}
use Rattle.cfg_json.specs.declared.expose.Body.TheVariants as bodies
use Rattle.cfg_json.specs.declared.expose.Expose.{Expose}
use Rattle.cfg_json.specs.declared.item.ControlItem.{ControlItem}
use Rattle.cfg_json.specs.declared.item.Item.{Item}
use Rattle.cfg_json.specs.declared.item.ItemPart.{ItemPart}
use Rattle.cfg_json.specs.declared.item.ItemPart.TheVariants as parts
use Rattle.inventory.specs.Boards.{has_board}
use Rattle.inventory.specs.Items.{board_fields, board_items, control_at, exposes_of, family_eq, family_of, holder, is_item, is_live, items, live, part_of}
use Rattle.inventory.specs.Items.{rendered_item, rendered_items, zone_of}
use Rattle.inventory.specs.Limits.{no_counts}
use Rattle.inventory.specs.Moments.{AreAscending}
use Rattle.inventory.specs.Naming.{all_named, has_naming, is_naming, may_be_live, named_item, naming}
use Rattle.inventory.specs.declared.board.Board.{Board}
use Rattle.inventory.specs.declared.family.Family.{Family}
use Rattle.inventory.specs.declared.family.Family.TheVariants as families
use Rattle.inventory.proofs.BoardLemmas.{board_itself, board_same}
use Rattle.inventory.proofs.BoardsLemmas.{board_cmp_eq}

-- ---- items that may be live

-- a part of a family, or of a controller
abbrev pub has_kin : ItemPart → Bool
has_kin part = is_some (family_of part) || is_some (zone_of part)

abbrev pub is_kin : Item → Bool
is_kin item = has_kin item.part

-- elements that pass no test of interest are left out
module _ {X : Type 0} (test keep : X → Bool) (fails : (x : X) → keep x ≡ false → test x ≡ false) where
  find_kept : (xs : List X) → find test (filter keep xs) ≡ find test xs
  find_kept [] = refl
  find_kept (first ∷ xs) = by (keep first) refl (find_kept xs)
    where
      by : (kept : Bool) → keep first ≡ kept → find test (filter keep xs) ≡ find test xs
          → find test (cond kept (first ∷ filter keep xs) (filter keep xs)) ≡ cond (test first) (Some first) (find test xs)
      by true is rest = ap (cond (test first) (Some first)) rest
      by false is rest = rest ∙ sym (ap (λ (passes : Bool). cond passes (Some first) (find test xs)) (fails first is))

  filter_kept : (xs : List X) → filter test (filter keep xs) ≡ filter test xs
  filter_kept [] = refl
  filter_kept (first ∷ xs) = by (keep first) refl (filter_kept xs)
    where
      by : (kept : Bool) → keep first ≡ kept → filter test (filter keep xs) ≡ filter test xs
          → filter test (cond kept (first ∷ filter keep xs) (filter keep xs)) ≡ cond (test first) (first ∷ filter test xs) (filter test xs)
      by true is rest = ap (λ (later : List X). cond (test first) (first ∷ later) later) rest
      by false is rest = rest ∙ sym (ap (λ (passes : Bool). cond passes (first ∷ filter test xs) (filter test xs)) (fails first is))

-- of no family and in no zone
record IsNoKin (kin : Option Family) (within : Option (List ℕ)) : Type 0 where
  family : kin ≡ None
  zone : within ≡ None

no_kin_by : (family : Option Family) (zone : Option (List ℕ)) → (is_some family || is_some zone) ≡ false → IsNoKin family zone
no_kin_by None None none = record { family = refl; zone = refl }
no_kin_by None (Some _) none = absurd (cc)
no_kin_by (Some _) _ none = absurd (cc)

-- whether an item holds its name, where it is of such a family and the holders of names are these
abbrev holds_by : (Family → List ℕ → Option Item) → Item → Option Family → Bool
holds_by held item family = unwrap_or (option_map (λ family. is_item item.id (held family item.name)) family) false

-- whether the name of its zone is held, where it is in such a zone
abbrev zone_by : (Family → List ℕ → Option Item) → Option (List ℕ) → Bool
zone_by held zone = unwrap_or (option_map (λ zone. is_some (held families.Zone zone)) zone) false

-- other items hold no name, and are in no zone
module _ (all : List Item) where
  holder_kin : (family : Family) (name : List ℕ) → holder (filter is_kin all) family name ≡ holder all family name
  holder_kin family name =
      find_kept _ is_kin (λ item none.
      ap (λ (each : Option Family). option_eq family_eq each (Some family) && bytes_eq item.name name)
      (no_kin_by (family_of item.part) (zone_of item.part) none).family) all

  never_live : (item : Item) → is_kin item ≡ false → is_live all item ≡ false
  never_live item none =
      let no = no_kin_by (family_of item.part) (zone_of item.part) none in
      λ i. holds_by (holder all) item (no.family i) || zone_by (holder all) (no.zone i)

  live_kin : live (filter is_kin all) ≡ live all
  unfolding live
  live_kin =
      (λ i. filter (λ (item : Item).
      holds_by (λ family name. holder_kin family name i) item (family_of item.part)
      || zone_by (λ family name. holder_kin family name i) (zone_of item.part)) (filter is_kin all))
      ∙ filter_kept (is_live all) is_kin never_live all

-- ---- the exposes whose items may be live

-- what a body is at a board is of a family, or a controller, where it may be live
kin_of_body : (place : Option Place) (fields : Option (List Field)) (index : ℕ) (body : Body)
    → IfSome (part_of place fields index body) (λ part. has_kin part ≡ may_be_live body)
kin_of_body place fields index (bodies.Sensor part) = refl
kin_of_body place fields index bodies.Fan = refl
kin_of_body place fields index (bodies.Zone setting) = refl
kin_of_body place fields index (bodies.Mux part) = refl
kin_of_body place fields index bodies.Passive = refl
kin_of_body place fields index (bodies.Control part) = by (control_at place fields index part)
  where
    by : (control : Option ControlItem) → IfSome (option_map parts.Control control) (λ part. has_kin part ≡ true)
    by None = tt
    by (Some control) = refl

-- what may be live among the items of a board is of a family, or a controller
module _ (board : Board) (fields : Option (List Field)) where
  pub named_are_kin : (from : ℕ) (exposes : List Expose) → filter_map (named_item board fields) (enumerate_from from exposes)
      ≡ filter is_kin (filter_map (rendered_item board fields) (enumerate_from from exposes))
  named_are_kin from [] = refl
  named_are_kin from (expose ∷ exposes) =
      by (rendered board.key.place fields board.index expose.name) (part_of board.key.place fields board.index expose.body) (may_be_live expose.body)
      (kin_of_body board.key.place fields board.index expose.body) (named_are_kin (from + 1) exposes)
    where
      item : List ℕ → ItemPart → Item
      item name part = record {
        id = record { config = board.key.config; place = board.key.place; expose = from };
        name = name;
        part = part;
      }

      made : Option (List ℕ) → Option ItemPart → Option Item
      made name part = option_and_then (λ name. option_map (item name) part) name

      named : List Item
      named = filter_map (named_item board fields) (enumerate_from (from + 1) exposes)

      rest : List Item
      rest = filter_map (rendered_item board fields) (enumerate_from (from + 1) exposes)

      by : (name : Option (List ℕ)) (part : Option ItemPart) (may : Bool) → IfSome part (λ part. has_kin part ≡ may) → named ≡ filter is_kin rest
          → cons_option (cond may (made name part) None) named ≡ filter is_kin (cons_option (made name part) rest)
      by None part true is later = later
      by None part false is later = later
      by (Some name) None true is later = later
      by (Some name) None false is later = later
      by (Some name) (Some part) true is later =
          ap (λ (more : List Item). item name part ∷ more) later
          ∙ sym (ap (λ (kin : Bool). cond kin (item name part ∷ filter is_kin rest) (filter is_kin rest)) is)
      by (Some name) (Some part) false is later =
          later ∙ sym (ap (λ (kin : Bool). cond kin (item name part ∷ filter is_kin rest) (filter is_kin rest)) is)

-- ---- items of boards that are not naming

-- whether an expose is of a family, or a controller
abbrev is_named : Expose → Bool
is_named expose = is_sensor expose || (is_zone expose || (is_fan expose || (is_pid expose || is_stepwise expose)))

-- what any other is at a board is not of them
idle_part : (place : Option Place) (fields : Option (List Field)) (index : ℕ) (expose : Expose) → is_named expose ≡ false
    → IfSome (part_of place fields index expose.body) (λ part. has_kin part ≡ false)
idle_part place fields index expose = by expose.body
  where
    no_kind : (kind : Kind) → (kind_eq Pid kind || kind_eq Stepwise kind) ≡ false → ⊥
    no_kind Pid none = absurd (cc)
    no_kind Stepwise none = absurd (cc)

    by : (body : Body) → is_named (record expose { body = body }) ≡ false → IfSome (part_of place fields index body) (λ part. has_kin part ≡ false)
    by (bodies.Sensor part) none = absurd (cc)
    by bodies.Fan none = absurd (cc)
    by (bodies.Zone setting) none = absurd (cc)
    by (bodies.Control part) none = absurd (no_kind (kind_of part.setting) none)
    by (bodies.Mux part) none = refl
    by bodies.Passive none = refl

-- where none passes a test, each fails it
all_fail : {X : Type 0} (test : X → Bool) (xs : List X) → length (filter test xs) ≡ 0 → AllByRecursion (λ (each : X). test each ≡ false) xs
all_fail test [] none = tt
all_fail {X} test (first ∷ xs) none = by (test first) refl none (all_fail test xs)
  where
    by : (is : Bool) → test first ≡ is → length (cond is (first ∷ filter test xs) (filter test xs)) ≡ 0
        → (length (filter test xs) ≡ 0 → AllByRecursion (λ (each : X). test each ≡ false) xs)
        → AllByRecursion (λ (each : X). test each ≡ false) (first ∷ xs)
    by true is none rest = absurd (omega (arith, none))
    by false is none rest = (is, rest none)

-- what fails both tests fails either
both_fail : {X : Type 0} (one other : X → Bool) (xs : List X) → AllByRecursion (λ (each : X). one each ≡ false) xs
    → AllByRecursion (λ (each : X). other each ≡ false) xs → AllByRecursion (λ (each : X). (one each || other each) ≡ false) xs
both_fail one other [] fails also = tt
both_fail one other (first ∷ xs) fails also = (ap₂ (λ (a b : Bool). a || b) fails.0 also.0, both_fail one other xs fails.1 also.1)

module _ (board : Board) (fields : Option (List Field)) where
  no_kin : (from : ℕ) (exposes : List Expose) → AllByRecursion (λ (each : Expose). is_named each ≡ false) exposes
      → filter is_kin (filter_map (rendered_item board fields) (enumerate_from from exposes)) ≡ []
  no_kin from [] none = refl
  no_kin from (expose ∷ exposes) none =
      by (rendered board.key.place fields board.index expose.name) (part_of board.key.place fields board.index expose.body)
      (idle_part board.key.place fields board.index expose none.0) (no_kin (from + 1) exposes none.1)
    where
      rest : List Item
      rest = filter_map (rendered_item board fields) (enumerate_from (from + 1) exposes)

      item : List ℕ → ItemPart → Item
      item name part = record {
        id = record { config = board.key.config; place = board.key.place; expose = from };
        name = name;
        part = part;
      }

      by : (name : Option (List ℕ)) (part : Option ItemPart) → IfSome part (λ part. has_kin part ≡ false) → filter is_kin rest ≡ []
          → filter is_kin (cons_option (option_and_then (λ name. option_map (item name) part) name) rest) ≡ []
      by None part idle later = later
      by (Some name) None idle later = later
      by (Some name) (Some part) idle later = ap₂ (λ (kin : Bool) (more : List Item). cond kin (item name part ∷ more) more) idle later

no_count : (count : ℕ) → not (count == 0) ≡ false → count ≡ 0
no_count count none = by (count == 0) refl none
  where
    by : (is : Bool) → (count == 0) ≡ is → not is ≡ false → count ≡ 0
    by true is none = eqb-true count 0 is
    by false is none = absurd (cc)

-- where none of a family is counted and no controller, no expose is one
none_named : (exposes : List Expose) → has_naming (counts_of exposes) ≡ false → AllByRecursion (λ (each : Expose). is_named each ≡ false) exposes
none_named exposes none =
    both_fail is_sensor _ exposes (all_fail is_sensor exposes (omega (arith, all)))
    (both_fail is_zone _ exposes (all_fail is_zone exposes (omega (arith, all)))
    (both_fail is_fan _ exposes (all_fail is_fan exposes (omega (arith, all)))
    (both_fail is_pid is_stepwise exposes (all_fail is_pid exposes (omega (arith, all))) (all_fail is_stepwise exposes (omega (arith, all))))))
  where
    all : length (filter is_sensor exposes) + length (filter is_zone exposes) + length (filter is_fan exposes) + length (filter is_pid exposes)
        + length (filter is_stepwise exposes)
        ≡ 0
    all = no_count _ none

module _ (configs : List Config) (fields_at : Place → Option (List Field)) where
  idle_items : (board : Board) → is_naming configs board.key ≡ false → filter is_kin (board_items configs fields_at board) ≡ []
  idle_items board idle = by (slice_get configs board.key.config) idle
    where
      by : (config : Option Config)
          → has_naming (unwrap_or (option_map (λ (config : Config). counts_of config.exposes) config) no_counts) ≡ false
          → filter is_kin (rendered_items board (board_fields fields_at board)
          (unwrap_or (option_map (λ (config : Config). config.exposes) config) [])) ≡ []
      by None idle = refl
      by (Some config) idle =
          no_kin board (board_fields fields_at board) 0 config.exposes (none_named config.exposes idle)

  -- the items that may be live are those of the naming boards
  kin_items : (boards : List Board) → filter is_kin (items configs fields_at (naming configs boards)) ≡ filter is_kin (items configs fields_at boards)
  unfolding items
  kin_items [] = refl
  kin_items (board ∷ boards) = by (is_naming configs board.key) refl (kin_items boards)
    where
      by : (is : Bool) → is_naming configs board.key ≡ is
          → filter is_kin (items configs fields_at (naming configs boards)) ≡ filter is_kin (items configs fields_at boards)
          → filter is_kin (items configs fields_at (cond is (board ∷ naming configs boards) (naming configs boards)))
          ≡ filter is_kin (board_items configs fields_at board ++ items configs fields_at boards)
      by true is rest =
          filter-append is_kin (board_items configs fields_at board) (items configs fields_at (naming configs boards))
          ∙ ap (λ (later : List Item). filter is_kin (board_items configs fields_at board) ++ later) rest
          ∙ sym (filter-append is_kin (board_items configs fields_at board) (items configs fields_at boards))
      by false is rest =
          rest
          ∙ sym (filter-append is_kin (board_items configs fields_at board) (items configs fields_at boards)
          ∙ ap (λ (first : List Item). first ++ filter is_kin (items configs fields_at boards)) (idle_items board is))

  pub named_kin : (boards : List Board) → all_named configs fields_at boards ≡ filter is_kin (items configs fields_at boards)
  unfolding items
  named_kin [] = refl
  named_kin (board ∷ boards) =
      ap₂ (λ (front back : List Item). front ++ back)
      (named_are_kin board (board_fields fields_at board) 0 (exposes_of configs board.key.config)) (named_kin boards)
      ∙ sym (filter-append is_kin (board_items configs fields_at board) (items configs fields_at boards))

  -- the items that may be live of the naming boards are those of all boards
  naming_kin : (boards : List Board) → all_named configs fields_at (naming configs boards) ≡ filter is_kin (items configs fields_at boards)
  naming_kin boards = named_kin (naming configs boards) ∙ kin_items boards

-- they are live just as they are among all
pub naming_live : (configs : List Config) (fields_at : Place → Option (List Field)) (boards : List Board)
    → live (all_named configs fields_at (naming configs boards)) ≡ live (items configs fields_at boards)
naming_live configs fields_at boards = ap live (naming_kin configs fields_at boards) ∙ live_kin (items configs fields_at boards)

-- a name is held among them by the item that holds it among all
pub naming_holder : (configs : List Config) (fields_at : Place → Option (List Field)) (boards : List Board) (family : Family) (name : List ℕ)
    → holder (all_named configs fields_at (naming configs boards)) family name ≡ holder (items configs fields_at boards) family name
naming_holder configs fields_at boards family name =
    ap (λ (all : List Item). holder all family name) (naming_kin configs fields_at boards) ∙ holder_kin (items configs fields_at boards) family name

-- and an item is live among them where it is among all
pub naming_is_live : (configs : List Config) (fields_at : Place → Option (List Field)) (boards : List Board) (item : Item)
    → is_live (all_named configs fields_at (naming configs boards)) item ≡ is_live (items configs fields_at boards) item
naming_is_live configs fields_at boards item =
    λ i. unwrap_or (option_map (λ family. is_item item.id (naming_holder configs fields_at boards family item.name i)) (family_of item.part)) false
    || unwrap_or (option_map (λ zone. is_some (naming_holder configs fields_at boards families.Zone zone i)) (zone_of item.part)) false

-- ---- boards that ascend

boards_total : IsTotalOrder (option_cmp place_cmp)
boards_total = options_total place_total

-- what holds of each board holds of one among them
all_has : (Fact : Option Place → Type 0) (boards : List (Option Place)) (board : Option Place) → AllByRecursion Fact boards
    → has_board boards board ≡ true → Fact board
all_has Fact [] board facts has = absurd (cc)
all_has Fact (first ∷ boards) board facts has =
    elim (or_cases (option_eq place_eq board first) (has_board boards board) has) [
      | inl same ↦ subst Fact (sym (board_same board first same)) facts.0
      | inr later ↦ all_has Fact boards board facts.1 later
    ]

not_itself : (board : Option Place) → option_cmp place_cmp board board ≡ Less → ⊥
not_itself board before =
    let is : is_eq (option_cmp place_cmp board board) ≡ true = board_cmp_eq board board ∙ board_itself board in
    let isnt : is_eq (option_cmp place_cmp board board) ≡ false = ap is_eq before in
    absurd (cc)

abbrev AreIn : List (Option Place) → List (Option Place) → Type 0
AreIn one other = (board : Option Place) → has_board one board ≡ true → has_board other board ≡ true

first_in : (board : Option Place) (boards : List (Option Place)) → has_board (board ∷ boards) board ≡ true
first_in board boards = or_left _ _ (board_itself board)

-- of two lists that ascend and have the same boards, the first boards are the same
first_same : (one_first other_first : Option Place) (one other : List (Option Place)) → AreAscending (one_first ∷ one) → AreAscending (other_first ∷ other)
    → has_board (other_first ∷ other) one_first ≡ true → has_board (one_first ∷ one) other_first ≡ true → one_first ≡ other_first
unfolding IsStrictlySortedBy
first_same one_first other_first one other ascend other_ascend one_in other_in =
    elim (or_cases (option_eq place_eq one_first other_first) (has_board other one_first) one_in) [
      | inl same ↦ board_same one_first other_first same
      | inr later ↦ elim (or_cases (option_eq place_eq other_first one_first) (has_board one other_first) other_in) [
        | inl same ↦ sym (board_same other_first one_first same)
        | inr behind ↦ absurd (not_itself one_first (boards_total.trans one_first other_first one_first
            (all_has (λ board. option_cmp place_cmp one_first board ≡ Less) one other_first ascend.0 behind)
            (all_has (λ board. option_cmp place_cmp other_first board ≡ Less) other one_first other_ascend.0 later)))
      ]
    ]

-- what is behind the first board is in what is behind it in the other list
rest_in : (first : Option Place) (one other : List (Option Place)) → AreAscending (first ∷ one) → AreIn (first ∷ one) (first ∷ other) → AreIn one other
unfolding IsStrictlySortedBy
rest_in first one other ascend all board has =
    elim (or_cases (option_eq place_eq board first) (has_board other board) (all board (or_right _ _ has))) [
      | inl same ↦ absurd (not_itself first (subst (λ (each : Option Place). option_cmp place_cmp first each ≡ Less) (board_same board first same)
          (all_has (λ each. option_cmp place_cmp first each ≡ Less) one board ascend.0 has)))
      | inr later ↦ later
    ]

-- lists that ascend and have the same boards are the same
pub lists_same : (one other : List (Option Place)) → AreAscending one → AreAscending other → AreIn one other → AreIn other one → one ≡ other
unfolding IsStrictlySortedBy
lists_same [] [] ascend other_ascend one_in other_in = refl
lists_same [] (second ∷ other) ascend other_ascend one_in other_in = absurd (let has = other_in second (first_in second other) in cc)
lists_same (first ∷ one) [] ascend other_ascend one_in other_in = absurd (let has = one_in first (first_in first one) in cc)
lists_same (first ∷ one) (second ∷ other) ascend other_ascend one_in other_in =
    let same : first ≡ second =
    first_same first second one other ascend other_ascend (one_in first (first_in first one)) (other_in second (first_in second other)) in
    ap₂ (λ (board : Option Place) (boards : List (Option Place)). board ∷ boards) same
    (lists_same one other ascend.1 other_ascend.1
    (rest_in first one other ascend (subst (λ (each : Option Place). AreIn (first ∷ one) (each ∷ other)) (sym same) one_in))
    (rest_in second other one other_ascend (subst (λ (each : Option Place). AreIn (second ∷ other) (each ∷ one)) same other_in)))
