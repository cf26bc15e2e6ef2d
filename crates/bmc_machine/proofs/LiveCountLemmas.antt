-- Of the live items no more pass a test than the boards have exposes that give such.
use Rattle.std.proofs.Common.{◌≡◌, ℕ, ◌+◌, ◌≤◌, List, [], ◌∷◌, Bool, true, false, cond, ◌&&◌, Option, Some, None, filter, option_map}
use Rattle.std.proofs.Common.{refl, sym, ap, ◌∙◌, subst, arith, slice_get}
use Rattle.std.specs.Prelude.{length, sum_by, option_and_then}
use Rattle.std.specs.Option.{unwrap_or}
use Rattle.std.specs.List.{flat_map, cons_option, filter_map, enumerate_from}
use Rattle.std.proofs.lemmas.List.{length-append}
use Rattle.std.proofs.lemmas.List.Elements.{filter-append}
use Rattle.std.proofs.lemmas.List.Sums.{sum_by-cons}
use Rattle.bmc_base.specs.Places.{Place}
use Rattle.fru_area.specs.declared.field.Field.{Field}
use Rattle.tmpl.specs.Rendering.{rendered}
use Rattle.cfg_json.specs.Configs.{Config, counts_of}
use Rattle.cfg_json.specs.declared.counts.Counts.{Counts}
use Rattle.cfg_json.specs.declared.expose.Expose.{Expose}
use Rattle.cfg_json.specs.declared.item.Item.{Item}
use Rattle.cfg_json.specs.declared.item.ItemPart.{ItemPart}
use Rattle.inventory.specs.Items.{part_of, board_fields, rendered_item, rendered_items, board_items, items, is_live, live}
use Rattle.inventory.specs.Limits.{no_counts, board_counts}
use Rattle.inventory.specs.Lists.{board_of, board_list}
use Rattle.inventory.specs.declared.board.Board.{Board}
use Rattle.inventory.specs.declared.board.BoardKey.{BoardKey}
use Rattle.inventory.proofs.BoardLemmas.{and_second}
use Rattle.bmc_machine.specs.Boards.{board_keys, fields_at}
use Rattle.bmc_machine.specs.Histories.{Step, standing}
use Rattle.bmc_machine.specs.Indexes.{kept, boards_now, items_now, live_now}
use Rattle.bmc_machine.proofs.FewerLemmas.{filter_both, length_weaker}

-- of those that are kept no more pass a test
kept_fewer : {X : Type 0} (test keep : X → Bool) (xs : List X) → length (filter test (filter keep xs)) ≤ length (filter test xs)
kept_fewer {X} test keep xs =
    subst (λ (some : List X). length some ≤ length (filter test xs)) (sym (filter_both test keep xs))
    (length_weaker (λ x. keep x && test x) test (λ x. and_second (keep x) (test x)) xs)

-- whether there is a part, and it passes a test
abbrev pub passes : (ItemPart → Bool) → Option ItemPart → Bool
passes test made = unwrap_or (option_map test made) false

-- a test of parts that is passed only by what these exposes give, of which a configuration counts so many
pub record IsCounted (test : ItemPart → Bool) (exposed : Expose → Bool) (count : Counts → ℕ) : Type 0 where
  pub shows : (place : Option Place) (fields : Option (List Field)) (index : ℕ) (expose : Expose)
      → passes test (part_of place fields index expose.body) ≡ true → exposed expose ≡ true
  pub counts : (exposes : List Expose) → length (filter exposed exposes) ≡ count (counts_of exposes)

module _ (test : ItemPart → Bool) (exposed : Expose → Bool) (count : Counts → ℕ) (is : IsCounted test exposed count) where
  abbrev pub is_one : Item → Bool
  is_one item = test item.part

  -- of what is rendered at a board no more pass than its exposes give
  rendered_fewer : (board : Board) (fields : Option (List Field)) (start : ℕ) (exposes : List Expose)
      → length (filter is_one (filter_map (rendered_item board fields) (enumerate_from start exposes))) ≤ length (filter exposed exposes)
  rendered_fewer board fields start [] = omega arith
  rendered_fewer board fields start (expose ∷ exposes) =
      by (rendered board.key.place fields board.index expose.name) (part_of board.key.place fields board.index expose.body) (exposed expose)
      (is.shows board.key.place fields board.index expose) (rendered_fewer board fields (start + 1) exposes)
    where
      later : List Item
      later = filter_map (rendered_item board fields) (enumerate_from (start + 1) exposes)

      item : List ℕ → ItemPart → Item
      item name part = record {
        id = record { config = board.key.config; place = board.key.place; expose = start };
        name = name;
        part = part;
      }

      few : List Item
      few = filter is_one later

      many : List Expose
      many = filter exposed exposes

      one : (name : List ℕ) (part : ItemPart) (passed given : Bool) → (passed ≡ true → given ≡ true) → length few ≤ length many
          → length (cond passed (item name part ∷ few) few) ≤ length (cond given (expose ∷ many) many)
      one name part true true shows rest = omega (arith, rest)
      one name part true false shows rest = let never : false ≡ true = shows refl in absurd (cc)
      one name part false true shows rest = omega (arith, rest)
      one name part false false shows rest = rest

      none : (given : Bool) → length few ≤ length many → length few ≤ length (cond given (expose ∷ many) many)
      none true rest = omega (arith, rest)
      none false rest = rest

      by : (name : Option (List ℕ)) (part : Option ItemPart) (given : Bool) → (passes test part ≡ true → given ≡ true) → length few ≤ length many
          → length (filter is_one (cons_option (option_and_then (λ name. option_map (item name) part) name) later))
          ≤ length (cond given (expose ∷ many) many)
      by None part given shows rest = none given rest
      by (Some name) None given shows rest = none given rest
      by (Some name) (Some part) given shows rest = one name part (test part) given shows rest

  -- of what a board exposes no more pass than it has exposes that give such
  board_fewer : (configs : List Config) (fields_in : Place → Option (List Field)) (board : Board)
      → length (filter is_one (board_items configs fields_in board)) ≤ count (board_counts configs board.key)
  board_fewer configs fields_in board = by (slice_get configs board.key.config)
    where
      fields : Option (List Field)
      fields = board_fields fields_in board

      by : (config : Option Config)
          → length (filter is_one (rendered_items board fields (unwrap_or (option_map (λ (config : Config). config.exposes) config) [])))
          ≤ count (unwrap_or (option_map (λ (config : Config). counts_of config.exposes) config) no_counts)
      by None = omega arith
      by (Some config) =
          subst (λ (n : ℕ). length (filter is_one (rendered_items board fields config.exposes)) ≤ n) (is.counts config.exposes)
          (rendered_fewer board fields 0 config.exposes)

  boards_fewer : (configs : List Config) (fields_in : Place → Option (List Field)) (kept : ℕ → List (Option Place)) (keys : List BoardKey)
      → length (filter is_one (flat_map (board_items configs fields_in) (board_list kept keys)))
      ≤ sum_by (λ (key : BoardKey). count (board_counts configs key)) keys
  boards_fewer configs fields_in kept [] = omega arith
  boards_fewer configs fields_in kept (key ∷ keys) =
      let first = board_fewer configs fields_in (board_of kept key) in
      let rest = boards_fewer configs fields_in kept keys in
      let apart = ap length (filter-append is_one (board_items configs fields_in (board_of kept key))
      (flat_map (board_items configs fields_in) (board_list kept keys)))
      ∙ length-append (filter is_one (board_items configs fields_in (board_of kept key)))
      (filter is_one (flat_map (board_items configs fields_in) (board_list kept keys))) in
      let sum = sum_by-cons (λ (key : BoardKey). count (board_counts configs key)) key keys in
      omega (arith, first, rest, apart, sum)

  -- of the live items no more pass than the boards have exposes that give such
  pub live_fewer : (past : List Step) → length (filter is_one (live_now past))
      ≤ sum_by (λ (key : BoardKey). count (board_counts (standing past).configs key)) (board_keys (standing past))
  unfolding live_now live items_now items boards_now
  live_fewer past =
      let all = boards_fewer (standing past).configs (fields_at (standing past).frus) (kept past) (board_keys (standing past)) in
      let fewer = kept_fewer is_one (is_live (items_now past)) (items_now past) in
      omega (arith, all, fewer)
