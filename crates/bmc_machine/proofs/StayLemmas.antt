-- An item of a history and one of the history with a step more are one item where they have one id.
use Rattle.std.proofs.Common.{◌≡◌, List, [], ◌∷◌, true, Option, Some, refl, sym, ap, ◌∙◌, slice_get, option_map}
use Rattle.std.specs.Prelude.{ℕ, option_and_then}
use Rattle.std.specs.Option.{unwrap_or}
use Rattle.std.specs.List.{Contains}
use Rattle.std.proofs.lemmas.Bool.{or_left}
use Rattle.bmc_base.specs.Places.{Place}
use Rattle.cfg_json.specs.Configs.{Config}
use Rattle.cfg_json.specs.declared.expose.Expose.{Expose}
use Rattle.cfg_json.specs.declared.item.Item.{Item}
use Rattle.cfg_json.specs.declared.item.ItemId.{ItemId}
use Rattle.inventory.specs.Boards.{board_places, boards_in, has_board}
use Rattle.inventory.specs.Indexes.{index_in}
use Rattle.inventory.specs.Items.{rendered_item}
use Rattle.inventory.specs.Orders.{exposer}
use Rattle.bmc_machine.specs.Standings.{Standing}
use Rattle.bmc_machine.specs.Boards.{boards, fields_at}
use Rattle.bmc_machine.specs.Histories.{Step, after_step, standing}
use Rattle.bmc_machine.specs.Indexes.{had_board, kept, items_now}
use Rattle.bmc_machine.specs.Refusals.{IsLegalStep, IsLegal}
use Rattle.bmc_machine.proofs.IndexLemmas.{index_stays}
use Rattle.bmc_machine.proofs.MadeLemmas.{item_at, IsItem, contained}
use Rattle.bmc_machine.proofs.PresentLemmas.{config_stays, fields_stay}

had_now : (past : List Step) (number : ℕ) (place : Option Place) → has_board (boards (standing past) number) place ≡ true
    → had_board past number place ≡ true
unfolding standing boards boards_in board_places
had_now [] number place has = has
had_now (step ∷ past) number place has = or_left _ _ has

standing_step : (past : List Step) (step : Step) → standing (step ∷ past) ≡ after_step (standing past) step
unfolding standing
standing_step past step = refl

module _ (past : List Step) (step : Step) (legal : IsLegalStep past step) where
  -- where its board is there before and after the step, an id names the same
  same_at : (id : ItemId) → has_board (boards (standing past) id.config) id.place ≡ true
      → has_board (boards (standing (step ∷ past)) id.config) id.place ≡ true → item_at (step ∷ past) id ≡ item_at past id
  same_at id has has_then =
      λ i. option_and_then
      (λ (expose : Expose). rendered_item (record { key = exposer id; index = index i }) (fields i) (id.expose, expose))
      (slice_get (unwrap_or (option_map (λ (config : Config). config.exposes) (config i)) []) id.expose)
    where
      config : slice_get (standing (step ∷ past)).configs id.config ≡ slice_get (standing past).configs id.config
      config =
          ap (λ (now : Standing). slice_get now.configs id.config) (standing_step past step)
          ∙ config_stays (standing past) step id.config id.place has

      fields : option_and_then (fields_at (standing (step ∷ past)).frus) id.place ≡ option_and_then (fields_at (standing past).frus) id.place
      fields =
          ap (λ (now : Standing). option_and_then (fields_at now.frus) id.place) (standing_step past step)
          ∙ fields_stay past step id.config id.place legal has
          (ap (λ (now : Standing). has_board (boards now id.config) id.place) (sym (standing_step past step)) ∙ has_then)

      index : index_in (kept (step ∷ past) id.config) id.place ≡ index_in (kept past id.config) id.place
      index = index_stays (step ∷ []) past id.config id.place (had_now past id.config id.place has)

  pub same_item : (item other : Item) → IsItem past item → IsItem (step ∷ past) other → item.id ≡ other.id → item ≡ other
  same_item item other is is_other same =
      let has_then : has_board (boards (standing (step ∷ past)) item.id.config) item.id.place ≡ true =
      ap (λ (id : ItemId). has_board (boards (standing (step ∷ past)) id.config) id.place) same ∙ is_other.board in
      let both : Some item ≡ Some other =
      sym is.made ∙ sym (same_at item.id is.board has_then) ∙ ap (item_at (step ∷ past)) same ∙ is_other.made in
      cc

pub legal_step : (past : List Step) (step : Step) → IsLegal (step ∷ past) → IsLegalStep past step
unfolding IsLegal
legal_step past step legal = legal.1

pub legal_before : (past : List Step) (step : Step) → IsLegal (step ∷ past) → IsLegal past
unfolding IsLegal
legal_before past step legal = legal.0

pub items_stay : (step : Step) (past : List Step) (item other : Item) → IsLegal (step ∷ past) → Contains (items_now past) item
    → Contains (items_now (step ∷ past)) other → item.id ≡ other.id → item ≡ other
items_stay step past item other legal there there_then same =
    same_item past step (legal_step past step legal) item other (contained past item there) (contained (step ∷ past) other there_then) same
