-- A controller, a zone or a fan that is live before a step and after it is the same both times.
use Rattle.std.proofs.Common.{◌≡◌, List, ◌∷◌, true, Some, sym, ap, ◌∙◌, subst}
use Rattle.std.specs.List.{Contains}
use Rattle.std.proofs.lemmas.List.Elements.{All-contains, All-contains_itself, All-from_recursion, recursion_from_All}
use Rattle.cfg_json.specs.declared.item.Item.{Item}
use Rattle.cfg_json.specs.declared.item.ItemId.{ItemId}
use Rattle.inventory.proofs.IdsLemmas.{id_same}
use Rattle.fan_zone.specs.Live.{id_eq, LiveControl, controls, LiveZone, zones, LiveFan, fans}
use Rattle.bmc_machine.specs.Histories.{Step}
use Rattle.bmc_machine.specs.Indexes.{live_now}
use Rattle.bmc_machine.specs.Lives.{has_id}
use Rattle.bmc_machine.specs.Refusals.{IsLegalStep, IsLegal}
use Rattle.bmc_machine.proofs.HolderLemmas.{any_passes}
use Rattle.bmc_machine.proofs.IdleLemmas.{have_ids}
use Rattle.bmc_machine.proofs.LiveItemLemmas.{live_among}
use Rattle.bmc_machine.proofs.LiveViewLemmas.{IsView, shown_of, shown_in, controls_view, zones_view, fans_view}
use Rattle.bmc_machine.proofs.StayLemmas.{legal_step, same_item}

-- a live item that was live is the same
item_stays : (step : Step) (past : List Step) (item : Item) → IsLegalStep past step → Contains (live_now (step ∷ past)) item
    → has_id (live_now past) item.id ≡ true → Contains (live_now past) item
item_stays step past item legal there has =
    let before = any_passes (Contains (live_now past)) (λ (other : Item). id_eq other.id item.id) (live_now past)
    (recursion_from_All (Contains (live_now past)) (live_now past) (All-contains_itself (live_now past))) has in
    let same : before.0 ≡ item = same_item past step legal before.0 item (live_among past before.0 before.1).made
    (live_among (step ∷ past) item there).made (id_same before.0.id item.id before.2) in
    subst (Contains (live_now past)) same before.1

module _ {Y : Type 0} {list : List Item → List Y} {id : Y → ItemId} (is : IsView list id) where
  -- the id of what is listed is that of an item
  listed : (items : List Item) (y : Y) → Contains (list items) y → has_id items (id y) ≡ true
  listed items y there =
      let shown = shown_of is items y there in
      subst (λ (id : ItemId). has_id items id ≡ true) (sym (is.owns shown.0 y shown.2))
      (All-contains (λ (item : Item). has_id items item.id ≡ true) items shown.0
      (All-from_recursion (λ (item : Item). has_id items item.id ≡ true) items (have_ids items)) shown.1)

  module _ (step : Step) (past : List Step) (legal : IsLegal (step ∷ past)) where
    -- what was listed is the same
    stays : (y : Y) → Contains (list (live_now (step ∷ past))) y → has_id (live_now past) (id y) ≡ true → Contains (list (live_now past)) y
    stays y there has =
        let shown = shown_of is (live_now (step ∷ past)) y there in
        shown_in is (live_now past) shown.0 y
        (item_stays step past shown.0 (legal_step past step legal) shown.1
        (subst (λ (id : ItemId). has_id (live_now past) id ≡ true) (is.owns shown.0 y shown.2) has)) shown.2

    -- one before the step and one after it that have one id are one
    alike : (y other : Y) → Contains (list (live_now past)) y → Contains (list (live_now (step ∷ past))) other → id_eq (id y) (id other) ≡ true → y ≡ other
    alike y other there there_then same =
        let one = shown_of is (live_now past) y there in
        let two = shown_of is (live_now (step ∷ past)) other there_then in
        let ids : one.0.id ≡ two.0.id = sym (is.owns one.0 y one.2) ∙ id_same (id y) (id other) same ∙ is.owns two.0 other two.2 in
        let item : one.0 ≡ two.0 = same_item past step (legal_step past step legal) one.0 two.0 (live_among past one.0 one.1).made
        (live_among (step ∷ past) two.0 two.1).made ids in
        let both : Some y ≡ Some other = sym one.2 ∙ ap is.view item ∙ two.2 in
        cc

-- ---- controllers

pub control_has_id : (items : List Item) (control : LiveControl) → Contains (controls items) control → has_id items control.id ≡ true
control_has_id = listed controls_view

pub control_stays : (step : Step) (past : List Step) → IsLegal (step ∷ past) → (control : LiveControl) → Contains (controls (live_now (step ∷ past))) control
    → has_id (live_now past) control.id ≡ true → Contains (controls (live_now past)) control
control_stays = stays controls_view

pub control_alike : (step : Step) (past : List Step) → IsLegal (step ∷ past) → (control other : LiveControl) → Contains (controls (live_now past)) control
    → Contains (controls (live_now (step ∷ past))) other → id_eq control.id other.id ≡ true → control ≡ other
control_alike = alike controls_view

-- ---- zones

pub zone_has_id : (items : List Item) (zone : LiveZone) → Contains (zones items) zone → has_id items zone.id ≡ true
zone_has_id = listed zones_view

pub zone_stays : (step : Step) (past : List Step) → IsLegal (step ∷ past) → (zone : LiveZone) → Contains (zones (live_now (step ∷ past))) zone
    → has_id (live_now past) zone.id ≡ true → Contains (zones (live_now past)) zone
zone_stays = stays zones_view

pub zone_alike : (step : Step) (past : List Step) → IsLegal (step ∷ past) → (zone other : LiveZone) → Contains (zones (live_now past)) zone
    → Contains (zones (live_now (step ∷ past))) other → id_eq zone.id other.id ≡ true → zone ≡ other
zone_alike = alike zones_view

-- ---- fans

pub fan_has_id : (items : List Item) (fan : LiveFan) → Contains (fans items) fan → has_id items fan.id ≡ true
fan_has_id = listed fans_view

pub fan_stays : (step : Step) (past : List Step) → IsLegal (step ∷ past) → (fan : LiveFan) → Contains (fans (live_now (step ∷ past))) fan
    → has_id (live_now past) fan.id ≡ true → Contains (fans (live_now past)) fan
fan_stays = stays fans_view

pub fan_alike : (step : Step) (past : List Step) → IsLegal (step ∷ past) → (fan other : LiveFan) → Contains (fans (live_now past)) fan
    → Contains (fans (live_now (step ∷ past))) other → id_eq fan.id other.id ≡ true → fan ≡ other
fan_alike = alike fans_view
