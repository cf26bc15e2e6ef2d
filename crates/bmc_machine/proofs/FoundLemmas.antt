-- What is found by its id among the controllers, the zones or the fans of live items, before a step.
use Rattle.std.proofs.Common.{◌≡◌, List, [], ◌∷◌, Bool, true, false, cond, ◌||◌, Option, Some, None, find, filter_map, refl, sym, ap, ◌∙◌, subst}
use Rattle.std.specs.List.{AllByRecursion, cons_option}
use Rattle.std.proofs.lemmas.Option.{none-some}
use Rattle.cfg_json.specs.declared.item.Item.{Item}
use Rattle.cfg_json.specs.declared.item.ItemId.{ItemId}
use Rattle.inventory.specs.Items.{id_eq}
use Rattle.inventory.proofs.IdsLemmas.{id_same}
use Rattle.inventory.proofs.ListLemmas.{all_weaker}
use Rattle.fan_zone.specs.Live.{LiveControl, controls, LiveZone, zones, LiveFan, fans}
use Rattle.bmc_machine.specs.Histories.{Step}
use Rattle.bmc_machine.specs.Indexes.{live_now}
use Rattle.bmc_machine.specs.Lives.{has_id}
use Rattle.bmc_machine.specs.Refusals.{IsLegalStep}
use Rattle.bmc_machine.proofs.HolderLemmas.{IsLive, live_are}
use Rattle.bmc_machine.proofs.IdleLemmas.{have_ids}
use Rattle.bmc_machine.proofs.PartLemmas.{control_of, controls_are, control_id, zone_at, zones_are, zone_id, fan_at, fans_are, fan_id}
use Rattle.bmc_machine.proofs.StayLemmas.{same_item}

-- this is picked from an item of which a fact holds
pub record IsPicked {X : Type 0} (pick : Item → Option X) (Fact : Item → Type 0) (x : X) : Type 0 where
  pub item : Item
  pub fact : Fact item
  pub is : pick item ≡ Some x

module _ {X : Type 0} (pick : Item → Option X) (id_of : X → ItemId) (own : (item : Item) (x : X) → pick item ≡ Some x → id_of x ≡ item.id) where
  all_picked : (Fact : Item → Type 0) (items : List Item) → AllByRecursion Fact items → AllByRecursion (IsPicked pick Fact) (filter_map pick items)
  all_picked Fact [] facts = tt
  all_picked Fact (item ∷ items) facts = by (pick item) refl (all_picked Fact items facts.1)
    where
      by : (picked : Option X) → pick item ≡ picked → AllByRecursion (IsPicked pick Fact) (filter_map pick items)
          → AllByRecursion (IsPicked pick Fact) (cons_option picked (filter_map pick items))
      by None is rest = rest
      by (Some x) is rest = (record { item = item; fact = facts.0; is = is }, rest)

  -- each has an id of the items
  picked_have_ids : (items : List Item) → AllByRecursion (λ (x : X). has_id items (id_of x) ≡ true) (filter_map pick items)
  picked_have_ids items =
      all_weaker _ _ (λ (x : X) picked. ap (has_id items) (own picked.item x picked.is) ∙ picked.fact) _
      (all_picked (λ (item : Item). has_id items item.id ≡ true) items (have_ids items))

  -- where each item with the id of this one shows it, it is found if the id is there
  find_picked : (x : X) (items : List Item) → AllByRecursion (λ (item : Item). id_eq item.id (id_of x) ≡ true → pick item ≡ Some x) items
      → find (λ (y : X). id_eq (id_of y) (id_of x)) (filter_map pick items) ≡ cond (has_id items (id_of x)) (Some x) None
  find_picked x [] same = refl
  find_picked x (item ∷ items) same = by (id_eq item.id (id_of x)) (pick item) refl refl same.0 (find_picked x items same.1)
    where
      hits : (y : X) → pick item ≡ Some y → (hit : Bool) → id_eq item.id (id_of x) ≡ hit → id_eq (id_of y) (id_of x) ≡ hit
      hits y is hit test = ap (λ (id : ItemId). id_eq id (id_of x)) (own item y is) ∙ test

      by : (hit : Bool) (picked : Option X) → id_eq item.id (id_of x) ≡ hit → pick item ≡ picked → (hit ≡ true → picked ≡ Some x)
          → find (λ (y : X). id_eq (id_of y) (id_of x)) (filter_map pick items) ≡ cond (has_id items (id_of x)) (Some x) None
          → find (λ (y : X). id_eq (id_of y) (id_of x)) (cons_option picked (filter_map pick items))
          ≡ cond (hit || has_id items (id_of x)) (Some x) None
      by true None test is same rest = absurd (none-some x (same refl))
      by true (Some y) test is same rest =
          ap (λ (b : Bool). cond b (Some y) (find (λ (y : X). id_eq (id_of y) (id_of x)) (filter_map pick items))) (hits y is true test) ∙ same refl
      by false None test is same rest = rest
      by false (Some y) test is same rest =
          ap (λ (b : Bool). cond b (Some y) (find (λ (y : X). id_eq (id_of y) (id_of x)) (filter_map pick items))) (hits y is false test) ∙ rest

  -- what is live after a step is found before it, if its id was live then
  was_picked : (past : List Step) (step : Step) → IsLegalStep past step → (x : X) → IsPicked pick (IsLive (step ∷ past)) x
      → find (λ (y : X). id_eq (id_of y) (id_of x)) (filter_map pick (live_now past)) ≡ cond (has_id (live_now past) (id_of x)) (Some x) None
  was_picked past step legal x now = find_picked x (live_now past) (all_weaker _ _ same (live_now past) (live_are past))
    where
      same : (item : Item) → IsLive past item → id_eq item.id (id_of x) ≡ true → pick item ≡ Some x
      same item was hit =
          ap pick (same_item past step legal item now.item was.made now.fact.made (id_same item.id (id_of x) hit ∙ own now.item x now.is)) ∙ now.is

-- ---- controllers, zones and fans of live items

module _ (past : List Step) where
  pub live_controls : AllByRecursion (IsPicked control_of (IsLive past)) (controls (live_now past))
  live_controls =
      subst (AllByRecursion (IsPicked control_of (IsLive past))) (sym (controls_are (live_now past)))
      (all_picked control_of (λ (control : LiveControl). control.id) control_id (IsLive past) (live_now past) (live_are past))

  pub live_zones : AllByRecursion (IsPicked zone_at (IsLive past)) (zones (live_now past))
  live_zones =
      subst (AllByRecursion (IsPicked zone_at (IsLive past))) (sym (zones_are (live_now past)))
      (all_picked zone_at (λ (zone : LiveZone). zone.id) zone_id (IsLive past) (live_now past) (live_are past))

  pub live_fans : AllByRecursion (IsPicked fan_at (IsLive past)) (fans (live_now past))
  live_fans =
      subst (AllByRecursion (IsPicked fan_at (IsLive past))) (sym (fans_are (live_now past)))
      (all_picked fan_at (λ (fan : LiveFan). fan.id) fan_id (IsLive past) (live_now past) (live_are past))

-- each has an id of the items

pub controls_have_ids : (items : List Item) → AllByRecursion (λ (control : LiveControl). has_id items control.id ≡ true) (controls items)
controls_have_ids items =
    subst (AllByRecursion (λ (control : LiveControl). has_id items control.id ≡ true)) (sym (controls_are items))
    (picked_have_ids control_of (λ (control : LiveControl). control.id) control_id items)

pub zones_have_ids : (items : List Item) → AllByRecursion (λ (zone : LiveZone). has_id items zone.id ≡ true) (zones items)
zones_have_ids items =
    subst (AllByRecursion (λ (zone : LiveZone). has_id items zone.id ≡ true)) (sym (zones_are items))
    (picked_have_ids zone_at (λ (zone : LiveZone). zone.id) zone_id items)

pub fans_have_ids : (items : List Item) → AllByRecursion (λ (fan : LiveFan). has_id items fan.id ≡ true) (fans items)
fans_have_ids items =
    subst (AllByRecursion (λ (fan : LiveFan). has_id items fan.id ≡ true)) (sym (fans_are items))
    (picked_have_ids fan_at (λ (fan : LiveFan). fan.id) fan_id items)

-- what is live after a step is found by its id before it, if the id was live then

module _ (past : List Step) (step : Step) (legal : IsLegalStep past step) where
  pub control_was : (control : LiveControl) → IsPicked control_of (IsLive (step ∷ past)) control
      → find (λ (other : LiveControl). id_eq other.id control.id) (controls (live_now past))
      ≡ cond (has_id (live_now past) control.id) (Some control) None
  control_was control now =
      ap (find (λ (other : LiveControl). id_eq other.id control.id)) (controls_are (live_now past))
      ∙ was_picked control_of (λ (other : LiveControl). other.id) control_id past step legal control now

  pub zone_was : (zone : LiveZone) → IsPicked zone_at (IsLive (step ∷ past)) zone
      → find (λ (other : LiveZone). id_eq other.id zone.id) (zones (live_now past)) ≡ cond (has_id (live_now past) zone.id) (Some zone) None
  zone_was zone now =
      ap (find (λ (other : LiveZone). id_eq other.id zone.id)) (zones_are (live_now past))
      ∙ was_picked zone_at (λ (other : LiveZone). other.id) zone_id past step legal zone now

  pub fan_was : (fan : LiveFan) → IsPicked fan_at (IsLive (step ∷ past)) fan
      → find (λ (other : LiveFan). id_eq other.id fan.id) (fans (live_now past)) ≡ cond (has_id (live_now past) fan.id) (Some fan) None
  fan_was fan now =
      ap (find (λ (other : LiveFan). id_eq other.id fan.id)) (fans_are (live_now past))
      ∙ was_picked fan_at (λ (other : LiveFan). other.id) fan_id past step legal fan now
