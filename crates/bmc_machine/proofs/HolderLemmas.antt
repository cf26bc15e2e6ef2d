-- A live item of a family holds its name, and one that is live before a step and after it holds its name both times.
use Rattle.std.proofs.Common.{◌≡◌, ℕ, List, [], ◌∷◌, Bool, true, false, cond, ◌||◌, Option, Some, None, filter, refl, sym, ap, ◌∙◌, subst}
use Rattle.std.specs.Prelude.{⊤, find}
use Rattle.std.specs.List.{list_any, AllByRecursion}
use Rattle.std.specs.Cmp.Lexicographic.{bytes_decides}
use Rattle.cfg_json.specs.declared.item.Item.{Item}
use Rattle.inventory.specs.declared.family.Family.{Family}
use Rattle.inventory.specs.Items.{has_name, holder, id_eq, is_item, is_live, live}
use Rattle.inventory.proofs.BoardLemmas.{and_first, and_second}
use Rattle.inventory.proofs.IdsLemmas.{id_itself, id_same}
use Rattle.inventory.proofs.ListLemmas.{all_any, all_filter, all_passes, all_weaker}
use Rattle.bmc_machine.specs.Histories.{Step}
use Rattle.bmc_machine.specs.Indexes.{items_now, live_now}
use Rattle.bmc_machine.specs.Lives.{has_id}
use Rattle.bmc_machine.specs.Names.{is_of}
use Rattle.bmc_machine.specs.Refusals.{IsLegalStep}
use Rattle.bmc_machine.proofs.IdleLemmas.{have_ids}
use Rattle.bmc_machine.proofs.MadeLemmas.{item_at, IsItem, items_are}
use Rattle.bmc_machine.proofs.NameLemmas.{all_both, live_is}
use Rattle.bmc_machine.proofs.StayLemmas.{same_item}

-- ---- lists

-- what is found passes the test, and has what each element has
found_passes : {X : Type 0} (Fact : X → Type 0) (test : X → Bool) (xs : List X) (x : X) → AllByRecursion Fact xs → find test xs ≡ Some x
    → Fact x × (test x ≡ true)
found_passes Fact test [] x facts found = absurd (cc)
found_passes {X} Fact test (first ∷ xs) x facts found = by (test first) refl found (found_passes Fact test xs x facts.1)
  where
    by : (passes : Bool) → test first ≡ passes → cond passes (Some first) (find test xs) ≡ Some x
        → (find test xs ≡ Some x → Fact x × (test x ≡ true)) → Fact x × (test x ≡ true)
    by true is found rest = let same : first ≡ x = cc in (subst Fact same facts.0, ap test (sym same) ∙ is)
    by false is found rest = rest found

-- where any passes the test, one that does has what each element has
pub any_passes : {X : Type 0} (Fact : X → Type 0) (test : X → Bool) (xs : List X) → AllByRecursion Fact xs → list_any test xs ≡ true
    → (x : X) × Fact x × (test x ≡ true)
any_passes Fact test [] facts any = absurd (cc)
any_passes {X} Fact test (first ∷ xs) facts any = by (test first) refl any (any_passes Fact test xs facts.1)
  where
    by : (passes : Bool) → test first ≡ passes → (passes || list_any test xs) ≡ true
        → (list_any test xs ≡ true → (x : X) × Fact x × (test x ≡ true)) → (x : X) × Fact x × (test x ≡ true)
    by true is any rest = (first, facts.0, is)
    by false is any rest = rest any

-- what is found is found among those that are kept, if it is kept
find_filter : {X : Type 0} (test keep : X → Bool) (xs : List X) → ((x : X) → find test xs ≡ Some x → keep x ≡ true)
    → find test (filter keep xs) ≡ find test xs
find_filter test keep [] keeps = refl
find_filter {X} test keep (first ∷ xs) keeps = by (test first) (keep first) refl refl keeps (find_filter test keep xs)
  where
    by : (passes kept : Bool) → test first ≡ passes → keep first ≡ kept → ((x : X) → cond passes (Some first) (find test xs) ≡ Some x → keep x ≡ true)
        → (((x : X) → find test xs ≡ Some x → keep x ≡ true) → find test (filter keep xs) ≡ find test xs)
        → find test (cond kept (first ∷ filter keep xs) (filter keep xs)) ≡ cond passes (Some first) (find test xs)
    by true true is is_kept keeps rest = ap (λ (b : Bool). cond b (Some first) (find test (filter keep xs))) is
    by true false is is_kept keeps rest = absurd (let kept : keep first ≡ true = keeps first refl in cc)
    by false true is is_kept keeps rest = ap (λ (b : Bool). cond b (Some first) (find test (filter keep xs))) is ∙ rest keeps
    by false false is is_kept keeps rest = rest keeps

-- ---- live items

-- an item of the moment after a history that is live there
pub record IsLive (past : List Step) (item : Item) : Type 0 where
  pub made : IsItem past item
  pub live : is_live (items_now past) item ≡ true

pub live_are : (past : List Step) → AllByRecursion (IsLive past) (live_now past)
unfolding live_now live
live_are past =
    all_weaker _ _ (λ (item : Item) both. record { made = both.0; live = both.1 }) _
    (all_both (IsItem past) (λ (item : Item). is_live (items_now past) item ≡ true) _
    (all_filter (IsItem past) (is_live (items_now past)) (items_now past) (items_are past)) (all_passes (is_live (items_now past)) (items_now past)))

-- two items of one moment with one id are one
one_item : (past : List Step) (item other : Item) → IsItem past item → IsItem past other → item.id ≡ other.id → item ≡ other
one_item past item other is is_other same =
    let both : Some item ≡ Some other = sym is.made ∙ ap (item_at past) same ∙ is_other.made in
    cc

-- ---- holders

module _ (family : Family) (name : List ℕ) where
  -- the holder of a name is of the family and has the name
  pub holder_is : (Fact : Item → Type 0) (items : List Item) (item : Item) → AllByRecursion Fact items → holder items family name ≡ Some item
      → Fact item × (is_of family item ≡ true) × (item.name ≡ name)
  holder_is Fact items item facts held =
      let is : Fact item × (has_name family name item ≡ true) = found_passes Fact (has_name family name) items item facts held in
      (is.0, and_first _ _ is.1, (bytes_decides item.name name).0 (and_second (is_of family item) _ is.1))

  pub holder_name : (items : List Item) (item : Item) → holder items family name ≡ Some item → item.name ≡ name
  holder_name items item held = (holder_is (λ item. ⊤) items item (all_any _ (λ item. tt) items) held).2

  -- its id is there
  pub holder_has_id : (items : List Item) (item : Item) → holder items family name ≡ Some item → has_id items item.id ≡ true
  holder_has_id items item held = (holder_is (λ (item : Item). has_id items item.id ≡ true) items item (have_ids items) held).0

  -- the holder among live items is the holder among all
  pub holder_live : (items : List Item) → holder (live items) family name ≡ holder items family name
  unfolding live
  holder_live items = find_filter (has_name family name) (is_live items) items holds
    where
      holds : (item : Item) → holder items family name ≡ Some item → is_live items item ≡ true
      holds item held =
          let is = holder_is (λ item. ⊤) items item (all_any _ (λ item. tt) items) held in
          live_is family items item.id item.name item.part is.1
          ∙ ap (λ name. is_item item.id (holder items family name)) is.2 ∙ ap (is_item item.id) held ∙ id_itself item.id

-- a live item of a family holds its name
pub live_holds : (past : List Step) (family : Family) (item : Item) → IsLive past item → is_of family item ≡ true
    → holder (live_now past) family item.name ≡ Some item
unfolding live_now
live_holds past family item is of_family =
    holder_live family item.name (items_now past)
    ∙ by (holder (items_now past) family item.name) refl (sym (live_is family (items_now past) item.id item.name item.part of_family) ∙ is.live)
  where
    by : (held : Option Item) → holder (items_now past) family item.name ≡ held → is_item item.id held ≡ true → held ≡ Some item
    by None found holds = absurd (cc)
    by (Some other) found holds =
        ap Some (one_item past other item (holder_is family item.name (IsItem past) (items_now past) other (items_are past) found).0 is.made
        (id_same other.id item.id holds))

-- an id that is there is that of a live item
has_live : (past : List Step) (item : Item) → has_id (live_now past) item.id ≡ true → (other : Item) × IsLive past other × (id_eq other.id item.id ≡ true)
has_live past item has = any_passes (IsLive past) (λ (other : Item). id_eq other.id item.id) (live_now past) (live_are past) has

module _ (past : List Step) (step : Step) (legal : IsLegalStep past step) (family : Family) (name : List ℕ) (item : Item) where
  -- a holder after a step was the holder before it, if it was live
  pub holder_was : holder (live_now (step ∷ past)) family name ≡ Some item → has_id (live_now past) item.id ≡ true
      → holder (live_now past) family name ≡ Some item
  holder_was held lived =
      let now = holder_is family name (IsLive (step ∷ past)) (live_now (step ∷ past)) item (live_are (step ∷ past)) held in
      let before = has_live past item lived in
      let same : before.0 ≡ item = same_item past step legal before.0 item before.1.made now.0.made (id_same before.0.id item.id before.2) in
      ap (holder (live_now past) family) (sym now.2) ∙ live_holds past family item (subst (IsLive past) same before.1) now.1

  -- and a holder before it is the holder after it, if it is live
  pub holder_stays : holder (live_now past) family name ≡ Some item → has_id (live_now (step ∷ past)) item.id ≡ true
      → holder (live_now (step ∷ past)) family name ≡ Some item
  holder_stays held lives =
      let before = holder_is family name (IsLive past) (live_now past) item (live_are past) held in
      let now = has_live (step ∷ past) item lives in
      let same : item ≡ now.0 = same_item past step legal item now.0 before.0.made now.1.made (sym (id_same now.0.id item.id now.2)) in
      ap (holder (live_now (step ∷ past)) family) (sym before.2)
      ∙ live_holds (step ∷ past) family item (subst (IsLive (step ∷ past)) (sym same) now.1) before.1
