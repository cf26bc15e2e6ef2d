-- What is among ids that ascend, and what is put among them.
use Rattle.std.proofs.Common.{◌≡◌, ◌∙◌, ℕ, Bool, true, false, not, cond, ◌||◌, ◌&&◌, List, [], ◌∷◌, ◌++◌, Option, Some, None}
use Rattle.std.proofs.Common.{slice_get, refl, sym, ap, subst}
use mathlib.Core.List.{map-id}
use Rattle.std.specs.Prelude.{option_to_list}
use Rattle.std.specs.List.{list_any, prefix_len}
use Rattle.std.specs.List.Sorted.{IsStrictlySortedBy}
use Rattle.std.specs.Ordering.{is_eq, is_lt}
use Rattle.std.proofs.lemmas.List.Folds.{list_any-append}
use Rattle.cfg_json.specs.declared.item.ItemId.{ItemId}
use Rattle.inventory.specs.Bearers.{is_id}
use Rattle.inventory.specs.Items.{id_eq}
use Rattle.inventory.specs.Leads.{ListsMore}
use Rattle.inventory.specs.Orders.{id_cmp}
use Rattle.inventory.proofs.IdListsLemmas.{any_at, any_found, its_id, lists_alike}
use Rattle.inventory.proofs.IdsLemmas.{id_cmp_eq, id_total}
use Rattle.inventory.proofs.SortedLemmas.{found, is_there}

-- an id is among ids that ascend, if it stands behind those that come before it
pub has_at : (ids : List ItemId) (id : ItemId) (n : ℕ) → n ≡ prefix_len (λ (each : ItemId). is_lt (id_cmp each id)) ids
    → IsStrictlySortedBy id_cmp ids → is_id id (slice_get ids n) ≡ list_any (id_eq id) ids
has_at ids id n count order = by (is_id id (slice_get ids n)) refl
  where
    there_is : (found : Option ItemId) → is_id id found ≡ false → cond (is_there its_id id_cmp id_total id found) found None ≡ None
    there_is None free = refl
    there_is (Some other) free = ap (λ (b : Bool). cond b (Some other) None) (id_cmp_eq id other ∙ free)

    by : (is : Bool) → is_id id (slice_get ids n) ≡ is → is ≡ list_any (id_eq id) ids
    by true is = sym (any_at id ids n is)
    by false is =
        sym (any_found (λ (each : ItemId). is_eq (id_cmp id each)) ids
        (found its_id id_cmp id_total id ids (subst (IsStrictlySortedBy id_cmp) (sym (map-id ids)) order)
        ∙ there_is (slice_get ids (prefix_len (λ (each : ItemId). is_lt (id_cmp each id)) ids)) (ap (λ (n : ℕ). is_id id (slice_get ids n)) (sym count) ∙ is)))
        ∙ (λ i. list_any (λ (each : ItemId). id_cmp_eq id each i) ids)

-- ids that may stand behind a first one
pub any_first : (first : Option ItemId) (rest : List ItemId) (id : ItemId)
    → list_any (id_eq id) (option_to_list first ++ rest) ≡ (is_id id first || list_any (id_eq id) rest)
any_first None rest id = refl
any_first (Some first) rest id = refl

pub rest_ascend : (first : Option ItemId) (rest : List ItemId) → IsStrictlySortedBy id_cmp (option_to_list first ++ rest) → IsStrictlySortedBy id_cmp rest
unfolding IsStrictlySortedBy
rest_ascend None rest order = order
rest_ascend (Some first) rest order = order.1

pub no_order : IsStrictlySortedBy id_cmp []
unfolding IsStrictlySortedBy
no_order = tt

-- ---- lists with more ids

pub more_alike : (ids more : List ItemId) (test other : ItemId → Bool) → ListsMore ids more test → ((id : ItemId) → test id ≡ other id)
    → ListsMore ids more other
more_alike ids more test other gives alike each lists =
    lists_alike more _ (λ id. each id || other id) (gives each lists) (λ id. ap (λ (b : Bool). each id || b) (alike id))

pub more_both : (ids more most : List ItemId) (test other : ItemId → Bool) → ListsMore ids more test → ListsMore more most other
    → ListsMore ids most (λ id. test id || other id)
more_both ids more most test other gives gives_more each lists =
    lists_alike most _ (λ id. each id || (test id || other id)) (gives_more (λ id. each id || test id) (gives each lists))
    (λ id. turn (each id) (test id) (other id))
  where
    turn : (one two three : Bool) → ((one || two) || three) ≡ (one || (two || three))
    turn true two three = refl
    turn false two three = refl

pub more_none : (ids : List ItemId) (test : ItemId → Bool) → ((id : ItemId) → test id ≡ false) → ListsMore ids ids test
more_none ids test none each lists = lists_alike ids each _ lists (λ id. plain (each id) ∙ ap (λ (b : Bool). each id || b) (sym (none id)))
  where
    plain : (b : Bool) → b ≡ (b || false)
    plain true = refl
    plain false = refl

-- some ids and another
pub more_ids : (ids more : List ItemId) (front : List ItemId) (id : ItemId) (has : ItemId → Bool) (start : List ItemId)
    → ListsMore start ids (λ each. list_any (id_eq each) front && not (has each)) → ListsMore ids more (λ each. is_id each (Some id) && not (has each))
    → ListsMore start more (λ each. list_any (id_eq each) (front ++ id ∷ []) && not (has each))
more_ids ids more front id has start before next =
    more_alike start more _ _ (more_both start ids more _ _ before next) (λ each.
    spread (list_any (id_eq each) front) (id_eq each id) (not (has each))
    ∙ ap (λ (b : Bool). b && not (has each))
    (sym (list_any-append (id_eq each) front (id ∷ []) ∙ ap (λ (b : Bool). list_any (id_eq each) front || b) (plain (id_eq each id)))))
  where
    plain : (b : Bool) → (b || false) ≡ b
    plain true = refl
    plain false = refl

    spread : (one two three : Bool) → ((one && three) || (two && three)) ≡ ((one || two) && three)
    spread true two true = refl
    spread true true false = refl
    spread true false false = refl
    spread false two three = refl

-- a first id and others
pub more_rest : (start ids more : List ItemId) (first : Option ItemId) (rest : List ItemId) (has : ItemId → Bool)
    → ListsMore start ids (λ each. is_id each first && not (has each)) → ListsMore ids more (λ each. list_any (id_eq each) rest && not (has each))
    → ListsMore start more (λ each. list_any (id_eq each) (option_to_list first ++ rest) && not (has each))
more_rest start ids more first rest has before next =
    more_alike start more _ _ (more_both start ids more _ _ before next) (λ each.
    spread (is_id each first) (list_any (id_eq each) rest) (not (has each))
    ∙ ap (λ (b : Bool). b && not (has each)) (sym (any_first first rest each)))
  where
    spread : (one two three : Bool) → ((one && three) || (two && three)) ≡ ((one || two) && three)
    spread true two true = refl
    spread true true false = refl
    spread true false false = refl
    spread false two three = refl
