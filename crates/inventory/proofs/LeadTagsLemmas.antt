-- The tags that are noted, one after another.
use Rattle.std.proofs.Common.{◌≡◌, ◌∙◌, ℕ, zero, suc, ◌+◌, ◌<◌, Bool, false, List, [], ◌∷◌, ◌++◌, length, map, take}
use Rattle.std.proofs.Common.{Option, Some, None, option_map, slice_get, refl, sym, ap, subst, arith}
use Rattle.std.specs.Prelude.{filter_map, option_to_list}
use Rattle.std.specs.List.{cons_option, flat_map}
use Rattle.std.proofs.lemmas.Grind.{flat_map-append}
use Rattle.std.proofs.lemmas.List.{append-nil}
use Rattle.std.proofs.lemmas.Option.{slice_get-map}
use Rattle.cfg_json.specs.declared.item.ItemId.{ItemId}
use Rattle.inventory.specs.Bearers.{ids_in, leads, Lists}
use Rattle.inventory.specs.Leads.{AreFirst, AreTold, ListsMore}
use Rattle.inventory.specs.declared.leads.Leads.{Leads}
use Rattle.inventory.specs.declared.tag.Tag.{Tag}
use Rattle.inventory.specs.declared.tags.Notes.{Notes}
use Rattle.inventory.proofs.AmongLemmas.{more_alike, no_order}
use Rattle.inventory.proofs.IdListsLemmas.{lists_alike}
use Rattle.inventory.proofs.LessLemmas.{take_at}
use Rattle.inventory.proofs.TagsLemmas.{or_none}
use Rattle.inventory.proofs.ToldLemmas.{told_as, told_both}

pub key_at : (entries : List (Tag × List ItemId)) (n : ℕ) (tag key : Tag) (ids : List ItemId)
    → slice_get (map (λ (entry : Tag × List ItemId). entry.0) entries) n ≡ Some tag → Some (key, ids) ≡ slice_get entries n → key ≡ tag
key_at entries n tag key ids at entry =
    let both : Some key ≡ Some tag =
    ap (option_map (λ (entry : Tag × List ItemId). entry.0)) entry ∙ sym (slice_get-map (λ (entry : Tag × List ItemId). entry.0) entries n) ∙ at in
    cc

pub some_at : {X : Type 0} (xs : List X) (i : ℕ) → i < length xs → (x : X) × (slice_get xs i ≡ Some x)
some_at [] i within = absurd (omega (arith, within))
some_at (first ∷ xs) zero within = (first, refl)
some_at (first ∷ xs) (suc i) within = some_at xs i (omega (arith, within))

-- the first id beside a tag
pub firsts_at : (notes : Notes) (tags : List (Tag × List ItemId)) (n : ℕ) (tag key : Tag) (ids : List ItemId) → AreFirst notes tags
    → slice_get (map (λ (entry : Tag × List ItemId). entry.0) notes.over.entries) n ≡ Some tag → Some (key, ids) ≡ slice_get notes.over.entries n
    → slice_get notes.firsts.items n ≡ Some (slice_get (ids_in tags tag) 0)
firsts_at notes tags n tag key ids firsts at entry =
    ap (λ (firsts : List (Option ItemId)). slice_get firsts n) firsts
    ∙ slice_get-map (λ (entry : Tag × List ItemId). slice_get (ids_in tags entry.0) 0) notes.over.entries n
    ∙ ap (option_map (λ (entry : Tag × List ItemId). slice_get (ids_in tags entry.0) 0)) (sym entry)
    ∙ ap (λ (tag : Tag). Some (slice_get (ids_in tags tag) 0)) (key_at notes.over.entries n tag key ids at entry)

-- ---- what is told

pub none_told : (here there : Tag → List ItemId) (told : Leads) → AreTold here there [] told told
none_told here there told = record {
  gone = λ test lists. lists_alike told.gone.items test _ lists (λ id. sym (or_none (test id)));
  new = λ test lists. lists_alike told.new.items test _ lists (λ id. sym (or_none (test id)));
}

-- one tag more
pub told_more : (here there : Tag → List ItemId) (compares : Tag → List Tag) (tags : List Tag) (i : ℕ) (tag : Tag) (told more most : Leads)
    → slice_get tags i ≡ Some tag → AreTold here there (flat_map compares (take i tags)) told more → AreTold here there (compares tag) more most
    → AreTold here there (flat_map compares (take (i + 1) tags)) told most
told_more here there compares tags i tag told more most at one two =
    told_as here there (flat_map compares (take i tags) ++ compares tag) (flat_map compares (take (i + 1) tags)) told most
    (sym (ap (flat_map compares) (take_at tags i tag at) ∙ flat_map-append compares (take i tags) (tag ∷ [])
    ∙ ap (λ (last : List Tag). flat_map compares (take i tags) ++ last) (append-nil (compares tag))))
    (told_both here there (flat_map compares (take i tags)) (compares tag) told more most one two)

-- other tags with the same leads
pub told_alike : (here there : Tag → List ItemId) (tags others : List Tag) (told more : Leads)
    → ((id : ItemId) → leads here there tags id ≡ leads here there others id) → ((id : ItemId) → leads there here tags id ≡ leads there here others id)
    → AreTold here there tags told more → AreTold here there others told more
told_alike here there tags others told more gone new is = record {
  gone = more_alike told.gone.items more.gone.items _ _ is.gone gone;
  new = more_alike told.new.items more.new.items _ _ is.new new;
}

-- what is told where nothing was
pub told_alone : (old more : List ItemId) (test : ItemId → Bool) → old ≡ [] → ListsMore old more test → Lists more test
told_alone old more test none gives =
    gives (λ id. false) (subst (λ (ids : List ItemId). Lists ids (λ id. false)) (sym none) (record { order = no_order; each = λ id. refl }))

-- ---- what is picked

-- one more
pub picked_more : {X Y : Type 0} (pick : X → Option Y) (xs : List X) (x : X) → filter_map pick (xs ++ x ∷ []) ≡ filter_map pick xs ++ option_to_list (pick x)
picked_more pick [] x = one (pick x)
  where
    one : {Y : Type 0} (y : Option Y) → cons_option y [] ≡ option_to_list y
    one None = refl
    one (Some y) = refl
picked_more {X} {Y} pick (first ∷ xs) x = by (pick first) (picked_more pick xs x)
  where
    by : (y : Option Y) → filter_map pick (xs ++ x ∷ []) ≡ filter_map pick xs ++ option_to_list (pick x)
        → cons_option y (filter_map pick (xs ++ x ∷ [])) ≡ cons_option y (filter_map pick xs) ++ option_to_list (pick x)
    by None rest = rest
    by (Some y) rest = ap (λ (ys : List Y). y ∷ ys) rest
