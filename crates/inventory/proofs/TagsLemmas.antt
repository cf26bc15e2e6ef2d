-- The ids that are kept for tags, item after item.
use Rattle.std.proofs.Common.{◌≡◌, ◌∙◌, Bool, true, false, not, cond, ◌||◌, ◌&&◌, List, [], ◌∷◌, ◌++◌, length, map}
use Rattle.std.proofs.Common.{Option, Some, None, is_some, refl, sym, ap, ap₂, subst, arith}
use Rattle.std.specs.Prelude.{◌==◌, bytes_eq}
use Rattle.std.specs.Option.{option_or, unwrap_or}
use Rattle.std.specs.List.{list_any}
use Rattle.std.specs.Map.{lookup}
use Rattle.std.specs.Cmp.Lexicographic.{bytes_decides}
use Rattle.std.proofs.Math.Bool.{and_comm}
use Rattle.std.proofs.lemmas.Bool.{eqb-true}
use Rattle.indexmap.specs.IndexMap.{insert_entry}
use Rattle.cfg_json.specs.declared.item.ItemId.{ItemId}
use Rattle.inventory.specs.Bearers.{ids_in, ids_over, role_eq, tag_eq}
use Rattle.inventory.specs.declared.tag.Tag.{Tag}
use Rattle.inventory.proofs.BoardLemmas.{and_both, and_first, and_second}
use Rattle.inventory.proofs.HoldersLemmas.{role_itself, role_same, role_test, role_test_is}

-- ---- tags

abbrev pub tag_test : Tag → Tag → Bool
tag_test = λ tag other. bytes_eq tag.name other.name && role_test tag.role other.role

pub tag_test_is : tag_test ≡ tag_eq
tag_test_is =
    (λ i. λ tag other. bytes_eq tag.name other.name && role_test_is tag.role other.role i)
    ∙ (λ i. λ tag other. and_comm (bytes_eq tag.name other.name) (role_eq tag.role other.role) i)

pub tag_same : (tag other : Tag) → tag_eq tag other ≡ true → tag ≡ other
tag_same tag other same =
    let role : tag.role ≡ other.role = role_same tag.role other.role (and_first _ _ same) in
    let name : tag.name ≡ other.name = (bytes_decides tag.name other.name).0 (and_second _ _ same) in
    λ i. record { role = role i; name = name i }

pub tag_itself : (tag : Tag) → tag_eq tag tag ≡ true
tag_itself tag = and_both _ _ (role_itself tag.role) ((bytes_decides tag.name tag.name).1 refl)

pub tag_swap : (tag other : Tag) → tag_eq tag other ≡ tag_eq other tag
tag_swap tag other = by (tag_eq tag other) refl (tag_eq other tag) refl
  where
    by : (one : Bool) → tag_eq tag other ≡ one → (two : Bool) → tag_eq other tag ≡ two → one ≡ two
    by true one true two = refl
    by false one false two = refl
    by true one false two = sym (sym two ∙ ap (tag_eq other) (tag_same tag other one) ∙ tag_itself other)
    by false one true two = sym one ∙ ap (tag_eq tag) (tag_same other tag two) ∙ tag_itself tag

pub or_none : (b : Bool) → (b || false) ≡ b
or_none true = refl
or_none false = refl

pub and_not_idle : (b : Bool) → (b && not false) ≡ b
and_not_idle true = refl
and_not_idle false = refl

-- ---- maps

-- what a change of a map is, by tags
pub updated : {X : Type 0} (old new : List (Tag × X)) (key : Tag) (value : Option X)
    → ((each : Tag) → lookup (tag_test each) new ≡ cond (tag_test key each) value (lookup (tag_test each) old))
    → (each : Tag) → lookup (tag_eq each) new ≡ cond (tag_eq each key) value (lookup (tag_eq each) old)
updated {X} old new key value is each =
    let by_name : (each : Tag) → lookup (tag_eq each) new ≡ cond (tag_eq key each) value (lookup (tag_eq each) old) =
    subst (λ (eq : Tag → Tag → Bool). (each : Tag) → lookup (eq each) new ≡ cond (eq key each) value (lookup (eq each) old)) tag_test_is is in
    by_name each ∙ ap (λ (b : Bool). cond b value (lookup (tag_eq each) old)) (tag_swap key each)

-- what is found of a name
pub found_as : {X : Type 0} (entries : List (Tag × X)) (tag : Tag) → lookup (tag_test tag) entries ≡ lookup (tag_eq tag) entries
found_as entries tag = ap (λ (eq : Tag → Tag → Bool). lookup (eq tag) entries) tag_test_is

pub ids_updated : (old new : List (Tag × List ItemId)) (key : Tag) (value : Option (List ItemId)) (ids : List ItemId) → unwrap_or value [] ≡ ids
    → ((each : Tag) → lookup (tag_eq each) new ≡ cond (tag_eq each key) value (lookup (tag_eq each) old))
    → (each : Tag) → ids_in new each ≡ cond (tag_eq each key) ids (ids_in old each)
ids_updated old new key value ids is looks each =
    ap (λ (found : Option (List ItemId)). unwrap_or found []) (looks each) ∙ by (tag_eq each key)
  where
    by : (same : Bool) → unwrap_or (cond same value (lookup (tag_eq each) old)) [] ≡ cond same ids (ids_in old each)
    by true = is
    by false = refl

pub lookup_last : {X : Type 0} (test : Tag → Bool) (entries : List (Tag × X)) (entry : Tag × X)
    → lookup test (entries ++ entry ∷ []) ≡ option_or (lookup test entries) (cond (test entry.0) (Some entry.1) None)
lookup_last test [] entry = refl
lookup_last {X} test (first ∷ entries) entry = by (test first.0) (lookup_last test entries entry)
  where
    by : (passes : Bool) → lookup test (entries ++ entry ∷ []) ≡ option_or (lookup test entries) (cond (test entry.0) (Some entry.1) None)
        → cond passes (Some first.1) (lookup test (entries ++ entry ∷ []))
        ≡ option_or (cond passes (Some first.1) (lookup test entries)) (cond (test entry.0) (Some entry.1) None)
    by true rest = refl
    by false rest = rest

-- ids that go from what is noted to what is kept
pub moved : (over tags new_tags : List (Tag × List ItemId)) (key : Tag) (ids : List ItemId) → lookup (tag_eq key) over ≡ None
    → ((each : Tag) → ids_in new_tags each ≡ cond (tag_eq each key) ids (ids_in tags each))
    → (each : Tag) → ids_over over new_tags each ≡ ids_over (over ++ (key, ids) ∷ []) tags each
moved over tags new_tags key ids free is each =
    ap (unwrap_or (lookup (tag_eq each) over)) (is each) ∙ by (tag_eq each key) refl
    ∙ sym (ap (λ (found : Option (List ItemId)). unwrap_or found (ids_in tags each)) (lookup_last (tag_eq each) over (key, ids)))
  where
    by : (same : Bool) → tag_eq each key ≡ same → unwrap_or (lookup (tag_eq each) over) (cond same ids (ids_in tags each))
        ≡ unwrap_or (option_or (lookup (tag_eq each) over) (cond same (Some ids) None)) (ids_in tags each)
    by true same =
        let none : lookup (tag_eq each) over ≡ None = ap (λ (each : Tag). lookup (tag_eq each) over) (tag_same each key same) ∙ free in
        ap (λ (found : Option (List ItemId)). unwrap_or found ids) none
        ∙ sym (ap (λ (found : Option (List ItemId)). unwrap_or (option_or found (Some ids)) (ids_in tags each)) none)
    by false differs = either (lookup (tag_eq each) over)
      where
        either : (found : Option (List ItemId)) → unwrap_or found (ids_in tags each) ≡ unwrap_or (option_or found None) (ids_in tags each)
        either None = refl
        either (Some found) = refl

-- a tag that is not noted
pub no_key : {X : Type 0} (entries : List (Tag × X)) (tag : Tag) → list_any (tag_eq tag) (map (λ (entry : Tag × X). entry.0) entries) ≡ false
    → lookup (tag_eq tag) entries ≡ None
no_key [] tag none = refl
no_key {X} (entry ∷ entries) tag none = by (tag_eq tag entry.0) none (no_key entries tag)
  where
    by : (same : Bool) → (same || list_any (tag_eq tag) (map (λ (entry : Tag × X). entry.0) entries)) ≡ false
        → (list_any (tag_eq tag) (map (λ (entry : Tag × X). entry.0) entries) ≡ false → lookup (tag_eq tag) entries ≡ None)
        → cond same (Some entry.1) (lookup (tag_eq tag) entries) ≡ None
    by true none later = absurd (cc)
    by false none later = later none

-- the ids for it are those that are kept
pub over_rest : (over tags : List (Tag × List ItemId)) (tag : Tag) → list_any (tag_eq tag) (map (λ (entry : Tag × List ItemId). entry.0) over) ≡ false
    → ids_in tags tag ≡ ids_over over tags tag
over_rest over tags tag none = sym (ap (λ (found : Option (List ItemId)). unwrap_or found (ids_in tags tag)) (no_key over tag none))

-- ---- a tag more

-- a tag that is noted keeps its place
pub tags_kept : {X Y : Type 0} (image : Tag → Y) (entries : List (Tag × X)) (key : Tag) (value : X) → is_some (lookup (tag_eq key) entries) ≡ true
    → map (λ (entry : Tag × X). image entry.0) (insert_entry tag_eq entries key value) ≡ map (λ (entry : Tag × X). image entry.0) entries
tags_kept image [] key value there = absurd (cc)
tags_kept {X} {Y} image (first ∷ entries) key value there = by (tag_eq key first.0) there (tags_kept image entries key value)
  where
    by : (same : Bool) → is_some (cond same (Some first.1) (lookup (tag_eq key) entries)) ≡ true
        → (is_some (lookup (tag_eq key) entries) ≡ true
        → map (λ (entry : Tag × X). image entry.0) (insert_entry tag_eq entries key value) ≡ map (λ (entry : Tag × X). image entry.0) entries)
        → map (λ (entry : Tag × X). image entry.0) (cond same ((first.0, value) ∷ entries) (first ∷ insert_entry tag_eq entries key value))
        ≡ map (λ (entry : Tag × X). image entry.0) (first ∷ entries)
    by true there later = refl
    by false there later = ap (λ (rest : List Y). image first.0 ∷ rest) (later there)

-- one that is not goes behind the others
pub tags_more : {X Y : Type 0} (image : Tag → Y) (entries : List (Tag × X)) (key : Tag) (value : X) → lookup (tag_eq key) entries ≡ None
    → map (λ (entry : Tag × X). image entry.0) (insert_entry tag_eq entries key value) ≡ map (λ (entry : Tag × X). image entry.0) entries ++ image key ∷ []
tags_more image [] key value free = refl
tags_more {X} {Y} image (first ∷ entries) key value free = by (tag_eq key first.0) free (tags_more image entries key value)
  where
    by : (same : Bool) → cond same (Some first.1) (lookup (tag_eq key) entries) ≡ None
        → (lookup (tag_eq key) entries ≡ None
        → map (λ (entry : Tag × X). image entry.0) (insert_entry tag_eq entries key value)
        ≡ map (λ (entry : Tag × X). image entry.0) entries ++ image key ∷ [])
        → map (λ (entry : Tag × X). image entry.0) (cond same ((first.0, value) ∷ entries) (first ∷ insert_entry tag_eq entries key value))
        ≡ map (λ (entry : Tag × X). image entry.0) (first ∷ entries) ++ image key ∷ []
    by true free later = absurd (cc)
    by false free later = ap (λ (rest : List Y). image first.0 ∷ rest) (later free)

-- what is found then
pub found_then : {X : Type 0} (entries : List (Tag × X)) (key : Tag) (value : X) (each : Tag)
    → lookup (tag_eq each) (insert_entry tag_eq entries key value) ≡ cond (tag_eq each key) (Some value) (lookup (tag_eq each) entries)
found_then [] key value each = refl
found_then {X} (first ∷ entries) key value each = by (tag_eq key first.0) refl (tag_eq each first.0) refl (found_then entries key value each)
  where
    both : (b : Bool) → cond b (Some value) (lookup (tag_eq each) entries) ≡ cond b (Some value) (cond b (Some first.1) (lookup (tag_eq each) entries))
    both true = refl
    both false = refl

    by : (same : Bool) → tag_eq key first.0 ≡ same → (here : Bool) → tag_eq each first.0 ≡ here
        → lookup (tag_eq each) (insert_entry tag_eq entries key value) ≡ cond (tag_eq each key) (Some value) (lookup (tag_eq each) entries)
        → lookup (tag_eq each) (cond same ((first.0, value) ∷ entries) (first ∷ insert_entry tag_eq entries key value))
        ≡ cond (tag_eq each key) (Some value) (cond (tag_eq each first.0) (Some first.1) (lookup (tag_eq each) entries))
    by true same here is later =
        both (tag_eq each first.0)
        ∙ ap (λ (b : Bool). cond b (Some value) (cond (tag_eq each first.0) (Some first.1) (lookup (tag_eq each) entries)))
        (ap (tag_eq each) (sym (tag_same key first.0 same)))
    by false differs true is later =
        let other : tag_eq each key ≡ false = ap (λ (each : Tag). tag_eq each key) (tag_same each first.0 is) ∙ tag_swap first.0 key ∙ differs in
        ap (λ (b : Bool). cond b (Some first.1) (lookup (tag_eq each) (insert_entry tag_eq entries key value))) is
        ∙ sym (ap₂ (λ (one two : Bool). cond one (Some value) (cond two (Some first.1) (lookup (tag_eq each) entries))) other is)
    by false differs false is later =
        ap (λ (b : Bool). cond b (Some first.1) (lookup (tag_eq each) (insert_entry tag_eq entries key value))) is ∙ later
        ∙ ap (λ (b : Bool). cond (tag_eq each key) (Some value) (cond b (Some first.1) (lookup (tag_eq each) entries))) (sym is)

pub no_ids : (ids : List ItemId) → (length ids == 0) ≡ true → [] ≡ ids
no_ids [] none = refl
no_ids (id ∷ ids) none = let zero_is : length (id ∷ ids) ≡ 0 = eqb-true (length (id ∷ ids)) 0 none in absurd (omega (arith, zero_is))
