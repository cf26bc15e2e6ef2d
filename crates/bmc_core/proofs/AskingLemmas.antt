-- Which boards ask for sensors, and the lengths of names, noted one after another.
use Rattle.std.proofs.Common.{◌≡◌, ◌≢◌, ◌∙◌, ◌<◌, ℕ, List, [], ◌∷◌, Bool, true, false, bytes_eq, length, set, get_or, take, refl, sym, ap}
use Rattle.std.proofs.Common.{◌+◌, true≢false}
use Rattle.std.specs.List.{list_any}
use Rattle.std.specs.Cmp.Lexicographic.{bytes_decides}
use Rattle.std.proofs.lemmas.List.{get_or-set_same, get_or-set_other, take_more}
use Rattle.std.proofs.lemmas.List.Folds.{list_any-append}
use Rattle.bmc_report.specs.declared.change.Change.{Change}
use Rattle.bmc_report.specs.declared.change.Change.TheVariants as changes_of
use Rattle.bmc_report.specs.declared.live_kind.LiveKind.TheVariants as kinds
use Rattle.bmc_core.proofs.ActingLemmas.{or_none, or_both}
use Rattle.bmc_core.specs.Acting.{asks_by, asks_for_some, is_as_long, is_named, AreNoted, NotesLength}
use Rattle.cfg_json.specs.declared.item.Item.{Item}
use Rattle.cfg_json.specs.declared.item.ItemPart.{ItemPart}
use Rattle.cfg_json.specs.declared.item.ItemPart.TheVariants as parts
use Rattle.inventory.specs.Items.{has_control, is_control}

-- ---- what has no controller asks for nothing

no_ask : (changes : List Change) (part : ItemPart) → is_control part ≡ false → asks_by changes part ≡ false
no_ask changes (parts.Control control) none = absurd (true≢false none)
no_ask changes (parts.Sensor sensor) none = refl
no_ask changes (parts.Zone setting) none = refl
no_ask changes parts.Fan none = refl
no_ask changes (parts.Mux mux) none = refl
no_ask changes parts.Passive none = refl

pub none_ask : (changes : List Change) (items : List Item) → has_control items ≡ false → list_any (asks_for_some changes) items ≡ false
none_ask changes [] none = refl
none_ask changes (item ∷ items) none =
    let both = or_none (is_control item.part) (has_control items) none in
    or_both _ _ (no_ask changes item.part both.0) (none_ask changes items both.1)

-- ---- lengths

-- a name that is not as long as one that is noted has another length than the last of these
other_length : (lengths : List Bool) (name one : List ℕ) → length name < length lengths → is_as_long (set lengths (length name) true) one ≡ false
    → length one ≢ length name
other_length lengths name one within none =
    λ same. true≢false (sym (get_or-set_same lengths (length name) true false within)
    ∙ (ap (λ (n : ℕ). get_or (set lengths (length name) true) n false) (sym same) ∙ none))

-- and names of different lengths differ
not_named : (name one : List ℕ) → length one ≢ length name → bytes_eq name one ≡ false
not_named name one other = of (bytes_eq name one) refl
  where
    of : (is : Bool) → bytes_eq name one ≡ is → is ≡ false
    of false is = refl
    of true is = absurd (other (sym (ap length ((bytes_decides name one).0 is))))

pub sensor_noted : (lengths : List Bool) (gone : Bool) (name : List ℕ) → length name < length lengths
    → NotesLength lengths (changes_of.Item gone kinds.Sensor name) (set lengths (length name) true)
sensor_noted lengths gone name within [] none = (refl, refl)
sensor_noted lengths gone name within (one ∷ names) none =
    let both = or_none (is_as_long (set lengths (length name) true) one) (list_any (is_as_long (set lengths (length name) true)) names) none in
    let later = sensor_noted lengths gone name within names both.1 in
    let other = other_length lengths name one within both.0 in (
      or_both _ _ (sym (get_or-set_other lengths (length name) (length one) true false other) ∙ both.0) later.0,
      or_both _ _ (not_named name one other) later.1,
    )

-- with one change more, all are noted
pub noted_more : (changes : List Change) (at : ℕ) (change : Change) (old new : List Bool) → at < length changes → change ≡ get_or changes at change
    → AreNoted old (take at changes) → NotesLength old change new → AreNoted new (take (at + 1) changes)
noted_more changes at change old new within is noted notes =
    λ names none.
    let both = notes names none in
    ap (list_any (is_named names)) (take_more changes at change within)
    ∙ list_any-append (is_named names) (take at changes) (get_or changes at change ∷ [])
    ∙ or_both _ _ (noted names both.0) (or_both _ _ (ap (is_named names) (sym is) ∙ both.1) refl)
