-- Lists of a document: their elements, their lengths, and reading each in turn.
use Rattle.std.specs.Prelude.{⊤}
use Rattle.std.proofs.Common.{◌≡◌, ◌&&◌, ℕ, List, [], ◌∷◌, ◌++◌, ◌+◌, ◌<◌, length, drop, get_or, map, nat_le, if◌then◌else◌, true, false, Result}
use Rattle.std.proofs.Common.{Ok, Err, refl, sym, ap, ◌∙◌, append_assoc}
use Rattle.std.proofs.lemmas.List.{length-map, drop_more}
use Rattle.serde_json.specs.Data.{Data}
use Rattle.serde_json.proofs.Views.{view-Array}
use Rattle.serde_json.specs.declared.value.Value.TheVariants.{Array}
use Rattle.std.specs.Global.{Vec}
use Rattle.serde_json.specs.View.{items_of, view}
use Rattle.serde_json.specs.declared.value.Value.{Value}
use Rattle.cfg_json.specs.declared.config_fault.ConfigFault.{ConfigFault}
use Rattle.cfg_json.specs.declared.config_fault.ConfigFault.TheVariants.{OutOfRange}
use Rattle.cfg_json.specs.Values.{◌>>=◌, list_of, list_within, each}

-- the items of a list are its elements
pub list_of_items : (elements : List Data) → list_of (items_of elements) ≡ elements
list_of_items [] = refl
list_of_items (element ∷ elements) = ap (λ later. element ∷ later) (list_of_items elements)

-- the elements of a list whose length was checked
pub list_checked : (least most : ℕ) (value : Value) (items : Vec Value) (elements : List Value) (checked : Result ⊤ ConfigFault) → value ≡ Array items
    → elements ≡ items.items → checked ≡ (if nat_le least (length elements) && nat_le (length elements) most then Ok tt else Err OutOfRange)
    → list_within least most (view value) ≡ (checked >>= λ _. Ok (map view elements))
list_checked least most value items elements checked e same length_checked =
    rw (e, view-Array items, list_of_items (map view items.items), ← same, length-map elements view, length_checked)
    (elim (nat_le least (length elements) && nat_le (length elements) most)
    as (λ fits. (if fits then Ok (map view elements) else Err OutOfRange) ≡ ((if fits then Ok tt else Err OutOfRange) >>= λ _. Ok (map view elements)))
    [ true ↦ refl | false ↦ refl ])

-- what was read so far, and what reading the rest gives
abbrev pub after : {B : Type 0} → List B → Result (List B) ConfigFault → Result (List B) ConfigFault
after so_far rest = rest >>= λ later. Ok (so_far ++ later)

-- reading an element more
pub each_more : {B : Type 0} (read : Data → Result B ConfigFault) (items : List Value) (i : ℕ) (item : Value) (made : B) → i < length items
    → item ≡ get_or items i item → read (view item) ≡ Ok made
    → each read (map view (drop i items)) ≡ (each read (map view (drop (i + 1) items)) >>= λ later. Ok (made ∷ later))
each_more read items i item made less here reads =
    let parts : drop i items ≡ item ∷ drop (i + 1) items =
    drop_more items i item less ∙ ap (λ (first : Value). first ∷ drop (i + 1) items) (sym here) in
    rw (parts, reads) refl

pub after_more : {B : Type 0} (read : Data → Result B ConfigFault) (items : List Value) (i : ℕ) (item : Value) (made : B) (so_far now : List B)
    → i < length items → item ≡ get_or items i item → read (view item) ≡ Ok made → now ≡ so_far ++ made ∷ []
    → after now (each read (map view (drop (i + 1) items))) ≡ after so_far (each read (map view (drop i items)))
after_more {B = B} read items i item made so_far now less here reads is =
    by (each read (map view (drop (i + 1) items))) ∙ ap (after so_far) (sym (each_more read items i item made less here reads))
  where
    by : (rest : Result (List B) ConfigFault) → after now rest ≡ after so_far (rest >>= λ later. Ok (made ∷ later))
    by (Ok later) = ap Ok (ap (λ (front : List B). front ++ later) is ∙ append_assoc so_far (made ∷ []) later)
    by (Err fault) = refl
