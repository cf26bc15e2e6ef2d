-- The laws of the lines.
use Rattle.std.proofs.Common.{◌≡◌, ◌⊎◌, inl, inr, ℕ, zero, suc, ◌+◌, ◌==◌, Bool, true, false, not, ◌&&◌, ◌||◌, List, [], ◌∷◌, fold}
use Rattle.std.proofs.Common.{length-append, add-one, refl, sym, ap, ap₂, ◌∙◌}
use Rattle.std.proofs.Math.Bool.{or-true}
use Rattle.std.proofs.lemmas.Bool.{eqb-true, eq-eqb}
use Rattle.std.proofs.lemmas.List.Sums.{fold-append}
use Rattle.std.specs.List.{list_any}
use Rattle.bmc_gen.specs.declared.line.Line.{Line}
use Rattle.bmc_gen.specs.declared.line.Line.TheVariants.{Plug, Unplug, LoseT, ReadT, ReadTach, Tick}
use Rattle.bmc_gen.specs.Lines.{occupied_behind, is_occupied}
use Rattle.bmc_gen.specs.Laws.{unplugs, IsPlugged, OccupiedWherePlugged, LinesAreCounted}
use Rattle.bmc_gen.specs.Scripts.{lines}

-- a FRU was there before the lines, and none of them unplugs it
abbrev Stays : Bool → List Line → ℕ → Type 0
Stays before lines address = (before ≡ true) × (list_any (unplugs address) lines ≡ false)

neither : (a b : Bool) → (a || b) ≡ false → (a ≡ false) × (b ≡ false)
neither true b e = absurd (cc)
neither false b e = (refl, e)

both : (a b : Bool) → (not a && b) ≡ true → (b ≡ true) × (a ≡ false)
both true b e = absurd (cc)
both false b e = (e, refl)

either : (a b : Bool) → (a || b) ≡ true → (a ≡ true) ⊎ (b ≡ true)
either true b e = inl refl
either false b e = inr e

-- a FRU is there behind a line where the line plugs it in, or where one was there and the line does not unplug it
by_line : (address : ℕ) (before : Bool) (line : Line) → occupied_behind address before line ≡ true
    → (line ≡ Plug address) ⊎ ((before ≡ true) × (unplugs address line ≡ false))
by_line address before (Plug other) e = elim (either (address == other) before e) [
  | inl same ↦ inl (ap Plug (sym (eqb-true address other same)))
  | inr kept ↦ inr (kept, refl)
]
by_line address before (Unplug other) e = inr (both (address == other) before e)
by_line address before LoseT e = inr (e, refl)
by_line address before (ReadT raw) e = inr (e, refl)
by_line address before (ReadTach raw) e = inr (e, refl)
by_line address before Tick e = inr (e, refl)

kept_by : (address : ℕ) (line : Line) (before : Bool) → before ≡ true → unplugs address line ≡ false → occupied_behind address before line ≡ true
kept_by address (Plug other) before was stays = ap (λ (b : Bool). address == other || b) was ∙ or-true (address == other)
kept_by address (Unplug other) before was stays = ap₂ (λ (a b : Bool). not a && b) stays was
kept_by address LoseT before was stays = was
kept_by address (ReadT raw) before was stays = was
kept_by address (ReadTach raw) before was stays = was
kept_by address Tick before was stays = was

plugged : (lines : List Line) (address : ℕ) (before : Bool) → fold (occupied_behind address) before lines ≡ true
    → Stays before lines address ⊎ IsPlugged lines address
plugged [] address before e = inl (e, refl)
plugged (line ∷ lines) address before e = elim (plugged lines address (occupied_behind address before line) e) [
  | inl stays ↦ elim (by_line address before line stays.0) [
    | inl here ↦ inr (record { earlier = []; later = lines; split = ap (λ (l : Line). l ∷ lines) here; stays = stays.1 })
    | inr was ↦ inl (was.0, ap (λ (b : Bool). b || list_any (unplugs address) lines) was.1 ∙ stays.1)
  ]
  | inr is ↦ inr (record {
    earlier = line ∷ is.earlier;
    later = is.later;
    split = ap (λ (all : List Line). line ∷ all) is.split;
    stays = is.stays;
  })
]

stays_occupied : (lines : List Line) (address : ℕ) (before : Bool) → before ≡ true → list_any (unplugs address) lines ≡ false
    → fold (occupied_behind address) before lines ≡ true
stays_occupied [] address before was none = was
stays_occupied (line ∷ lines) address before was none =
    let parts = neither (unplugs address line) (list_any (unplugs address) lines) none in
    stays_occupied lines address (occupied_behind address before line) (kept_by address line before was parts.0) parts.1

occupied : (lines : List Line) (address : ℕ) → IsPlugged lines address → is_occupied lines address ≡ true
occupied lines address is =
    ap (λ (all : List Line). is_occupied all address) is.split
    ∙ fold-append (occupied_behind address) false is.earlier (Plug address ∷ is.later)
    ∙ stays_occupied is.later address _ (ap (λ (b : Bool). b || is_occupied is.earlier address) (eq-eqb address address refl)) is.stays

plugged_first : (lines : List Line) (address : ℕ) → Stays false lines address ⊎ IsPlugged lines address → IsPlugged lines address
plugged_first lines address (inl stays) = absurd (cc)
plugged_first lines address (inr is) = is

pub occupied_where_plugged : OccupiedWherePlugged
occupied_where_plugged lines address = (λ e. plugged_first lines address (plugged lines address false e), occupied lines address)

pub lines_are_counted : LinesAreCounted
lines_are_counted seed zero = refl
lines_are_counted seed (suc n) = length-append (lines seed n) _ ∙ ap (λ (k : ℕ). k + 1) (lines_are_counted seed n) ∙ add-one n
