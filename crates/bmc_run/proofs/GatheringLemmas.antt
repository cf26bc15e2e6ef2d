-- Text that is gathered and written.
use Rattle.std.proofs.Common.{◌≡◌, ◌<◌, ◌+◌, ℕ, suc, List, [], ◌∷◌, ◌++◌, length, drop, get_or, refl, ap, ap₂, sym, subst, ◌∙◌, arith}
use Rattle.std.proofs.Common.{append_assoc, append-nil}
use Rattle.std.specs.List.{flat_map}
use Rattle.std.proofs.Math.Seq.{drop-cons}
use Rattle.std.proofs.lemmas.Grind.{flat_map-append}
use Rattle.bmc_io.specs.Told.{Told, added}
use Rattle.bmc_io.specs.Sinks.{AppendsFront}
use Rattle.bmc_io.proofs.ToldLemmas.{added_none, added_more}
use Rattle.bmc_io.proofs.Fronts.{front_so_far, front_after}
use Rattle.bmc_run.specs.Gathering.{Gathers}

-- nothing was added and nothing written
pub gathers_nothing : (told : Told) (text : List ℕ) → Gathers told told text text []
gathers_nothing told text = record { written = []; told = sym (added_none told); parts = sym (append-nil text) }

-- all that was gathered is written
pub gathers_flushed : (old new : Told) (text rest : List ℕ) → new ≡ added old text → rest ≡ [] → Gathers old new text rest []
gathers_flushed old new text rest wrote none = record { written = text; told = wrote; parts = ap (λ (rest : List ℕ). text ++ rest) none }

-- more is added and then, perhaps, written
pub gathers_more : (old mid new : Told) (text held grown left added_first more : List ℕ)
    → Gathers old mid text held added_first → grown ≡ held ++ more → Gathers mid new grown left [] → Gathers old new text left (added_first ++ more)
gathers_more old mid new text held grown left added_first more first grows next = record {
  written = first.written ++ next.written;
  told = next.told ∙ ap (λ (told : Told). added told next.written) first.told ∙ added_more old first.written next.written;
  parts =
      append_assoc first.written next.written left ∙ ap (λ (rest : List ℕ). first.written ++ rest) (next.parts ∙ append-nil grown ∙ grows)
      ∙ sym (append_assoc first.written held more) ∙ ap (λ (front : List ℕ). front ++ more) first.parts ∙ append_assoc text added_first more;
}

-- what was written so far is a front of all that is to be
pub gathers_front : (old new : Told) (text held added_first more : List ℕ) → Gathers old new text held added_first
    → AppendsFront old new (text ++ (added_first ++ more))
gathers_front old new text held added_first more gathers =
    front_so_far old new gathers.written (held ++ more) (text ++ (added_first ++ more)) gathers.told
    (sym (append_assoc text added_first more) ∙ ap (λ (front : List ℕ). front ++ more) (sym gathers.parts) ∙ append_assoc gathers.written held more)

-- and so it is where a write of what was gathered stops
pub gathers_stopped : (old mid new : Told) (text held grown added_first next more : List ℕ)
    → Gathers old mid text held added_first → grown ≡ held ++ next → AppendsFront mid new grown → AppendsFront old new (text ++ (added_first ++ (next ++ more)))
gathers_stopped old mid new text held grown added_first next more gathers grows front =
    front_after old mid new gathers.written grown (text ++ (added_first ++ (next ++ more))) more gathers.told front
    (sym (append_assoc text added_first (next ++ more)) ∙ ap (λ (whole : List ℕ). whole ++ (next ++ more)) (sym gathers.parts)
    ∙ append_assoc gathers.written held (next ++ more)
    ∙ ap (λ (rest : List ℕ). gathers.written ++ rest) (sym (append_assoc held next more) ∙ ap (λ (whole : List ℕ). whole ++ more) (sym grows)))

-- a write of what is gathered stops, after which nothing is to follow
pub gathers_cut : (old mid new : Told) (text held added_first : List ℕ) → Gathers old mid text held added_first → AppendsFront mid new held
    → AppendsFront old new (text ++ added_first)
gathers_cut old mid new text held added_first gathers front =
    front_after old mid new gathers.written held (text ++ added_first) [] gathers.told front
    (sym gathers.parts ∙ ap (λ (rest : List ℕ). gathers.written ++ rest) (sym (append-nil held)))

-- text is added, and nothing written
pub gathers_grown : (told : Told) (text grown more : List ℕ) → grown ≡ text ++ more → Gathers told told text grown more
gathers_grown told text grown more grows = record { written = []; told = sym (added_none told); parts = grows }

-- all that was added is written, or gathered still
pub gathers_on : (old mid new : Told) (text held left more : List ℕ) → Gathers old mid text held more → Gathers mid new held left []
    → Gathers old new (text ++ more) left []
gathers_on old mid new text held left more first next =
    let both = gathers_more old mid new text held held left more [] first (sym (append-nil held)) next in
    record { written = both.written; told = both.told; parts = both.parts ∙ sym (append_assoc text more []) }

-- ---- the rows of elements

module _ {X : Type 0} (row : X → List ℕ) where
  -- of all elements the rows of those at the front are gathered, and these are left
  pub record GathersFront (old new : Told) (text held : List ℕ) (all rest : List X) : Type 0 where
    pub done : List X
    pub split : all ≡ done ++ rest
    pub rows : Gathers old new text held (flat_map row done)

  pub rows_none : (told : Told) (text : List ℕ) (all : List X) → GathersFront told told text text all all
  rows_none told text all = record { done = []; split = refl; rows = gathers_nothing told text }

  -- a row more
  pub rows_more : (old mid new : Told) (text held grown left : List ℕ) (all rest later : List X) (x : X)
      → GathersFront old mid text held all rest → rest ≡ x ∷ later → grown ≡ held ++ row x → Gathers mid new grown left []
      → GathersFront old new text left all later
  rows_more old mid new text held grown left all rest later x front next grows gathers = record {
    done = front.done ++ x ∷ [];
    split = front.split ∙ ap (λ (rest : List X). front.done ++ rest) next ∙ sym (append_assoc front.done (x ∷ []) later);
    rows =
        subst (λ (rows : List ℕ). Gathers old new text left rows) (sym (flat_map-append row front.done (x ∷ [])
        ∙ ap (λ (rows : List ℕ). flat_map row front.done ++ rows) (append-nil (row x))))
        (gathers_more old mid new text held grown left (flat_map row front.done) (row x) front.rows grows gathers);
  }

  -- none is left
  pub rows_all : (old new : Told) (text held : List ℕ) (all rest : List X) → GathersFront old new text held all rest → rest ≡ []
      → Gathers old new text held (flat_map row all)
  rows_all old new text held all rest front none =
      subst (λ (xs : List X). Gathers old new text held (flat_map row xs))
      (sym (front.split ∙ ap (λ (rest : List X). front.done ++ rest) none ∙ append-nil front.done)) front.rows

  -- all rows, by those that are gathered
  rows_split : (all done rest : List X) → all ≡ done ++ rest → flat_map row all ≡ flat_map row done ++ flat_map row rest
  rows_split all done rest split = ap (flat_map row) split ∙ flat_map-append row done rest

  -- it stops before a row
  pub rows_front : (old new : Told) (text held : List ℕ) (all rest : List X) → GathersFront old new text held all rest
      → AppendsFront old new (text ++ flat_map row all)
  rows_front old new text held all rest front =
      rw (rows_split all front.done rest front.split) (gathers_front old new text held (flat_map row front.done) (flat_map row rest) front.rows)

  -- it stops where a row was gathered
  pub rows_stopped : (old mid new : Told) (text held grown : List ℕ) (all rest later : List X) (x : X) → GathersFront old mid text held all rest
      → rest ≡ x ∷ later → grown ≡ held ++ row x → AppendsFront mid new grown → AppendsFront old new (text ++ flat_map row all)
  rows_stopped old mid new text held grown all rest later x front next grows stops =
      rw (rows_split all front.done rest front.split ∙ ap (λ (rest : List X). flat_map row front.done ++ flat_map row rest) next)
      (gathers_stopped old mid new text held grown (flat_map row front.done) (row x) (flat_map row later) front.rows grows stops)

-- what is left at a position
pub left_at : {X : Type 0} (xs : List X) (i : ℕ) (x : X) → i < length xs → x ≡ get_or xs i x → drop i xs ≡ x ∷ drop (i + 1) xs
left_at {X} xs i x within at =
    drop-cons xs i x within ∙ ap₂ (λ (first : X) (n : ℕ). first ∷ drop n xs) (sym at) next
  where
    next : suc i ≡ i + 1
    next = omega arith
