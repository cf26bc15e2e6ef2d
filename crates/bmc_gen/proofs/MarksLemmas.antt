-- The marks of the four places, one line on.
use Rattle.std.proofs.Common.{◌≡◌, ℕ, zero, suc, ◌+◌, ◌%◌, ◌<◌, Bool, true, false, not, List, [], ◌∷◌, ◌++◌, slice_set}
use Rattle.std.proofs.Common.{refl, sym, ap, ◌∙◌, arith}
use Rattle.std.proofs.lemmas.List.Sums.{fold_push}
use Rattle.bmc_gen.specs.declared.line.Line.{Line}
use Rattle.bmc_gen.specs.Lines.{occupied_behind, is_occupied, turn_by, turn, line_of}
use Rattle.bmc_gen.specs.Marks.{marks_of, mark_at, Follows}

abbrev four : Bool → Bool → Bool → Bool → List Bool
four a b c d = a ∷ b ∷ c ∷ d ∷ []

-- a line changes each mark by itself
abbrev behind : Bool → Bool → Bool → Bool → Line → List Bool
behind a b c d line = four (occupied_behind 80 a line) (occupied_behind 81 b line) (occupied_behind 82 c line) (occupied_behind 83 d line)

behind_marks : (earlier : List Line) (line : Line)
    → marks_of (earlier ++ line ∷ []) ≡ behind (is_occupied earlier 80) (is_occupied earlier 81) (is_occupied earlier 82) (is_occupied earlier 83) line
behind_marks earlier line = simp fold_push

-- a mark that is turned, with the other marks
turned : (a b c d : Bool) (nth : ℕ) → nth < 4
    → slice_set (four a b c d) nth (not (mark_at (four a b c d) nth)) ≡ behind a b c d (turn_by (mark_at (four a b c d) nth) (80 + nth))
turned true b c d zero low = refl
turned false b c d zero low = refl
turned a true c d (suc zero) low = refl
turned a false c d (suc zero) low = refl
turned a b true d (suc (suc zero)) low = refl
turned a b false d (suc (suc zero)) low = refl
turned a b c true (suc (suc (suc zero))) low = refl
turned a b c false (suc (suc (suc zero))) low = refl
turned a b c d (suc (suc (suc (suc nth)))) low = absurd (omega arith)

-- a mark is that of its address
mark_is : (earlier : List Line) (nth : ℕ) → nth < 4 → mark_at (marks_of earlier) nth ≡ is_occupied earlier (80 + nth)
mark_is earlier zero low = refl
mark_is earlier (suc zero) low = refl
mark_is earlier (suc (suc zero)) low = refl
mark_is earlier (suc (suc (suc zero))) low = refl
mark_is earlier (suc (suc (suc (suc nth)))) low = absurd (omega arith)

turned_marks : (earlier : List Line) (nth : ℕ) → nth < 4
    → slice_set (marks_of earlier) nth (not (mark_at (marks_of earlier) nth)) ≡ marks_of (earlier ++ turn earlier (80 + nth) ∷ [])
turned_marks earlier nth low =
    let a = is_occupied earlier 80 in
    let b = is_occupied earlier 81 in
    let c = is_occupied earlier 82 in
    let d = is_occupied earlier 83 in
    turned a b c d nth low
    ∙ ap (λ (mark : Bool). behind a b c d (turn_by mark (80 + nth))) (mark_is earlier nth low)
    ∙ sym (behind_marks earlier (turn earlier (80 + nth)))

-- a choice that 16 divides turns a place
turned_line : (earlier : List Line) (position choice : ℕ) → choice % 16 ≡ 0 → turn earlier (80 + position % 4) ≡ line_of earlier position choice
turned_line earlier position choice whole = rw whole refl

is_turn : (old : List Bool) (nth : ℕ) (line : Line) (earlier : List Line) → nth < 4 → line ≡ turn_by (mark_at old nth) (80 + nth) → old ≡ marks_of earlier
    → line ≡ turn earlier (80 + nth)
is_turn old nth line earlier low is marks =
    is
    ∙ ap (λ (old : List Bool). turn_by (mark_at old nth) (80 + nth)) marks
    ∙ ap (λ (mark : Bool). turn_by mark (80 + nth)) (mark_is earlier nth low)

pub turn_follows : (old new : List Bool) (position choice : ℕ) (line : Line) → choice % 16 ≡ 0
    → line ≡ turn_by (mark_at old (position % 4)) (80 + position % 4) → new ≡ slice_set old (position % 4) (not (mark_at old (position % 4)))
    → Follows old new position choice line
turn_follows old new position choice line whole is turns =
    let nth = position % 4 in
    let low : position % 4 < 4 = omega arith in
    record {
      next = λ earlier marks. is_turn old nth line earlier low is marks ∙ turned_line earlier position choice whole;
      marks = λ earlier marks.
          turns
          ∙ ap (λ (old : List Bool). slice_set old nth (not (mark_at old nth))) marks
          ∙ turned_marks earlier nth low
          ∙ ap (λ (line : Line). marks_of (earlier ++ line ∷ [])) (sym (is_turn old nth line earlier low is marks));
    }
