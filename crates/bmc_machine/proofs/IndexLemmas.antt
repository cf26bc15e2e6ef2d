-- The boards that a configuration ever had, and their indexes.
use Rattle.std.proofs.Common.{◌≡◌, ℕ, ◌+◌, List, [], ◌∷◌, ◌++◌, Bool, true, false, not, cond, ◌&&◌, ◌||◌, Option, refl, sym, ap, ◌∙◌, arith, append-nil}
use Rattle.std.specs.Option.{option_eq}
use Rattle.std.specs.List.{list_all, list_any, position_or_len}
use Rattle.std.proofs.lemmas.Bool.{or_right}
use Rattle.std.proofs.lemmas.List.Folds.{list_any-append}
use Rattle.std.proofs.lemmas.Map.Views.{any-filter_same}
use Rattle.bmc_base.specs.Places.{Place, place_eq}
use Rattle.inventory.specs.Boards.{board_places, boards_in, has_board}
use Rattle.inventory.specs.Indexes.{except, index_in}
use Rattle.bmc_machine.specs.Standings.{Standing}
use Rattle.bmc_machine.specs.Boards.{boards}
use Rattle.bmc_machine.specs.Histories.{Step, standing}
use Rattle.bmc_machine.specs.Indexes.{had_board, kept}
use Rattle.bmc_machine.specs.Meetings.{position_of}
use Rattle.inventory.proofs.BoardLemmas.{board_same, kept_all, except_none}

-- ---- what is kept

-- among boards except those that pass a test, a board is one that does not
any_except : (test : Option Place → Bool) (boards : List (Option Place)) (place : Option Place)
    → has_board (except test boards) place ≡ (not (test place) && has_board boards place)
any_except test boards place =
    any-filter_same (option_eq place_eq place) (λ board. not (test board)) (not (test place))
    (λ board same. ap (λ (it : Option Place). not (test it)) (sym (board_same place board same))) boards

either : (before now : Bool) → (before || (not before && now)) ≡ (now || before)
either true true = refl
either true false = refl
either false true = refl
either false false = refl

-- the boards that are kept are those that ever were
pub kept_had : (past : List Step) (number : ℕ) (place : Option Place) → has_board (kept past number) place ≡ had_board past number place
unfolding kept
kept_had [] number place = refl
kept_had (step ∷ past) number place =
    list_any-append (option_eq place_eq place) (kept past number) _
    ∙ ap (λ (is_kept : Bool). is_kept || has_board (except (had_board past number) now) place) (kept_had past number place)
    ∙ ap (λ (is_new : Bool). had_board past number place || is_new) (any_except (had_board past number) now place)
    ∙ either (had_board past number place) (has_board now place)
  where
    now : List (Option Place)
    now = boards (standing (step ∷ past)) number

-- with a step more, those are added that are not there yet
pub kept_next : (step : Step) (past : List Step) (number : ℕ)
    → kept (step ∷ past) number ≡ kept past number ++ except (has_board (kept past number)) (boards (standing (step ∷ past)) number)
unfolding kept
kept_next step past number =
    ap (λ (test : Option Place → Bool). kept past number ++ except test (boards (standing (step ∷ past)) number)) (sym tests)
  where
    tests : has_board (kept past number) ≡ had_board past number
    tests = λ i place. kept_had past number place i

-- all boards of the moment after a history are kept
pub kept_now : (past : List Step) (number : ℕ) → list_all (has_board (kept past number)) (boards (standing past) number) ≡ true
unfolding standing boards boards_in board_places
kept_now [] number = refl
kept_now (step ∷ past) number =
    ap (λ (there : List (Option Place)). list_all (has_board there) (boards (standing (step ∷ past)) number)) (kept_next step past number)
    ∙ kept_all (kept past number) (boards (standing (step ∷ past)) number)

-- a step that leaves the moment as it is leaves all that is kept
pub kept_idle : (step : Step) (past : List Step) (number : ℕ) → standing (step ∷ past) ≡ standing past → kept (step ∷ past) number ≡ kept past number
kept_idle step past number same =
    kept_next step past number
    ∙ ap (λ (now : Standing). kept past number ++ except (has_board (kept past number)) (boards now number)) same
    ∙ ap (λ (new : List (Option Place)). kept past number ++ new)
    (except_none (has_board (kept past number)) (boards (standing past) number) (kept_now past number))
    ∙ append-nil (kept past number)

-- ---- indexes

-- a board that is there keeps its position where others are added
pub position_front : (test : Option Place → Bool) (there more : List (Option Place)) → list_any test there ≡ true
    → position_or_len test (there ++ more) ≡ position_or_len test there
position_front test [] more any = absurd (cc)
position_front test (board ∷ there) more any = by (test board) any (position_front test there more)
  where
    by : (passes : Bool) → (passes || list_any test there) ≡ true
        → (list_any test there ≡ true → position_or_len test (there ++ more) ≡ position_or_len test there)
        → cond (not passes) (1 + position_or_len test (there ++ more)) 0 ≡ cond (not passes) (1 + position_or_len test there) 0
    by true any rest = refl
    by false any rest = ap (λ (n : ℕ). 1 + n) (rest any)

had_more : (more past : List Step) (number : ℕ) (place : Option Place) → had_board past number place ≡ true → had_board (more ++ past) number place ≡ true
had_more [] past number place had = had
had_more (step ∷ more) past number place had = or_right _ _ (had_more more past number place had)

-- the index stays whatever follows
pub index_stays : (more past : List Step) (number : ℕ) (place : Option Place) → had_board past number place ≡ true
    → index_in (kept (more ++ past) number) place ≡ index_in (kept past number) place
index_stays [] past number place had = refl
index_stays (step ∷ more) past number place had =
    ap (λ (boards : List (Option Place)). index_in boards place) (kept_next step (more ++ past) number)
    ∙ ap (λ (n : ℕ). n + 1) (position_front (option_eq place_eq place) (kept (more ++ past) number) _ is_kept)
    ∙ index_stays more past number place had
  where
    is_kept : has_board (kept (more ++ past) number) place ≡ true
    is_kept = kept_had (more ++ past) number place ∙ had_more more past number place had

-- boards of one position are one
pub same_position : (there : List (Option Place)) (place other : Option Place) → has_board there place ≡ true → has_board there other ≡ true
    → position_of place there ≡ position_of other there → place ≡ other
same_position [] place other has has_other same = absurd (cc)
same_position (board ∷ there) place other has has_other same =
    by (option_eq place_eq place board) (option_eq place_eq other board) refl refl has has_other same (same_position there place other)
  where
    -- the position, by whether the board is the first
    position : Bool → Option Place → ℕ
    position is_first it = cond (not is_first) (1 + position_of it there) 0

    by : (one two : Bool) → option_eq place_eq place board ≡ one → option_eq place_eq other board ≡ two
        → (one || has_board there place) ≡ true → (two || has_board there other) ≡ true → position one place ≡ position two other
        → (has_board there place ≡ true → has_board there other ≡ true → position_of place there ≡ position_of other there → place ≡ other)
        → place ≡ other
    by true true is is_other has has_other same rest = board_same place board is ∙ sym (board_same other board is_other)
    by true false is is_other has has_other same rest = absurd (omega (arith, same))
    by false true is is_other has has_other same rest = absurd (omega (arith, same))
    by false false is is_other has has_other same rest = rest has has_other (omega (arith, same))

-- and so are boards of one index
pub same_index : (past : List Step) (number : ℕ) (place other : Option Place) → had_board past number place ≡ true → had_board past number other ≡ true
    → index_in (kept past number) place ≡ index_in (kept past number) other → place ≡ other
same_index past number place other had had_other same =
    let position : position_of place (kept past number) ≡ position_of other (kept past number) = omega (arith, same) in
    same_position (kept past number) place other (kept_had past number place ∙ had) (kept_had past number other ∙ had_other) position
