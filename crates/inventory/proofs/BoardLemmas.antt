-- Boards are told apart by their places.
use Rattle.std.proofs.Common.{◌≡◌, List, [], ◌∷◌, ◌++◌, Bool, true, false, not, cond, ◌&&◌, Option, Some, None, refl, sym, ap, ◌∙◌, arith, inl, inr}
use Rattle.std.specs.Option.{option_eq}
use Rattle.std.specs.List.{list_all}
use Rattle.std.specs.Ordering.{is_eq}
use Rattle.std.proofs.lemmas.Bool.{eq-eqb, eqb-true, or_cases, or_left, or_right}
use Rattle.std.proofs.lemmas.List.Folds.{list_any-append}
use Rattle.bmc_base.specs.Places.{Place, place_cmp, place_eq}
use Rattle.inventory.specs.Boards.{has_board}
use Rattle.inventory.specs.Indexes.{except}

pub and_both : (one other : Bool) → one ≡ true → other ≡ true → (one && other) ≡ true
and_both true other is_one is_other = is_other
and_both false other is_one is_other = is_one

pub and_first : (one other : Bool) → (one && other) ≡ true → one ≡ true
and_first true other both = refl
and_first false other both = both

pub and_second : (one other : Bool) → (one && other) ≡ true → other ≡ true
and_second true other both = both
and_second false other both = absurd (cc)

-- ---- places

-- a place is the same as itself
pub place_itself : (place : Place) → place_eq place place ≡ true
place_itself place = and_both _ _ (eq-eqb place.bus place.bus refl) (eq-eqb place.address place.address refl)

-- places that test alike are one
pub place_same : (place other : Place) → place_eq place other ≡ true → place ≡ other
place_same place other same =
    let bus : place.bus ≡ other.bus = eqb-true place.bus other.bus (and_first _ _ same) in
    let address : place.address ≡ other.address = eqb-true place.address other.address (and_second _ _ same) in
    λ i. record { bus = bus i; address = address i }

-- the order of places finds them equal where they are the same
pub place_cmp_eq : (place other : Place) → is_eq (place_cmp place other) ≡ place_eq place other
place_cmp_eq place other = grind (arith, eq-eqb, eqb-true)

-- ---- boards

pub board_itself : (place : Option Place) → option_eq place_eq place place ≡ true
board_itself None = refl
board_itself (Some place) = place_itself place

pub board_same : (place other : Option Place) → option_eq place_eq place other ≡ true → place ≡ other
board_same None None same = refl
board_same None (Some other) same = absurd (cc)
board_same (Some place) None same = absurd (cc)
board_same (Some place) (Some other) same = ap Some (place_same place other same)

-- boards are told apart either way round
pub board_swap : (place other : Option Place) → option_eq place_eq place other ≡ option_eq place_eq other place
board_swap place other = by (option_eq place_eq place other) refl (option_eq place_eq other place) refl
  where
    by : (b : Bool) → option_eq place_eq place other ≡ b → (a : Bool) → option_eq place_eq other place ≡ a → b ≡ a
    by true same true back = refl
    by true same false back =
        let here : place ≡ other = board_same place other same in
        absurd (let yes : option_eq place_eq other place ≡ true = ap (option_eq place_eq other) here ∙ board_itself other in cc)
    by false same true back =
        let here : other ≡ place = board_same other place back in
        absurd (let yes : option_eq place_eq place other ≡ true = ap (option_eq place_eq place) here ∙ board_itself place in cc)
    by false same false back = refl

-- a board in a list passes a test that all in it pass
pub all_pass : (test : Option Place → Bool) (boards : List (Option Place)) → list_all test boards ≡ true
    → (place : Option Place) → has_board boards place ≡ true → test place ≡ true
all_pass test [] all place has = absurd (cc)
all_pass test (board ∷ boards) all place has =
    elim (or_cases (option_eq place_eq place board) (has_board boards place) has) [
      | inl same ↦ ap test (board_same place board same) ∙ and_first _ _ all
      | inr later ↦ all_pass test boards (and_second _ _ all) place later
    ]

-- and the other way round
pub pass_all : (test : Option Place → Bool) (boards : List (Option Place)) → ((place : Option Place) → has_board boards place ≡ true → test place ≡ true)
    → list_all test boards ≡ true
pass_all test [] each = refl
pass_all test (board ∷ boards) each =
    and_both _ _ (each board (or_left _ _ (board_itself board))) (pass_all test boards (λ place later. each place (or_right _ _ later)))

-- nothing is left of boards that all pass
pub except_none : (test : Option Place → Bool) (boards : List (Option Place)) → list_all test boards ≡ true → except test boards ≡ []
except_none test [] all = refl
except_none test (board ∷ boards) all = by (test board) all (except_none test boards)
  where
    by : (passes : Bool) → (passes && list_all test boards) ≡ true → (list_all test boards ≡ true → except test boards ≡ [])
        → cond (not passes) (board ∷ except test boards) (except test boards) ≡ []
    by true all rest = rest all
    by false all rest = absurd (cc)

-- a board that does not pass is left
pub except_left : (test : Option Place → Bool) (boards : List (Option Place)) (place : Option Place) → has_board boards place ≡ true → test place ≡ false
    → has_board (except test boards) place ≡ true
except_left test [] place has fails = has
except_left test (board ∷ boards) place has fails =
    elim (or_cases (option_eq place_eq place board) (has_board boards place) has) [
      | inl same ↦ here (test board) (ap test (sym (board_same place board same)) ∙ fails) same
      | inr later ↦ there (test board) (except_left test boards place later fails)
    ]
  where
    with_first : Bool → List (Option Place)
    with_first passes = cond (not passes) (board ∷ except test boards) (except test boards)

    here : (passes : Bool) → passes ≡ false → option_eq place_eq place board ≡ true → has_board (with_first passes) place ≡ true
    here true fails same = absurd (cc)
    here false fails same = or_left _ _ same

    there : (passes : Bool) → has_board (except test boards) place ≡ true → has_board (with_first passes) place ≡ true
    there true rest = rest
    there false rest = or_right _ _ rest

-- all boards are kept where those that are new are added
pub kept_all : (kept boards : List (Option Place)) → list_all (has_board (kept ++ except (has_board kept) boards)) boards ≡ true
kept_all kept boards = pass_all _ boards (λ place has. by place (has_board kept place) refl has)
  where
    new : List (Option Place)
    new = except (has_board kept) boards

    by : (place : Option Place) (is_kept : Bool) → has_board kept place ≡ is_kept → has_board boards place ≡ true → has_board (kept ++ new) place ≡ true
    by place true is has = list_any-append (option_eq place_eq place) kept new ∙ or_left _ _ is
    by place false is has = list_any-append (option_eq place_eq place) kept new ∙ or_right _ _ (except_left (has_board kept) boards place has is)
