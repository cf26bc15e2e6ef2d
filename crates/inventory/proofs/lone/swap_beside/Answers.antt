use Rattle.std.proofs.Common.{◌≡◌, ◌∙◌, ℕ, Bool, true, false, List, [], ◌∷◌, ◌++◌, sym, ap}
use Rattle.bmc_base.specs.Places.{Place}
use Rattle.inventory.specs.declared.board.BoardKey.{BoardKey}
use Rattle.inventory.specs.Boards.{places_or_none}
use Rattle.inventory.specs.Moments.{left}
use Rattle.inventory.proofs.LoneLemmas.{none_gone, none_new, all_gone, all_new, first_gone, first_new, later_gone, later_new}
use Rattle.inventory.proofs.lone.swap_beside.Goals as goal

-- a key alone
alone : (one other : BoardKey) (keys : List BoardKey) → one ≡ other → other ∷ [] ≡ keys → one ∷ [] ≡ keys
alone one other keys same rest = ap (λ (key : BoardKey). key ∷ []) same ∙ rest

-- as the flag says
gone_as : (match_one flag : Bool) → match_one ≡ flag → (number : ℕ) (place : Place) (front back : List Place) (keys : List BoardKey)
    → keys ≡ left number (places_or_none flag (front ++ back)) (places_or_none flag (front ++ place ∷ back))
    → keys ≡ left number (places_or_none match_one (front ++ back)) (places_or_none match_one (front ++ place ∷ back))
gone_as match_one flag is number place front back keys e =
    e ∙ ap (λ (flag : Bool). left number (places_or_none flag (front ++ back)) (places_or_none flag (front ++ place ∷ back))) (sym is)

new_as : (match_one flag : Bool) → match_one ≡ flag → (number : ℕ) (place : Place) (front back : List Place) (keys : List BoardKey)
    → keys ≡ left number (places_or_none flag (front ++ place ∷ back)) (places_or_none flag (front ++ back))
    → keys ≡ left number (places_or_none match_one (front ++ place ∷ back)) (places_or_none match_one (front ++ back))
new_as match_one flag is number place front back keys e =
    e ∙ ap (λ (flag : Bool). left number (places_or_none flag (front ++ place ∷ back)) (places_or_none flag (front ++ back))) (sym is)

pub returns-in_default-clause-gone : goal.returns-in_default-clause-gone
returns-in_default-clause-gone c =
    λ front back beside is.
    alone _ _ _ c.key_of-in_default.ensures (none_gone c.args.match_one c.args.number c.args.place front back (sym c.in_default.is ∙ is))

pub returns-in_default-clause-new : goal.returns-in_default-clause-new
returns-in_default-clause-new c =
    λ front back beside is. alone _ _ _ c.key_of.ensures (none_new c.args.match_one c.args.number c.args.place front back (sym c.in_default.is ∙ is))

pub returns-then-not-match_one-clause-gone : goal.returns-then-not-match_one-clause-gone
returns-then-not-match_one-clause-gone c =
    λ front back beside is. gone_as c.args.match_one false c.if-not-match_one.true c.args.number c.args.place front back _
    (all_gone c.args.number c.args.place front back beside c.in-Some.other (sym c.in-Some.is ∙ is))

pub returns-then-not-match_one-clause-new : goal.returns-then-not-match_one-clause-new
returns-then-not-match_one-clause-new c =
    λ front back beside is. new_as c.args.match_one false c.if-not-match_one.true c.args.number c.args.place front back _
    (alone _ _ _ c.key_of.ensures (all_new c.args.number c.args.place front back beside c.in-Some.other (sym c.in-Some.is ∙ is)))

pub returns-then-is_before-clause-gone : goal.returns-then-is_before-clause-gone
returns-then-is_before-clause-gone c =
    λ front back beside is. gone_as c.args.match_one true c.if-not-match_one.false c.args.number c.args.place front back _
    (alone _ _ _ c.key_of-then-is_before.ensures (first_gone c.args.number c.args.place front back c.in-Some.other beside (sym c.in-Some.is ∙ is)
    (sym c.is_before.ensures ∙ c.if-is_before.true)))

pub returns-then-is_before-clause-new : goal.returns-then-is_before-clause-new
returns-then-is_before-clause-new c =
    λ front back beside is. new_as c.args.match_one true c.if-not-match_one.false c.args.number c.args.place front back _
    (alone _ _ _ c.key_of.ensures (first_new c.args.number c.args.place front back c.in-Some.other beside (sym c.in-Some.is ∙ is)
    (sym c.is_before.ensures ∙ c.if-is_before.true)))

pub returns-clause-gone : goal.returns-clause-gone
returns-clause-gone c =
    λ front back beside is. gone_as c.args.match_one true c.if-not-match_one.false c.args.number c.args.place front back _
    (later_gone c.args.number c.args.place front back c.in-Some.other beside (sym c.in-Some.is ∙ is) (sym c.is_before.ensures ∙ c.if-is_before.false))

pub returns-clause-new : goal.returns-clause-new
returns-clause-new c =
    λ front back beside is. new_as c.args.match_one true c.if-not-match_one.false c.args.number c.args.place front back _
    (later_new c.args.number c.args.place front back c.in-Some.other beside (sym c.in-Some.is ∙ is) (sym c.is_before.ensures ∙ c.if-is_before.false))
