-- Banks of boxes that are not loaded.
use Rattle.std.proofs.Common.{◌≡◌, ℕ, zero, suc, ◌+◌, ◌*◌, ◌≤◌, Bool, List, [], ◌∷◌, ◌++◌, refl, ap, sym, subst, ◌∙◌, arith, cond}
use Rattle.std.proofs.Common.{map, replicate, ap₂, append_assoc}
use Rattle.std.specs.List.{All, count_by}
use Rattle.std.proofs.lemmas.List.{map-append, map_push, replicate_more}
use Rattle.std.proofs.lemmas.List.Elements.{All-append, All-replicate}
use Rattle.std.proofs.lemmas.List.Folds.{sum_by-replicate}
use Rattle.std.proofs.lemmas.List.Sums.{sum_by-append}
use Rattle.ctl_face.specs.Kinds.{kind_eq}
use Rattle.ctl_face.specs.Seen.{Seen, unloaded}
use Rattle.ctl_face.specs.declared.kind.Kind.{Kind}
use Rattle.ctl_face.specs.declared.kind.Kind.TheVariants.{Pid, Stepwise}
use Rattle.bmc_machine.specs.Banks.{most_controls}
use Rattle.bmc_core.specs.Cores.{IsStated}

-- a box more, of a kind
pub one_more : {B : Type 0} (see : B → Seen) (old new : List B) (box : B) (n : ℕ) (front : List Seen) (seen : Seen)
    → map see old ≡ front ++ replicate n seen → new ≡ old ++ box ∷ [] → see box ≡ seen → map see new ≡ front ++ replicate (n + 1) seen
one_more see old new box n front seen before more is =
    ap (map see) more ∙ map_push see old box ∙ ap (λ (last : Seen). map see old ++ last ∷ []) is
    ∙ ap (λ (all : List Seen). all ++ seen ∷ []) before ∙ append_assoc front (replicate n seen) (seen ∷ [])
    ∙ ap (λ (all : List Seen). front ++ all) (replicate_more n seen)

-- as many boxes for PID controllers, and then as many for stepwise ones
abbrev pub boxes : ℕ → ℕ → List Seen
boxes pids steps = replicate pids (unloaded Pid) ++ replicate steps (unloaded Stepwise)

kinds_are : (n : ℕ) (kind : Kind) → map (λ (seen : Seen). seen.kind) (replicate n (unloaded kind)) ≡ replicate n kind
kinds_are zero kind = refl
kinds_are (suc n) kind = ap (λ (rest : List Kind). kind ∷ rest) (kinds_are n kind)

-- how many of them are of a kind
counted : (kind : Kind) (pids steps : ℕ)
    → count_by (λ (each : Kind). kind_eq each kind) (map (λ (seen : Seen). seen.kind) (boxes pids steps))
    ≡ pids * cond (kind_eq Pid kind) 1 0 + steps * cond (kind_eq Stepwise kind) 1 0
counted kind pids steps =
    ap (count_by is) (map-append kind_of (replicate pids (unloaded Pid)) (replicate steps (unloaded Stepwise))
    ∙ ap₂ (λ (one other : List Kind). one ++ other) (kinds_are pids Pid) (kinds_are steps Stepwise))
    ∙ sum_by-append one (replicate pids Pid) (replicate steps Stepwise)
    ∙ ap₂ (λ (n m : ℕ). n + m) (sum_by-replicate one pids Pid) (sum_by-replicate one steps Stepwise)
  where
    is : Kind → Bool
    is each = kind_eq each kind

    one : Kind → ℕ
    one each = cond (is each) 1 0

    kind_of : Seen → Kind
    kind_of seen = seen.kind

-- a bank of 128 and 64 of them is the stated one
pub is_stated : (bank : List Seen) → bank ≡ boxes 128 64 → IsStated bank
is_stated bank is = subst IsStated (sym is) (record { enough = record { boxes = enough }; free = free })
  where
    enough : (kind : Kind) → most_controls kind ≤ count_by (λ (each : Kind). kind_eq each kind) (map (λ (seen : Seen). seen.kind) (boxes 128 64))
    enough Pid = let count = counted Pid 128 64 in omega (arith, count)
    enough Stepwise = let count = counted Stepwise 128 64 in omega (arith, count)

    IsFree : Seen → Type 0
    IsFree seen = seen ≡ unloaded seen.kind

    free : All (λ (seen : Seen). seen ≡ unloaded seen.kind) (boxes 128 64)
    free =
        All-append IsFree (replicate 128 (unloaded Pid)) (replicate 64 (unloaded Stepwise)) (All-replicate IsFree 128 (unloaded Pid) refl)
        (All-replicate IsFree 64 (unloaded Stepwise) refl)
