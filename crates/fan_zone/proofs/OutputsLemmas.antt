-- The outputs beside the boxes, one box on.
use Rattle.std.proofs.Common.{◌≡◌, ℕ, ℤ, List, ◌++◌, [], ◌∷◌, ◌+◌, ◌<◌, length, take, map, set, get_or, Option, ap, sym, ◌∙◌}
use Rattle.std.proofs.lemmas.List.{map-set, map-append, take_more}
use Rattle.ctl_face.specs.Seen.{Seen}
use Rattle.fan_zone.specs.Boxes.{output_in, outputs_of}

-- a box is another one, and so is its output
pub outputs_set : {C : Type 0} (seen : C → Seen) (boxes : List C) (outputs : List (Option ℤ)) (number : ℕ) (new : C) (output : Option ℤ)
    → outputs ≡ outputs_of (map seen boxes) → (seen new).state.output ≡ output
    → set outputs number output ≡ outputs_of (map seen (set boxes number new))
outputs_set seen boxes outputs number new output are is =
    ap (set outputs number) (sym is)
    ∙ (ap (λ (before : List (Option ℤ)). set before number (output_in (seen new))) are
    ∙ (sym (map-set output_in (map seen boxes) number (seen new)) ∙ sym (ap outputs_of (map-set seen boxes number new))))

-- one more box, and its output
pub outputs_more : {C : Type 0} (seen : C → Seen) (boxes : List C) (outputs : List (Option ℤ)) (number : ℕ) (one : C) (output : Option ℤ)
    → number < length boxes → one ≡ get_or boxes number one → outputs ≡ outputs_of (map seen (take number boxes)) → (seen one).state.output ≡ output
    → outputs ++ output ∷ [] ≡ outputs_of (map seen (take (number + 1) boxes))
outputs_more {C} seen boxes outputs number one output lt at are is =
    let seen_of = λ (items : List C). outputs_of (map seen items) in
    let next : take (number + 1) boxes ≡ take number boxes ++ one ∷ [] =
    take_more boxes number one lt ∙ ap (λ (each : C). take number boxes ++ each ∷ []) (sym at) in
    let split : seen_of (take number boxes ++ one ∷ []) ≡ seen_of (take number boxes) ++ output_in (seen one) ∷ [] =
    ap outputs_of (map-append seen (take number boxes) (one ∷ []))
    ∙ map-append output_in (map seen (take number boxes)) (seen one ∷ []) in
    ap (λ (each : Option ℤ). outputs ++ each ∷ []) (sym is)
    ∙ (ap (λ (before : List (Option ℤ)). before ++ output_in (seen one) ∷ []) are ∙ (sym split ∙ sym (ap seen_of next)))
