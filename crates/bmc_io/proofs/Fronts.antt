-- Fronts of bytes that go to a sink piece by piece.
use Rattle.std.proofs.Common.{◌≡◌, ℕ, ◌+◌, ◌-◌, List, [], ◌++◌, length, take, drop, refl, ap, sym, ◌∙◌, append_assoc, append-nil}
use Rattle.std.proofs.Math.Seq.{take-add}
use Rattle.std.proofs.lemmas.List.{take_rest, take-append-drop}
use Rattle.bmc_io.specs.Told.{Told, added}
use Rattle.bmc_io.specs.Sinks.{AppendsFront}
use Rattle.bmc_io.proofs.ToldLemmas.{added_more, added_none}

-- nothing is taken
pub front_none : (told : Told) (bytes : List ℕ) → AppendsFront told told bytes
front_none told bytes = record { front = []; rest = bytes; parts = refl; taken = sym (added_none told) }

-- all is taken
pub front_all : (old new : Told) (bytes : List ℕ) → new ≡ added old bytes → AppendsFront old new bytes
front_all old new bytes taken = record { front = bytes; rest = []; parts = sym (append-nil bytes); taken = taken }

-- what is done so far is a front of all
pub front_so_far : (old new : Told) (done rest all : List ℕ) → new ≡ added old done → all ≡ done ++ rest → AppendsFront old new all
front_so_far old new done rest all taken parts = record { front = done; rest = rest; parts = parts; taken = taken }

-- after what is done, a front of the bytes that follow
pub front_after : (old mid new : Told) (done bytes all rest : List ℕ)
    → mid ≡ added old done → AppendsFront mid new bytes → all ≡ done ++ (bytes ++ rest) → AppendsFront old new all
front_after old mid new done bytes all rest taken next parts = record {
  front = done ++ next.front;
  rest = next.rest ++ rest;
  parts =
      parts ∙ ap (λ (l : List ℕ). done ++ (l ++ rest)) next.parts
      ∙ ap (λ (l : List ℕ). done ++ l) (append_assoc next.front next.rest rest)
      ∙ sym (append_assoc done next.front (next.rest ++ rest));
  taken = next.taken ∙ ap (λ (told : Told). added told next.front) taken ∙ added_more old done next.front;
}

-- the first `done` bytes are taken, and no more follow
pub front_stopped : (old mid new : Told) (bytes : List ℕ) (done : ℕ) → mid ≡ added old (take done bytes) → new ≡ mid → AppendsFront old new bytes
front_stopped old mid new bytes done taken last =
    front_so_far old new (take done bytes) (drop done bytes) bytes (last ∙ taken) (sym (take-append-drop done bytes))

-- after the first `done` bytes, the next `n`
pub take_further : (old mid new : Told) (bytes : List ℕ) (done n : ℕ)
    → mid ≡ added old (take done bytes) → new ≡ added mid (take n (take (length bytes - done) (drop done bytes)))
    → new ≡ added old (take (done + n) bytes)
take_further old mid new bytes done n taken more =
    let further : take done bytes ++ take n (take (length bytes - done) (drop done bytes)) ≡ take (done + n) bytes =
    ap (λ rest. take done bytes ++ take n rest) (take_rest bytes done) ∙ sym (take-add done n bytes) in
    more ∙ ap (λ told. added told (take n (take (length bytes - done) (drop done bytes)))) taken ∙ added_more old _ _ ∙ ap (added old) further
