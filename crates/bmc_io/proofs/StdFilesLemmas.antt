-- Lemmas on bytes that are gathered from a reader.
use Rattle.std.proofs.Common.{◌≡◌, ℕ, ◌<◌, List, ◌++◌, length, Option, Some, None, IfSome, sym, ap, ◌∙◌, append-nil, length-append, arith}
use Rattle.std.proofs.KnownBytes.{Consumes-trans, starts_with_rest}
use Rattle.std.specs.Io.{StartsWith, appended_bytes}
use Rattle.std.specs.Io.KnownBytes.{Consumes, IsAtEnd}

-- what is gathered, and then what is appended to it
pub gathered_more : (left mid now : Option (List ℕ)) (bytes more : List ℕ)
    → Consumes left mid bytes → StartsWith more bytes → Consumes mid now (appended_bytes bytes more) → Consumes left now more
gathered_more left mid now bytes more gathered starts appended =
    rw (starts_with_rest more bytes starts) (Consumes-trans left mid now bytes (appended_bytes bytes more) gathered appended)

-- at the end all is gathered
pub gathered_all : (left now : Option (List ℕ)) (bytes : List ℕ)
    → Consumes left now bytes → IsAtEnd now → IfSome left (λ all. bytes ≡ all)
gathered_all None now bytes gathered ended = tt
gathered_all (Some all) None bytes gathered ended = absurd gathered
gathered_all (Some all) (Some rest) bytes gathered ended = sym (gathered ∙ ap (λ (l : List ℕ). bytes ++ l) ended ∙ append-nil bytes)

-- where more than the limit is gathered, the reader had more
pub gathered_longer : (left now : Option (List ℕ)) (bytes : List ℕ) (limit : ℕ)
    → Consumes left now bytes → limit < length bytes → IfSome left (λ all. limit < length all)
gathered_longer None now bytes limit gathered longer = tt
gathered_longer (Some all) None bytes limit gathered longer = absurd gathered
gathered_longer (Some all) (Some rest) bytes limit gathered longer = rw gathered (omega (arith, longer, length-append bytes rest))
