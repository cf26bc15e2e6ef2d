-- Ids that do not fall, and the order in which two lists of them are gone through.
use Rattle.std.specs.Prelude.{◌≡◌, ℕ, nat_le, ◌<◌, ◌+◌, ◌≤◌, Bool, true, false, List, [], ◌∷◌, ◌++◌, length, Option, Some, None, MatchOption, ⊤}
use Rattle.event_log.specs.declared.entry.LogEntry.{LogEntry}
use Rattle.event_log.specs.Listed.{by_id}

-- the ids are from the first number to the second, and none is below one before it
abbrev pub IsRising : ℕ → List LogEntry → ℕ → Type 0
IsRising low [] high = low ≤ high
IsRising low (entry ∷ later) high = (low ≤ entry.id) × IsRising entry.id later high

-- whether an error with this id comes before an info with that one; where there is no info it does
abbrev pub is_error_first : Option ℕ → Option ℕ → Bool
is_error_first error None = true
is_error_first None (Some info) = false
is_error_first (Some error) (Some info) = nat_le error info

-- the first of the errors and infos by id was given, if there was one, and these are left. The bound is that of the ids
pub record Gives (high : ℕ) (errors infos : List LogEntry) (given : Option LogEntry) (errors_left infos_left : List LogEntry) : Type 0 where
  pub errors_rise : IsRising 0 errors_left high
  pub infos_rise : IsRising 0 infos_left high
  pub first : MatchOption given (errors ++ infos ≡ []) (λ entry. by_id (errors ++ infos) ≡ entry ∷ by_id (errors_left ++ infos_left))
  pub fewer : MatchOption given ⊤ (λ _. length errors_left + length infos_left < length errors + length infos)

-- the same, whatever the bound is
abbrev pub GivesFirst : List LogEntry → List LogEntry → Option LogEntry → List LogEntry → List LogEntry → Type 0
GivesFirst errors infos given errors_left infos_left =
    (high : ℕ) → IsRising 0 errors high → IsRising 0 infos high → Gives high errors infos given errors_left infos_left
