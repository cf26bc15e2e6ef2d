use Rattle.std.proofs.Common.{Ok, Err, rules}
use Rattle.std.specs.Result.{MatchResult, IsOk}
use Rattle.std.specs.Prelude.{Result}
use Rattle.std.proofs.lemmas.Str.{IsUtf8-from_ascii}
use Rattle.fru_record.proofs.DatesLemmas.{IsAscii-date_text}
use Rattle.fru_record.proofs.date.date_field.Goals as goal

IsOk-from_cases : {T E : Type 0} (r : Result T E) (P : T → Type 0) (Q : Type 0) (R : E → Type 0) → Q → MatchResult r P (λ e. (¬ Q) × R e) → IsOk r
IsOk-from_cases (Ok x) P Q R q h = search rules
IsOk-from_cases (Err e) P Q R q h = absurd (h.0 q)

pub unwrap-requires : goal.unwrap-requires
unwrap-requires c =
    IsOk-from_cases c.from_utf8.result _ _ _ (rw c.date_bytes-text.ensures
    (IsUtf8-from_ascii _ (IsAscii-date_text c.args.minutes c.requires))) c.from_utf8.ensures.cases
