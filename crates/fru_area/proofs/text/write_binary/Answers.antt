use Rattle.std.proofs.Common.{◌≡◌, ℕ, List, [], ◌∷◌, Result, Ok, Err, true, nat_lt, refl, rules}
use Rattle.std.specs.List.{list_all}
use Rattle.std.proofs.lemmas.Bool.{and_parts, ltb-true}
use Rattle.std.proofs.lemmas.Str.Ascii.{IsAscii-nil, IsAscii-cons}
use Rattle.std.specs.Result.{IsOk, MatchResult}
use Rattle.std.specs.Str.{IsUtf8, IsAscii}
use Rattle.std.proofs.lemmas.Str.{IsUtf8-from_ascii}
use Rattle.hex.proofs.HexLemmas.{IsAscii-encode_with}
use Rattle.hex.specs.Hex.{lower_digits, encode_lower}
use Rattle.fru_area.proofs.text.write_binary.Goals as goal

IsAscii-tested : (bytes : List ℕ) → list_all (λ b. nat_lt b 128) bytes ≡ true → IsAscii bytes
IsAscii-tested [] tested = IsAscii-nil
IsAscii-tested (byte ∷ bytes) tested =
    let parts = and_parts (nat_lt byte 128) (list_all (λ b. nat_lt b 128) bytes) tested in
    IsAscii-cons byte bytes (ltb-true byte 128 parts.0) (IsAscii-tested bytes parts.1)

IsAscii-lower_digits : IsAscii lower_digits
IsAscii-lower_digits = IsAscii-tested lower_digits refl

IsUtf8-encode_lower : (bytes digits : List ℕ) → digits ≡ encode_lower bytes → IsUtf8 digits
IsUtf8-encode_lower bytes digits is = rw is (IsUtf8-from_ascii _ (IsAscii-encode_with lower_digits bytes IsAscii-lower_digits))

IsOk-from_cases :
    {T E : Type 0} (result : Result T E) (P : T → Type 0) (Q : Type 0) (R : E → Type 0) → Q → MatchResult result P (λ e. (¬ Q) × R e) → IsOk result
IsOk-from_cases (Ok x) P Q R holds cases = search rules
IsOk-from_cases (Err e) P Q R holds cases = absurd (cases.0 holds)

pub unwrap-digits-requires : goal.unwrap-digits-requires
unwrap-digits-requires c =
    let written = rw c.unwrap.ensures at c.encode_to_slice.ensures.written in
    IsOk-from_cases c.from_utf8.result _ _ _ (IsUtf8-encode_lower c.args.bytes.now _ written) c.from_utf8.ensures.cases
