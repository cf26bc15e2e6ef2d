-- The rules of a text that is written as a field, one by one.
use Rattle.std.specs.Prelude.{ℕ, ◌≡◌, ◌+◌, Bool, false, List, chars, ◌==◌, if◌then◌else◌}
use Rattle.std.specs.List.{list_any}
use Rattle.fru_record.specs.Building.{first_six_bit, is_not_latin, is_too_long, is_bad_single}
use Rattle.fru_record.specs.declared.text_rule.TextRule.{TextRule}
use Rattle.fru_record.specs.declared.text_rule.TextRule.TheVariants.{Latin, Length, Single}

-- whether a text breaks a rule
abbrev pub breaks : TextRule → List ℕ → Bool
breaks Latin text = is_not_latin text
breaks Length text = is_too_long text
breaks Single text = is_bad_single (chars text)

-- a text, or each of these, breaks no rule
abbrev pub IsWritable : List ℕ → Type 0
IsWritable text = (rule : TextRule) → breaks rule text ≡ false

abbrev pub AreWritable : List (List ℕ) → Type 0
AreWritable texts = (rule : TextRule) → list_any (breaks rule) texts ≡ false

-- the type and length of a field with so many characters, and the character that it writes as 0
abbrev pub field_head : ℕ → ℕ
field_head count = if count == 1 then 0x81 else 0xC0 + count

abbrev pub first_char : ℕ → ℕ
first_char count = if count == 1 then first_six_bit else 0
