-- The words of a line, and the numbers that they stand for.
use Rattle.std.specs.Prelude.{ℕ, ◌+◌, ◌*◌, ◌-◌, ◌^◌, Bool, ◌==◌, ◌&&◌, nat_lt, nat_le, if◌then◌else◌, List, length, take, drop, fold, codes, bytes_eq}
use Rattle.std.specs.Prelude.{Option, Some, None, option_map, option_and_then, position, ℤ, pos, neg_ℤ}
use Rattle.std.specs.List.{list_all}
use Rattle.std.specs.Str.Parse.{starts_with_minus}

-- the bytes before the first byte of this value and those behind it, or none where there is none
abbrev pub split_at : ℕ → List ℕ → Option (List ℕ × List ℕ)
split_at mark bytes = option_map (λ at. (take at bytes, drop (at + 1) bytes)) (position (λ byte. byte == mark) bytes)

-- the same at a space (32)
abbrev pub split_space : List ℕ → Option (List ℕ × List ℕ)
split_space bytes = split_at 32 bytes

abbrev pub is_digit : ℕ → Bool
is_digit byte = nat_le 48 byte && nat_le byte 57

-- a number with one more decimal digit
abbrev pub with_digit : ℕ → ℕ → ℕ
with_digit number digit = 10 * number + (digit - 48)

-- the number of 1 to so many decimal digits, leading zeros among them
unfoldable pub digits : ℕ → List ℕ → Option ℕ
digits longest text =
    if nat_lt 0 (length text) && nat_le (length text) longest && list_all is_digit text then Some (fold with_digit 0 text) else None

-- the most digits of a number, of a raw reading, and of a decimal in front of its point
abbrev pub number_digits : ℕ
number_digits = 9

abbrev pub raw_digits : ℕ
raw_digits = 18

abbrev pub whole_digits : ℕ
whole_digits = 10

-- a number in a line
unfoldable pub number : List ℕ → Option ℕ
number text = digits number_digits text

-- what is read behind an optional `-`
abbrev pub signed : (List ℕ → Option ℕ) → List ℕ → Option ℤ
signed read text =
    if starts_with_minus text then option_map (λ number. neg_ℤ (pos number)) (read (drop 1 text)) else option_map pos (read text)

-- a raw reading
abbrev pub raw : List ℕ → Option ℤ
raw text = signed (digits raw_digits) text

-- a text of digits without a point, or with these digits in front of its point and behind it, in units of 10 to the
-- power -places
abbrev pub units : ℕ → List ℕ → Option (List ℕ × List ℕ) → Option ℕ
units places text None = option_map (λ whole. whole * 10 ^ places) (digits whole_digits text)
units places text (Some (front, behind)) =
    option_and_then
    (λ whole. option_map (λ fraction. whole * 10 ^ places + fraction * 10 ^ (places - length behind)) (digits places behind))
    (digits whole_digits front)

-- The value of a decimal in units of 10 to the power -places: an optional `-`, 1 to 10 digits, and optionally a point
-- (46) and 1 to `places` digits.
abbrev pub decimal_units : ℕ → List ℕ → Option ℤ
decimal_units places text = signed (λ unsigned. units places unsigned (split_at 46 unsigned)) text

-- the size that is asked for by these words
abbrev pub size_of : List ℕ × List ℕ → Option ℕ
size_of words = if bytes_eq words.0 (codes "config") then number words.1 else None

-- the size of the block that a line asks for, which has the form `config N`, or none
unfoldable pub block_size : List ℕ → Option ℕ
block_size line = option_and_then size_of (split_space line)
