-- Numbers as texts: decimal digits, or `0x` and hexadecimal digits.
use Rattle.std.specs.Prelude.{ℕ, ◌+◌, ◌*◌, Bool, ◌==◌, ◌&&◌, nat_lt, nat_le, if◌then◌else◌, List, length, drop, fold, slice_index}
use Rattle.std.specs.Prelude.{Option, Some, None}
use Rattle.std.specs.Char.{digit_value}
use Rattle.std.specs.List.{list_all}
use Rattle.tmpl.specs.Operations.{digits}

-- the value of a hexadecimal digit of either case
abbrev pub hex_value : ℕ → ℕ
hex_value byte = digit_value byte

-- a hexadecimal digit of either case
abbrev pub is_hex_digit : ℕ → Bool
is_hex_digit byte = nat_lt (hex_value byte) 16

-- a number with one more hexadecimal digit
abbrev pub with_hex_digit : ℕ → ℕ → ℕ
with_hex_digit number digit = 16 * number + hex_value digit

-- the number of 1 to 4 hexadecimal digits behind `0x`
abbrev pub hex_number : List ℕ → Option ℕ
hex_number text =
    if nat_le 1 (length text) && nat_le (length text) 4 && list_all is_hex_digit text then Some (fold with_hex_digit 0 text) else None

-- whether a text begins with `0x`
abbrev pub begins_hex : List ℕ → Bool
begins_hex text = slice_index text 0 == 48 && slice_index text 1 == 120

-- the number of a text without substitutions: hexadecimal digits behind `0x`, or 1 to 9 decimal digits
unfoldable pub fixed_number : List ℕ → Option ℕ
fixed_number text = if begins_hex text then hex_number (drop 2 text) else digits 9 text
