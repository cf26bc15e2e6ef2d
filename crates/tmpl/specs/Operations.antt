-- Operations on numbers, as they stand behind a word: a space, a sign, a space, and 1 to 5 digits.
use Rattle.std.specs.Prelude.{ℕ, ◌+◌, ◌*◌, ◌-◌, ◌/◌, ◌%◌, ◌^◌, Bool, ◌==◌, ◌&&◌, nat_lt, nat_le, true, false, if◌then◌else◌, List, length}
use Rattle.std.specs.Prelude.{take, drop, fold, map, slice_index}
use Rattle.std.specs.Prelude.{Option, Some, None, option_map, option_and_then}
use Rattle.std.specs.List.{list_all, take_while, sum_by}
use Rattle.tmpl.specs.Chains.{chain}
use Rattle.tmpl.specs.declared.operation.Operation.{Operation}
use Rattle.tmpl.specs.declared.operation.Operator.{Operator}
use Rattle.tmpl.specs.declared.operation.Operator.TheVariants.{Add, Subtract, Multiply, Divide, Remainder}

abbrev pub is_digit : ℕ → Bool
is_digit byte = nat_le 48 byte && nat_le byte 57

-- a number with one more decimal digit
abbrev pub with_digit : ℕ → ℕ → ℕ
with_digit number digit = 10 * number + (digit - 48)

-- the number of 1 to so many digits, leading zeros among them
unfoldable pub digits : ℕ → List ℕ → Option ℕ
digits most text =
    if nat_le 1 (length text) && nat_le (length text) most && list_all is_digit text then Some (fold with_digit 0 text) else None

-- a number that is at most the maximum
abbrev pub up_to : ℕ → ℕ → Option ℕ
up_to max number = if nat_le number max then Some number else None

-- the most digits of the number of an operation
abbrev pub operand_digits : ℕ
operand_digits = 5

-- the operation of a sign: + - * / %
abbrev pub operator_of : ℕ → Option Operator
operator_of sign =
    if sign == 43 then Some Add
    else if sign == 45 then Some Subtract
    else if sign == 42 then Some Multiply
    else if sign == 47 then Some Divide
    else if sign == 37 then Some Remainder
    else None

-- the digits of a number at the front of a text, of which an operation takes five at the most
abbrev pub operand : List ℕ → List ℕ
operand text = take_while is_digit (take operand_digits text)

abbrev pub operation_by : Option Operator → List ℕ → Option (Operation × ℕ)
operation_by operator operand =
    option_and_then
    (λ operator. option_map (λ number. (record { operator = operator; number = number }, 3 + length operand)) (digits operand_digits operand))
    operator

-- the operation at the front of a text, with the number of bytes that it takes; a space is 32
unfoldable pub operation_at : List ℕ → Option (Operation × ℕ)
operation_at text =
    if slice_index text 0 == 32 && slice_index text 2 == 32 then operation_by (operator_of (slice_index text 1)) (operand (drop 3 text)) else None

-- the operations at the front of a text, as long as they follow each other, and how many bytes they take
abbrev pub operations_of : List ℕ → List Operation
operations_of text = map (λ found. found.0) (chain operation_at text)

abbrev pub operations_len : List ℕ → ℕ
operations_len text = sum_by (λ found. found.1) (chain operation_at text)

-- values are whole numbers of 32 bits
abbrev pub in_range : ℕ → Option ℕ
in_range value = if nat_lt value (2 ^ 32) then Some value else None

-- a value after an operation; division rounds down, and nothing is divided by 0
abbrev pub computed : Operator → ℕ → ℕ → Option ℕ
computed Add value number = in_range (value + number)
computed Subtract value number = if nat_le number value then Some (value - number) else None
computed Multiply value number = in_range (value * number)
computed Divide value number = if number == 0 then None else Some (value / number)
computed Remainder value number = if number == 0 then None else Some (value % number)

abbrev pub applied : Option ℕ → Operation → Option ℕ
applied value operation = option_and_then (λ value. computed operation.operator value operation.number) value

-- a value after operations, from left to right, which has to be in range after each
abbrev pub applied_all : Option ℕ → List Operation → Option ℕ
applied_all value operations = fold applied value operations

abbrev pub divides : Operator → Bool
divides Divide = true
divides Remainder = true
divides Add = false
divides Subtract = false
divides Multiply = false

abbrev pub divides_by_zero : Operation → Bool
divides_by_zero operation = divides operation.operator && operation.number == 0
