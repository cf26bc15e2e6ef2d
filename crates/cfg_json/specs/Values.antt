-- Members of a document, and the kinds of their values.
use Rattle.std.specs.Prelude.{ℕ, Bool, ◌&&◌, nat_le, if◌then◌else◌, ℤ, pos, neg_ℤ, ◌*ℤ◌, int_le, List, [], ◌∷◌, length, Option, Some, None, Result, Ok, Err}
use Rattle.bmc_base.specs.declared.milli.Milli.{Milli}
use Rattle.bmc_text.specs.Words.{decimal_units}
use Rattle.bmc_base.specs.Names.{longest_name}
use Rattle.serde_json.specs.Data.{Num, Data, null, boolean, number, string, array, object, Items, no_items, item}
use Rattle.serde_json.specs.Find.{as_integer}
use Rattle.cfg_json.specs.declared.config_fault.ConfigFault.{ConfigFault}
use Rattle.cfg_json.specs.declared.config_fault.ConfigFault.TheVariants.{MissingKey, WrongKind, OutOfRange}

-- the ? of a result
infixl 10 ◌>>=◌
abbrev pub ◌>>=◌ : {A B : Type 0} → Result A ConfigFault → (A → Result B ConfigFault) → Result B ConfigFault
(Ok x) >>= f = f x
(Err fault) >>= f = Err fault

-- a member that has to be there
abbrev pub required : Option Data → Result Data ConfigFault
required None = Err MissingKey
required (Some member) = Ok member

abbrev pub text_only : Data → Result (List ℕ) ConfigFault
text_only (string text) = Ok text
text_only null = Err WrongKind
text_only (boolean b) = Err WrongKind
text_only (number n) = Err WrongKind
text_only (array items) = Err WrongKind
text_only (object ms) = Err WrongKind

abbrev pub object_only : Data → Result Data ConfigFault
object_only (object ms) = Ok (object ms)
object_only null = Err WrongKind
object_only (boolean b) = Err WrongKind
object_only (number n) = Err WrongKind
object_only (string text) = Err WrongKind
object_only (array items) = Err WrongKind

abbrev pub list_of : Items → List Data
list_of no_items = []
list_of (item value items) = value ∷ list_of items

abbrev pub list_only : Data → Result (List Data) ConfigFault
list_only (array items) = Ok (list_of items)
list_only null = Err WrongKind
list_only (boolean b) = Err WrongKind
list_only (number n) = Err WrongKind
list_only (string text) = Err WrongKind
list_only (object ms) = Err WrongKind

-- what has between so many and so many elements
abbrev pub with_length : {A : Type 0} → ℕ → ℕ → List A → Result (List A) ConfigFault
with_length least most items = if nat_le least (length items) && nat_le (length items) most then Ok items else Err OutOfRange

-- the elements of a list, of which there are so many
abbrev pub list_within : ℕ → ℕ → Data → Result (List Data) ConfigFault
list_within least most value = list_only value >>= with_length least most

-- a text that is a name
abbrev pub short_text : Data → Result (List ℕ) ConfigFault
short_text value = text_only value >>= with_length 1 longest_name

-- each in turn; the first that is refused decides
abbrev pub each : {A B : Type 0} → (A → Result B ConfigFault) → List A → Result (List B) ConfigFault
each read [] = Ok []
each read (value ∷ values) = read value >>= λ first. each read values >>= λ later. Ok (first ∷ later)

-- what has to be there, or the value is of the wrong kind
abbrev pub kind_only : {A : Type 0} → Option A → Result A ConfigFault
kind_only None = Err WrongKind
kind_only (Some value) = Ok value

-- a whole number from so many to so many
abbrev pub is_between : ℤ → ℤ → ℤ → Bool
is_between least most value = int_le least value && int_le value most

abbrev pub int_within : ℤ → ℤ → ℤ → Result ℤ ConfigFault
int_within least most value = if is_between least most value then Ok value else Err OutOfRange

abbrev pub whole_number : ℤ → ℤ → Num → Result ℤ ConfigFault
whole_number least most n = kind_only (as_integer n) >>= int_within least most

-- a whole number of units, from so many to so many, in thousandths
abbrev pub whole_units : ℤ → ℤ → Num → Result Milli ConfigFault
whole_units least most n = whole_number least most n >>= λ units. Ok (record { 0 = units *ℤ pos 1000 })

-- the text of a decimal with up to three places, from so many units to so many, in thousandths
abbrev pub decimal_units_within : ℤ → ℤ → List ℕ → Result Milli ConfigFault
decimal_units_within least most text =
    kind_only (decimal_units 3 text) >>= int_within (least *ℤ pos 1000) (most *ℤ pos 1000) >>= λ thousandths. Ok (record { 0 = thousandths })

-- thousandths from so many units to so many: a whole number of units, or the text of a decimal
abbrev pub milli_within : ℤ → ℤ → Data → Result Milli ConfigFault
milli_within least most (number n) = whole_units least most n
milli_within least most (string text) = decimal_units_within least most text
milli_within least most null = Err WrongKind
milli_within least most (boolean b) = Err WrongKind
milli_within least most (array items) = Err WrongKind
milli_within least most (object ms) = Err WrongKind

-- thousandths in the widest range: a million units to either side of 0
abbrev pub any_milli : Data → Result Milli ConfigFault
any_milli value = milli_within (neg_ℤ (pos 1000000)) (pos 1000000) value

-- a whole number of units in millionths, within a million units of 0
abbrev pub whole_micro : Num → Result ℤ ConfigFault
whole_micro n = whole_number (neg_ℤ (pos 1000000)) (pos 1000000) n >>= λ units. Ok (units *ℤ pos 1000000)

-- the text of a decimal with up to six places in millionths, within a million units of 0
abbrev pub decimal_micro : List ℕ → Result ℤ ConfigFault
decimal_micro text = kind_only (decimal_units 6 text) >>= int_within (neg_ℤ (pos 1000000000000)) (pos 1000000000000)

-- millionths, within a million units of 0: a whole number of units, or the text of a decimal
abbrev pub any_micro : Data → Result ℤ ConfigFault
any_micro (number n) = whole_micro n
any_micro (string text) = decimal_micro text
any_micro null = Err WrongKind
any_micro (boolean b) = Err WrongKind
any_micro (array items) = Err WrongKind
any_micro (object ms) = Err WrongKind

-- no thousandths
abbrev pub no_units : Milli
no_units = record { 0 = pos 0 }

-- a whole number from so many to so many
abbrev pub whole_within : ℤ → ℤ → Data → Result ℤ ConfigFault
whole_within least most (number n) = whole_number least most n
whole_within least most null = Err WrongKind
whole_within least most (boolean b) = Err WrongKind
whole_within least most (string text) = Err WrongKind
whole_within least most (array items) = Err WrongKind
whole_within least most (object ms) = Err WrongKind

-- a member that may be missing, in whose place this value stands
abbrev pub member_or : {A : Type 0} → A → (Data → Result A ConfigFault) → Option Data → Result A ConfigFault
member_or value read None = Ok value
member_or value read (Some member) = read member

-- a member that may be missing
abbrev pub optional : {A : Type 0} → (Data → Result A ConfigFault) → Option Data → Result (Option A) ConfigFault
optional read None = Ok None
optional read (Some member) = read member >>= λ value. Ok (Some value)
