-- Bytes in hexadecimal.
use Rattle.std.specs.Prelude.{ℕ, ◌≡◌, ⊤, List, Option, Some, None, Result, Ok, Err}
use Rattle.hex.specs.Hex.{decode_of}
use Rattle.hex.specs.declared.error.FromHexError.{FromHexError}
use Rattle.bmc_text.specs.declared.hexadecimal.HexFault.{HexFault}
use Rattle.bmc_text.specs.declared.hexadecimal.HexFault.TheVariants.{BadHex, OutOfMemory}

abbrev pub without_error : Result (List ℕ) FromHexError → Option (List ℕ)
without_error (Ok bytes) = Some bytes
without_error (Err fault) = None

-- the bytes that the digits stand for, or none where there is an odd number of them or one is no digit
unfoldable pub hex_decoded : List ℕ → Option (List ℕ)
hex_decoded digits = without_error (decode_of digits)

-- the digits stand for these bytes, or for none
abbrev pub GivesBytes : Result (List ℕ) HexFault → Option (List ℕ) → Type 0
GivesBytes (Ok bytes) decoded = decoded ≡ Some bytes
GivesBytes (Err BadHex) decoded = decoded ≡ None
GivesBytes (Err OutOfMemory) decoded = ⊤
