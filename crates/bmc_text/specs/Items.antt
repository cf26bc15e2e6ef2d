-- The items of a script: its lines, and with a line that asks for a block the block.
use Rattle.std.specs.Prelude.{ℕ, zero, suc, ◌+◌, ◌-◌, Bool, ◌==◌, nat_lt, if◌then◌else◌, List, [], ◌∷◌, ◌++◌, length, take, drop, slice_index, position}
use Rattle.std.specs.Prelude.{Option, Some, None, option_and_then}
use Rattle.std.specs.List.{before_first, after_first}
use Rattle.bmc_text.specs.Words.{block_size}

-- the most bytes of a line before its newline
abbrev pub longest_line : ℕ
longest_line = 9000

-- the most bytes of a block
abbrev pub longest_block : ℕ
longest_block = 262144

-- a line without the carriage return at its end, a line that is too long, or a line that asks for a block with
-- its block: whole, too long, or cut short by the end of the script
pub data Item : Type 0 where
  Line : List ℕ → Item
  LineTooLong : Item
  Block : List ℕ → Item
  BlockTooLong : Item
  BlockShort : Item

-- without one carriage return (13) at the end
unfoldable pub without_return : List ℕ → List ℕ
without_return line = if slice_index line (length line - 1) == 13 then take (length line - 1) line else line

abbrev pub is_newline : ℕ → Bool
is_newline byte = byte == 10

-- the item of the bytes of a line alone
unfoldable pub line_item : List ℕ → Item
line_item line = if nat_lt longest_line (length line) then LineTooLong else Line (without_return line)

-- the size of the block that an item of a line asks for
abbrev pub asks : Item → Option ℕ
asks (Line line) = block_size line
asks LineTooLong = None
asks (Block bytes) = None
asks BlockTooLong = None
asks BlockShort = None

-- the size of the block that the first line of the bytes asks for
abbrev pub asked_first : List ℕ → Option ℕ
asked_first bytes = asks (line_item (before_first is_newline bytes))

-- a newline directly behind a block belongs to it
abbrev pub behind_block : List ℕ → List ℕ
behind_block [] = []
behind_block (byte ∷ bytes) = if is_newline byte then bytes else byte ∷ bytes

-- a block of n bytes
abbrev pub block_item : ℕ → List ℕ → Item
block_item n bytes = if nat_lt longest_block n then BlockTooLong else Block bytes

-- the block of n bytes at the front and the bytes behind it, where it is whole: one byte more has to be there, since a
-- newline would belong to it
unfoldable pub whole_block : ℕ → List ℕ → Option (Item × List ℕ)
whole_block n bytes = if nat_lt n (length bytes) then Some (block_item n (take n bytes), behind_block (drop n bytes)) else None

-- the item of a line with the bytes behind it, where it is whole
abbrev pub whole_behind : Item → Option ℕ → List ℕ → Option (Item × List ℕ)
whole_behind item None bytes = Some (item, bytes)
whole_behind item (Some n) bytes = whole_block n bytes

-- The item at the front of bytes and the bytes behind it, where the item is whole: whatever follows the bytes, a script
-- that begins with them has this item there. A line is whole with its newline.
unfoldable pub whole_item : List ℕ → Option (Item × List ℕ)
whole_item bytes = option_and_then (λ at. whole_behind (line_item (take at bytes)) (asks (line_item (take at bytes))) (drop (at + 1) bytes))
    (position is_newline bytes)

-- the items that are whole in bytes, and the bytes behind the last of them
pub record Cut : Type 0 where
  pub items : List Item
  pub rest : List ℕ

-- the item that is whole at the front of these bytes, if one is, and then what `cut_rest` makes of those behind it
abbrev pub cut_off : (List ℕ → Cut) → List ℕ → Option (Item × List ℕ) → Cut
cut_off cut_rest bytes None = record { items = []; rest = bytes }
cut_off cut_rest bytes (Some found) = record { items = found.0 ∷ (cut_rest found.1).items; rest = (cut_rest found.1).rest }

-- at most so many items
unfoldable pub cut_most : ℕ → List ℕ → Cut
cut_most zero bytes = record { items = []; rest = bytes }
cut_most (suc most) bytes = cut_off (cut_most most) bytes (whole_item bytes)

-- an item takes at least a byte
unfoldable pub cut : List ℕ → Cut
cut bytes = cut_most (length bytes) bytes

-- the items that are whole in the bytes that were taken of a script
abbrev pub whole_items : List ℕ → List Item
whole_items bytes = (cut bytes).items

-- the bytes behind them
abbrev pub unfinished : List ℕ → List ℕ
unfinished bytes = (cut bytes).rest

-- the block of n bytes that the end of the script ends: it has as many bytes at the most
abbrev pub last_block : ℕ → List ℕ → Item
last_block n bytes = if nat_lt longest_block n then BlockTooLong else if nat_lt (length bytes) n then BlockShort else Block bytes

abbrev pub last_behind : Item → Option ℕ → List ℕ → Item
last_behind item None bytes = item
last_behind item (Some n) bytes = last_block n bytes

-- the item at the end of a script that is not whole: a line without a newline, or one whose block the end cuts
abbrev pub last_item : List ℕ → List Item
last_item [] = []
last_item (byte ∷ bytes) =
    last_behind (line_item (before_first is_newline (byte ∷ bytes))) (asked_first (byte ∷ bytes)) (after_first is_newline (byte ∷ bytes)) ∷ []

-- the items of a script
abbrev pub items_of : List ℕ → List Item
items_of script = whole_items script ++ last_item (unfinished script)
