-- What a reader of lines takes of a block.
use Rattle.std.specs.Prelude.{ℕ, ◌≡◌, ◌+◌, ◌≤◌, Bool, true, false, List, [], length, Some}
use Rattle.bmc_io.specs.Sources.{Input}
use Rattle.bmc_text.specs.Feeds.{Feed, Reads}
use Rattle.bmc_text.specs.Items as items
use Rattle.bmc_text.specs.Items.{Item, longest_block, whole_block, last_block}
use Rattle.bmc_text.specs.declared.block.Block.{Block}
use Rattle.bmc_text.specs.declared.block.Block.TheVariants.{Given, Long, Short}
use Rattle.bmc_text.specs.declared.lines.LineFault.{LineFault}
use Rattle.bmc_text.specs.declared.lines.LineFault.TheVariants.{ReadFault, Spent, OutOfMemory}

-- the item of a block
abbrev pub item_of_block : Block → Item
item_of_block (Given bytes) = items.Block bytes
item_of_block Long = items.BlockTooLong
item_of_block Short = items.BlockShort

-- the block of n bytes comes of the bytes, of which these are the rest; or the source ends first, or with it
abbrev pub TakesBlockOf : ℕ → Item → Bool → List ℕ → List ℕ → Type 0
TakesBlockOf n item false bytes rest = whole_block n bytes ≡ Some (item, rest)
TakesBlockOf n item true bytes rest = (length bytes ≤ n) × (last_block n bytes ≡ item) × (rest ≡ [])

-- this block of n bytes is taken of the bytes that waited and the piece that is read in the call
abbrev pub TakesBlock : ℕ → Block → Feed → Feed → Input → Input → Type 0
TakesBlock n block old new before now =
    Reads old.waiting old.read new.read before now (λ bytes. TakesBlockOf n (item_of_block block) new.ended bytes new.waiting)

-- why a block of n bytes is not taken of the bytes: they are not all there, or there is no memory for a block that is
-- not too long
abbrev pub LacksBlock : LineFault → ℕ → List ℕ → Type 0
LacksBlock ReadFault n bytes = length bytes ≤ n
LacksBlock Spent n bytes = length bytes ≤ n
LacksBlock OutOfMemory n bytes = n ≤ longest_block

-- Of a block, so many bytes of which are still wanted: its size, and the bytes that came, none where it is too long.
pub record Part : Type 0 where
  pub size : ℕ
  pub wanted : ℕ
  pub bytes : List ℕ

-- these are the bytes of the block that came
pub record HoldsFront (part : Part) (front : List ℕ) : Type 0 where
  pub size : length front + part.wanted ≡ part.size
  pub bytes : part.size ≤ longest_block → part.bytes ≡ front
