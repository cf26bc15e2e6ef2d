-- What a reader of items takes.
use Rattle.std.specs.Prelude.{ℕ, ◌≡◌, ◌<◌, ◌≤◌, Bool, true, false, List, [], ◌∷◌, ◌++◌, length, Option, Some, None, IsSomeAnd}
use Rattle.bmc_io.specs.Sources.{Input}
use Rattle.bmc_text.specs.Feeds.{ItemFeed, Reads}
use Rattle.bmc_text.specs.Items as items
use Rattle.bmc_text.specs.Items.{Item, items_of, whole_items, asked_first, longest_block}
use Rattle.bmc_text.specs.Lines.{AreNone}
use Rattle.bmc_text.specs.declared.items.NextItem.{NextItem}
use Rattle.bmc_text.specs.declared.items.NextItem.TheVariants.{Line, LineTooLong, Block, BlockTooLong, BlockShort, End}
use Rattle.bmc_text.specs.declared.lines.LineFault.{LineFault}
use Rattle.bmc_text.specs.declared.lines.LineFault.TheVariants.{ReadFault, Spent, OutOfMemory}

-- the item that comes, where these are the line and the block that were taken
abbrev pub item_next : NextItem → ItemFeed → Option Item
item_next Line feed = Some (items.Line feed.line)
item_next LineTooLong feed = Some items.LineTooLong
item_next Block feed = Some (items.Block feed.block)
item_next BlockTooLong feed = Some items.BlockTooLong
item_next BlockShort feed = Some items.BlockShort
item_next End feed = None

-- whatever follows the bytes, they begin with this item, and go on with the rest
pub record BeginsWith (bytes : List ℕ) (item : Item) (rest : List ℕ) : Type 0 where
  pub all : (more : List ℕ) → items_of (bytes ++ more) ≡ item ∷ items_of (rest ++ more)
  pub whole : (more : List ℕ) → whole_items (bytes ++ more) ≡ item ∷ whole_items (rest ++ more)
  pub shorter : length rest < length bytes

-- the bytes are the last of the script, and are this one item
pub record AreLast (bytes : List ℕ) (item : Item) (rest : List ℕ) : Type 0 where
  pub all : items_of bytes ≡ item ∷ []
  pub none : rest ≡ []

-- what comes of the bytes, of which these are the rest: an item that is whole, or the last one, or the end
abbrev pub TakesItem : Option Item → Bool → List ℕ → List ℕ → Type 0
TakesItem (Some item) false bytes rest = BeginsWith bytes item rest
TakesItem (Some item) true bytes rest = AreLast bytes item rest
TakesItem None ended bytes rest = AreNone bytes rest ended

-- this comes of the bytes that waited and the piece that is read in the call
abbrev pub TakesNextItem : NextItem → ItemFeed → ItemFeed → Input → Input → Type 0
TakesNextItem next old new before now =
    Reads old.waiting old.read new.read before now (λ bytes. TakesItem (item_next next new) new.ended bytes new.waiting)

-- memory is wanted for the block that the first line asks for, which is not too long
abbrev pub WantsMemory : List ℕ → Type 0
WantsMemory bytes = IsSomeAnd (asked_first bytes) (λ size. size ≤ longest_block)

-- why no item comes of the bytes: none is whole in them, or there is no memory for a block that is not too long
abbrev pub LacksItem : LineFault → List ℕ → Type 0
LacksItem ReadFault bytes = whole_items bytes ≡ []
LacksItem Spent bytes = whole_items bytes ≡ []
LacksItem OutOfMemory bytes = WantsMemory bytes
