-- What a reader of lines takes.
use Rattle.std.specs.Prelude.{ℕ, ◌≡◌, ◌<◌, Bool, true, false, List, [], ◌∷◌, ◌++◌, length, Option, Some, None}
use Rattle.bmc_io.specs.Sources.{Input}
use Rattle.bmc_text.specs.Feeds.{Feed, Reads}
use Rattle.bmc_text.specs.Items as items
use Rattle.bmc_text.specs.Items.{Item, line_item}
use Rattle.bmc_text.specs.Newlines.{HasNoNewline}
use Rattle.bmc_text.specs.declared.lines.Got.{Got}
use Rattle.bmc_text.specs.declared.lines.Got.TheVariants.{Line, LineTooLong, End}

-- the item of the line that was got, where `line` is the line that was taken
abbrev pub line_got : Got → List ℕ → Option Item
line_got Line line = Some (items.Line line)
line_got LineTooLong line = Some items.LineTooLong
line_got End line = None

-- the bytes begin with a line of this item and its newline, and go on with the rest
pub record BeginsWithLine (bytes : List ℕ) (item : Item) (rest : List ℕ) : Type 0 where
  pub raw : List ℕ
  pub none : HasNoNewline raw
  pub parts : bytes ≡ raw ++ 10 ∷ rest
  pub item_is : item ≡ line_item raw

-- the bytes are the last of the script, and are a line of this item without a newline
pub record IsLastLine (bytes : List ℕ) (item : Item) (rest : List ℕ) : Type 0 where
  pub some : 0 < length bytes
  pub none : HasNoNewline bytes
  pub item_is : item ≡ line_item bytes
  pub all : rest ≡ []

-- the bytes are the last of the script, and there are none
pub record AreNone (bytes rest : List ℕ) (ended : Bool) : Type 0 where
  pub all : bytes ≡ []
  pub none : rest ≡ []
  pub at_end : ended ≡ true

-- what comes of the bytes, of which these are the rest: a line with its newline, or the last one, or the end
abbrev pub TakesLine : Option Item → Bool → List ℕ → List ℕ → Type 0
TakesLine (Some item) false bytes rest = BeginsWithLine bytes item rest
TakesLine (Some item) true bytes rest = IsLastLine bytes item rest
TakesLine None ended bytes rest = AreNone bytes rest ended

-- this is got of the bytes that waited and the piece that is read in the call
abbrev pub TakesNext : Got → Feed → Feed → Input → Input → Type 0
TakesNext got old new before now =
    Reads old.waiting old.read new.read before now (λ bytes. TakesLine (line_got got new.line) new.ended bytes new.waiting)
