-- A line, with the block that it asks for, as an item.
use Rattle.std.proofs.Common.{◌≡◌, ◌≢◌, inl, inr, ℕ, ◌+◌, ◌≤◌, ◌<◌, List, [], ◌∷◌, ◌++◌, length, take, drop, Bool, true, false, arith, ap, sym, ◌∙◌, refl}
use Rattle.std.proofs.Common.{subst, length-take, append_assoc, append-nil}
use Rattle.std.specs.Prelude.{Option, Some, None, IsSomeAnd, option_and_then}
use Rattle.std.specs.List.{position_or_len}
use Rattle.std.proofs.lemmas.Bool.{cases_lt}
use Rattle.std.proofs.lemmas.List.{take_at, take_all, take-take, nil_from_length}
use Rattle.bmc_io.specs.Sources.{Input}
use Rattle.bmc_text.specs.Newlines.{HasNoNewline, IsNewline}
use Rattle.bmc_text.specs.Feeds.{Feed, ItemFeed, Reads}
use Rattle.bmc_text.specs.Items.{Item, longest_block, is_newline, line_item, asks, asked_first, whole_block, whole_behind, whole_item, whole_items}
use Rattle.bmc_text.specs.Items.{last_block, last_behind, items_of}
use Rattle.bmc_text.specs.Lines.{TakesLine, TakesNext, line_got}
use Rattle.bmc_text.specs.Blocks.{TakesBlockOf, LacksBlock}
use Rattle.bmc_text.specs.NextItems.{item_next, TakesItem, TakesNextItem, WantsMemory, LacksItem}
use Rattle.bmc_text.specs.declared.items.NextItem.{NextItem}
use Rattle.bmc_text.specs.declared.lines.Got.{Got}
use Rattle.bmc_text.specs.declared.lines.LineFault.{LineFault}
use Rattle.bmc_text.specs.declared.lines.LineFault.TheVariants.{ReadFault, Spent, OutOfMemory}
use Rattle.bmc_text.proofs.NewlinesLemmas.{newline_parts, HasNoNewline-take, len_none, len_line}
use Rattle.bmc_text.proofs.ItemsLemmas.{whole_item-none, whole_item-line, whole_block-none, whole_items-none, begins_with, items_of-last, items_of-cut}
use Rattle.bmc_text.proofs.FeedsLemmas.{Reads-none, Reads-waiting, waiting_of, read_of, ended_of}

-- what is seen of a reader of items over this reader of lines
abbrev pub seen : Feed → List ℕ → ItemFeed
seen feed block = record { line = feed.line; block = block; waiting = feed.waiting; read = feed.read; ended = feed.ended }

-- a line that asks for no block is an item
pub alone : (found : Option Item) (ended : Bool) (bytes rest : List ℕ) → option_and_then asks found ≡ None → TakesLine found ended bytes rest
    → TakesItem found ended bytes rest
alone None ended bytes rest none line = line
alone (Some item) false bytes rest none line =
    begins_with bytes rest item
    (ap whole_item line.parts ∙ whole_item-line line.raw rest line.none
    ∙ ap (λ (asked : Option ℕ). whole_behind (line_item line.raw) asked rest) (ap asks (sym line.item_is) ∙ none)
    ∙ ap (λ (found : Item). Some (found, rest)) (sym line.item_is))
alone (Some item) true bytes rest none line = record {
  all =
      items_of-last bytes line.some line.none
      ∙ ap (λ (asked : Option ℕ). last_behind (line_item bytes) asked [] ∷ []) (ap asks (sym line.item_is) ∙ none)
      ∙ ap (λ (found : Item). found ∷ []) (sym line.item_is);
  none = line.all;
}

more_parts : (bytes raw rest piece : List ℕ) → bytes ≡ raw ++ 10 ∷ rest → bytes ++ piece ≡ raw ++ 10 ∷ (rest ++ piece)
more_parts bytes raw rest piece parts = ap (λ (xs : List ℕ). xs ++ piece) parts ∙ append_assoc raw (10 ∷ rest) piece

none_left : (rest piece : List ℕ) → rest ≡ [] → piece ≡ [] → rest ++ piece ≡ []
none_left rest piece rest_none piece_none = ap (λ (xs : List ℕ). xs ++ piece) rest_none ∙ piece_none

-- a line and its block are an item
with_block : (item block : Item) (n : ℕ) (ended ended_now : Bool) (bytes rest piece others : List ℕ) → TakesLine (Some item) ended bytes rest
    → asks item ≡ Some n → (ended ≡ true → piece ≡ [])
    → TakesBlockOf n block ended_now (rest ++ piece) others → TakesItem (Some block) ended_now (bytes ++ piece) others
with_block item block n false false bytes rest piece others line asked no_more of_block =
    begins_with (bytes ++ piece) others block
    (ap whole_item (more_parts bytes line.raw rest piece line.parts) ∙ whole_item-line line.raw (rest ++ piece) line.none
    ∙ ap (λ (size : Option ℕ). whole_behind (line_item line.raw) size (rest ++ piece)) (ap asks (sym line.item_is) ∙ asked) ∙ of_block)
with_block item block n false true bytes rest piece others line asked no_more of_block =
    let size : asks (line_item line.raw) ≡ Some n = ap asks (sym line.item_is) ∙ asked in
    record {
      all =
          ap items_of (more_parts bytes line.raw rest piece line.parts)
          ∙ items_of-cut line.raw (rest ++ piece) line.none
          (ap (λ (size : Option ℕ). whole_behind (line_item line.raw) size (rest ++ piece)) size ∙ whole_block-none n (rest ++ piece) of_block.0)
          ∙ ap (λ (size : Option ℕ). last_behind (line_item line.raw) size (rest ++ piece) ∷ []) size
          ∙ ap (λ (found : Item). found ∷ []) of_block.1;
      none = of_block.2;
    }
with_block item block n true false bytes rest piece others line asked no_more of_block =
    let empty : rest ++ piece ≡ [] = none_left rest piece line.all (no_more refl) in
    let cut = whole_block-none n (rest ++ piece) (omega (arith, ap length empty)) in
    absurd cc
with_block item block n true true bytes rest piece others line asked no_more of_block =
    let empty : rest ++ piece ≡ [] = none_left rest piece line.all (no_more refl) in
    record {
      all =
          ap items_of (ap (λ (xs : List ℕ). bytes ++ xs) (no_more refl) ∙ append-nil bytes)
          ∙ items_of-last bytes line.some line.none
          ∙ ap (λ (size : Option ℕ). last_behind (line_item bytes) size [] ∷ []) (ap asks (sym line.item_is) ∙ asked)
          ∙ ap (λ (xs : List ℕ). last_block n xs ∷ []) (sym empty)
          ∙ ap (λ (found : Item). found ∷ []) of_block.1;
      none = of_block.2;
    }

-- what was got asks for a block, so it is a line
record Asks (found : Option Item) (n : ℕ) : Type 0 where
  item : Item
  is : found ≡ Some item
  size : asks item ≡ Some n

asks_item : (found : Option Item) (n : ℕ) → option_and_then asks found ≡ Some n → Asks found n
asks_item None n asked = absurd cc
asks_item (Some item) n asked = record { item = item; is = refl; size = asked }

-- of a line that was got and the bytes behind it
pub takes_block : (got : Got) (line : List ℕ) (n : ℕ) (ended ended_now : Bool) (block : Item) (bytes rest more others : List ℕ)
    → option_and_then asks (line_got got line) ≡ Some n → TakesLine (line_got got line) ended bytes rest → (ended ≡ true → more ≡ [])
    → TakesBlockOf n block ended_now (rest ++ more) others → TakesItem (Some block) ended_now (bytes ++ more) others
takes_block got line n ended ended_now block bytes rest more others asked took no_more of_block =
    let found = asks_item (line_got got line) n asked in
    with_block found.item block n ended ended_now bytes rest more others
    (subst (λ (is : Option Item). TakesLine is ended bytes rest) found.is took) found.size no_more of_block

-- the block of a line that was got is not whole
lacks_block : (item : Item) (n : ℕ) (bytes rest more : List ℕ) → TakesLine (Some item) false bytes rest → asks item ≡ Some n → length (rest ++ more) ≤ n
    → whole_items (bytes ++ more) ≡ []
lacks_block item n bytes rest more line asked few =
    whole_items-none (bytes ++ more)
    (ap whole_item (more_parts bytes line.raw rest more line.parts) ∙ whole_item-line line.raw (rest ++ more) line.none
    ∙ ap (λ (size : Option ℕ). whole_behind (line_item line.raw) size (rest ++ more)) (ap asks (sym line.item_is) ∙ asked)
    ∙ whole_block-none n (rest ++ more) few)

pub no_item : (bytes : List ℕ) → HasNoNewline bytes → whole_items bytes ≡ []
no_item bytes none = whole_items-none bytes (whole_item-none bytes none)

-- what the first line of bytes asks for
asked_line : (raw rest : List ℕ) → HasNoNewline raw → asked_first (raw ++ 10 ∷ rest) ≡ asks (line_item raw)
asked_line raw rest none =
    ap (λ (line : List ℕ). asks (line_item line)) (take_at raw (10 ∷ rest) (position_or_len is_newline (raw ++ 10 ∷ rest)) (sym (len_line raw rest none)))

asked_last : (raw : List ℕ) → HasNoNewline raw → asked_first raw ≡ asks (line_item raw)
asked_last raw none = ap (λ (line : List ℕ). asks (line_item line)) (take_all (position_or_len is_newline raw) raw (omega (arith, len_none raw none)))

asked_of : (item : Item) (ended : Bool) (bytes rest more : List ℕ) → TakesLine (Some item) ended bytes rest → (ended ≡ true → more ≡ [])
    → asked_first (bytes ++ more) ≡ asks item
asked_of item false bytes rest more line no_more =
    ap asked_first (more_parts bytes line.raw rest more line.parts) ∙ asked_line line.raw (rest ++ more) line.none ∙ ap asks (sym line.item_is)
asked_of item true bytes rest more line no_more =
    ap asked_first (ap (λ (xs : List ℕ). bytes ++ xs) (no_more refl) ∙ append-nil bytes) ∙ asked_last bytes line.none ∙ ap asks (sym line.item_is)

wants_memory : (bytes : List ℕ) (n : ℕ) → asked_first bytes ≡ Some n → n ≤ longest_block → WantsMemory bytes
wants_memory bytes n asked short = subst (λ (size : Option ℕ). IsSomeAnd size (λ size. size ≤ longest_block)) (sym asked) short

-- where no line is whole, no item is
pub lacks_line : (fault : LineFault) (bytes : List ℕ) → fault ≢ OutOfMemory → HasNoNewline bytes → LacksItem fault bytes
lacks_line ReadFault bytes other none = no_item bytes none
lacks_line Spent bytes other none = no_item bytes none
lacks_line OutOfMemory bytes other none = absurd (other refl)

-- why the block of a line does not come is why the item does not
lacks_after : (fault : LineFault) (item : Item) (n : ℕ) (ended : Bool) (bytes rest more : List ℕ) → asks item ≡ Some n → TakesLine (Some item) ended bytes rest
    → (ended ≡ true → (fault ≡ OutOfMemory) × (more ≡ [])) → LacksBlock fault n (rest ++ more) → LacksItem fault (bytes ++ more)
lacks_after ReadFault item n false bytes rest more asked line last few = lacks_block item n bytes rest more line asked few
lacks_after ReadFault item n true bytes rest more asked line last few = let other = (last refl).0 in absurd cc
lacks_after Spent item n false bytes rest more asked line last few = lacks_block item n bytes rest more line asked few
lacks_after Spent item n true bytes rest more asked line last few = let other = (last refl).0 in absurd cc
lacks_after OutOfMemory item n ended bytes rest more asked line last short =
    wants_memory (bytes ++ more) n (asked_of item ended bytes rest more line (λ at_end. (last at_end).1) ∙ asked) short

pub lacks_its_block : (fault : LineFault) (got : Got) (line : List ℕ) (n : ℕ) (ended : Bool) (bytes rest more : List ℕ)
    → option_and_then asks (line_got got line) ≡ Some n
    → TakesLine (line_got got line) ended bytes rest → (ended ≡ true → (fault ≡ OutOfMemory) × (more ≡ [])) → LacksBlock fault n (rest ++ more)
    → LacksItem fault (bytes ++ more)
lacks_its_block fault got line n ended bytes rest more asked took last lacks =
    let found = asks_item (line_got got line) n asked in
    lacks_after fault found.item n ended bytes rest more found.size (subst (λ (is : Option Item). TakesLine is ended bytes rest) found.is took) last lacks

-- where an item is whole in what waits, the block of its line waits with the byte behind it
waits_whole : (item : Item) (n : ℕ) (ended : Bool) (waiting rest : List ℕ) → asks item ≡ Some n → TakesLine (Some item) ended waiting rest
    → (whole_items waiting ≡ [] → ⊥) → n < length rest
waits_whole item n true waiting rest asked line whole = absurd (whole (no_item waiting line.none))
waits_whole item n false waiting rest asked line whole =
    elim (cases_lt n (length rest)) [
      | inl more ↦ more
      | inr few ↦ absurd
          (whole (ap whole_items (sym (append-nil waiting)) ∙ lacks_block item n waiting rest [] line asked (omega (arith, few, ap length (append-nil rest)))))
    ]

waits_with_block : (got : Got) (line : List ℕ) (n : ℕ) (ended : Bool) (waiting rest : List ℕ) → option_and_then asks (line_got got line) ≡ Some n
    → TakesLine (line_got got line) ended waiting rest → (whole_items waiting ≡ [] → ⊥) → n < length rest
waits_with_block got line n ended waiting rest asked took whole =
    let found = asks_item (line_got got line) n asked in
    waits_whole found.item n ended waiting rest found.size (subst (λ (is : Option Item). TakesLine is ended waiting rest) found.is took) whole

-- what is read of this reader of items is read of this one
pub Reads-seen : {feed old : ItemFeed} {read_now : ℕ} {before now : Input} {Are : List ℕ → Type 0} → feed ≡ old
    → Reads feed.waiting feed.read read_now before now Are
    → Reads old.waiting old.read read_now before now Are
Reads-seen {read_now = read_now} {before} {now} {Are} is reads = subst (λ (feed : ItemFeed). Reads feed.waiting feed.read read_now before now Are) is reads

-- what comes of these bytes, where this is the item, whether the script ended, and the rest
pub takes_item : (found item : Option Item) (ended_now ended : Bool) (bytes rest_now rest : List ℕ) → found ≡ item → ended_now ≡ ended → rest_now ≡ rest
    → TakesItem item ended bytes rest → TakesItem found ended_now bytes rest_now
takes_item found item ended_now ended bytes rest_now rest is at_end behind takes =
    subst (λ (which : Option Item). TakesItem which ended_now bytes rest_now) (sym is)
    (subst (λ (end : Bool). TakesItem item end bytes rest_now) (sym at_end) (subst (λ (xs : List ℕ). TakesItem item ended bytes xs) (sym behind) takes))

-- the question is asked of the line that was taken
pub asks_of : (got : Got) (line taken : List ℕ) (asked size : Option ℕ) → line ≡ taken → asked ≡ option_and_then asks (line_got got line) → size ≡ asked
    → option_and_then asks (line_got got taken) ≡ size
asks_of got line taken asked size is answer same = ap (λ (xs : List ℕ). option_and_then asks (line_got got xs)) (sym is) ∙ sym answer ∙ sym same

-- a reader that stays as it was has read no more
pub no_more : (new old : Feed) (more : List ℕ) → new ≡ old → new.read ≡ old.read + length more → more ≡ []
no_more new old more same count = nil_from_length more (omega (arith, count, read_of same))

-- nothing is read for a line where an item is whole in what waits
pub line_waits : (feed : Feed) (block : List ℕ) (old : ItemFeed) → seen feed block ≡ old → (whole_items old.waiting ≡ [] → ⊥) → HasNoNewline feed.waiting → ⊥
line_waits feed block old is whole none = whole (ap (λ (feed : ItemFeed). whole_items feed.waiting) (sym is) ∙ no_item feed.waiting none)

-- and neither for its block
pub block_waits : (got : Got) (feed between : Feed) (block : List ℕ) (old : ItemFeed) (n : ℕ) {before now : Input} → seen feed block ≡ old
    → (whole_items old.waiting ≡ [] → ⊥)
    → TakesNext got feed between before now → between.read ≡ feed.read → option_and_then asks (line_got got between.line) ≡ Some n → n < length between.waiting
block_waits got feed between block old n is whole next same asked =
    waits_with_block got between.line n between.ended feed.waiting between.waiting asked (Reads-waiting next same)
    (λ none. whole (ap (λ (feed : ItemFeed). whole_items feed.waiting) (sym is) ∙ none))

-- the line at the front of what waits, whose newline stands there
whole_at : (waiting : List ℕ) (at : ℕ) → IsNewline waiting at
    → whole_item waiting ≡ whole_behind (line_item (take at waiting)) (asks (line_item (take at waiting))) (drop (at + 1) waiting)
whole_at waiting at newline =
    ap whole_item (newline_parts waiting at newline) ∙ whole_item-line (take at waiting) (drop (at + 1) waiting) (HasNoNewline-take waiting at newline)

pub whole_alone : (waiting : List ℕ) (at : ℕ) → IsNewline waiting at → asks (line_item (take at waiting)) ≡ None
    → whole_item waiting ≡ Some (line_item (take at waiting), drop (at + 1) waiting)
whole_alone waiting at newline none =
    whole_at waiting at newline ∙ ap (λ (size : Option ℕ). whole_behind (line_item (take at waiting)) size (drop (at + 1) waiting)) none

pub whole_with : (waiting : List ℕ) (at n : ℕ) → IsNewline waiting at → asks (line_item (take at waiting)) ≡ Some n
    → whole_item waiting ≡ whole_block n (drop (at + 1) waiting)
whole_with waiting at n newline some =
    whole_at waiting at newline ∙ ap (λ (size : Option ℕ). whole_behind (line_item (take at waiting)) size (drop (at + 1) waiting)) some

pub wants_memory_at : (waiting : List ℕ) (at n : ℕ) → IsNewline waiting at → asks (line_item (take at waiting)) ≡ Some n → n ≤ longest_block
    → WantsMemory waiting
wants_memory_at waiting at n newline some short =
    wants_memory waiting n
    (ap asked_first (newline_parts waiting at newline) ∙ asked_line (take at waiting) (drop (at + 1) waiting) (HasNoNewline-take waiting at newline)
    ∙ some) short

-- an item that is whole in what waits
pub item_here : (next : NextItem) (old new : ItemFeed) (item : Item) (input : Input) → whole_item old.waiting ≡ Some (item, new.waiting)
    → item_next next new ≡ Some item
    → new.ended ≡ false → new.read ≡ old.read → TakesNextItem next old new input input
item_here next old new item input whole is going read =
    Reads-none old.waiting old.read new.read input (λ bytes. TakesItem (item_next next new) new.ended bytes new.waiting) read
    (takes_item (item_next next new) (Some item) new.ended false old.waiting new.waiting new.waiting is going refl
    (begins_with old.waiting new.waiting item whole))

-- the line before a newline is taken of what waits
pub record TakenLine (got : Got) (old new : Feed) (at : ℕ) : Type 0 where
  pub item : line_got got new.line ≡ Some (line_item (take at old.waiting))
  pub waiting : new.waiting ≡ drop (at + 1) old.waiting
  pub read : new.read ≡ old.read
  pub ended : new.ended ≡ old.ended

pub taken_line : (got : Got) (old between new : Feed) (shown line : List ℕ) (at : ℕ) → between ≡ old → shown ≡ between.waiting
    → line_got got line ≡ Some (line_item (take at shown)) → line ≡ take (length line) (take at shown) → length line ≤ length (take at shown)
    → new ≡ record between { line = take (length line) between.waiting; waiting = drop (at + 1) between.waiting } → TakenLine got old new at
taken_line got old between new shown line at same is item front within new_is =
    let waiting : shown ≡ old.waiting = is ∙ waiting_of same in
    let front_is : line ≡ take (length line) between.waiting =
    front ∙ take-take (length line) at shown (omega (arith, within, length-take at shown)) ∙ ap (take (length line)) is in
    record {
      item =
          ap (line_got got) (ap (λ (feed : Feed). feed.line) new_is ∙ sym front_is) ∙ item
          ∙ ap (λ (bytes : List ℕ). Some (line_item (take at bytes))) waiting;
      waiting = waiting_of new_is ∙ ap (drop (at + 1)) (waiting_of same);
      read = read_of new_is ∙ read_of same;
      ended = ended_of new_is ∙ ended_of same;
    }

-- the question is asked of the line before the newline
pub asks_raw : (got : Got) (line shown waiting : List ℕ) (at : ℕ) (asked size : Option ℕ) → line_got got line ≡ Some (line_item (take at shown))
    → shown ≡ waiting
    → asked ≡ option_and_then asks (line_got got line) → size ≡ asked → asks (line_item (take at waiting)) ≡ size
asks_raw got line shown waiting at asked size item is answer same =
    ap (λ (bytes : List ℕ). asks (line_item (take at bytes))) (sym is) ∙ ap (option_and_then asks) (sym item) ∙ sym answer ∙ sym same
