-- Bytes that are cut into items.
use Rattle.std.proofs.Common.{◌≡◌, ℕ, zero, suc, ◌+◌, ◌≤◌, ◌<◌, List, [], ◌∷◌, ◌++◌, length, take, drop, Bool, true, false, cond, arith, ap, sym, ◌∙◌, refl}
use Rattle.std.proofs.Common.{length-append, length-drop, append_assoc, inl, inr}
use Rattle.std.specs.Prelude.{Option, Some, None, option_and_then}
use Rattle.std.specs.List.{before_first, after_first, position_or_len}
use Rattle.std.proofs.lemmas.Bool.{cases_lt, lt-ltb, le-ltb}
use Rattle.std.proofs.lemmas.List.{take_at, drop_at, take-append-le, drop-append-le, take_all, drop_all}
use Rattle.bmc_text.specs.Newlines.{HasNoNewline}
use Rattle.bmc_text.specs.Items.{Item, is_newline, line_item, asks, behind_block, block_item, whole_block, whole_behind, whole_item, Cut, cut_off, cut_most}
use Rattle.bmc_text.specs.Items.{cut, whole_items, unfinished, last_behind, last_item, items_of}
use Rattle.bmc_text.specs.NextItems.{BeginsWith}
use Rattle.bmc_text.proofs.NewlinesLemmas.{position-none, position-line, len_none, len_line, Front, NoLine, LineThen, front_of}

pub whole_item-none : (raw : List ℕ) → HasNoNewline raw → whole_item raw ≡ None
unfolding whole_item
whole_item-none raw none =
    ap (option_and_then (λ (at : ℕ). whole_behind (line_item (take at raw)) (asks (line_item (take at raw))) (drop (at + 1) raw))) (position-none raw none)

behind_line : (raw rest : List ℕ) → drop (length raw + 1) (raw ++ 10 ∷ rest) ≡ rest
behind_line raw rest =
    ap (drop (length raw + 1)) (sym (append_assoc raw (10 ∷ []) rest))
    ∙ drop_at (raw ++ 10 ∷ []) rest (length raw + 1) (omega (arith, length-append raw (10 ∷ [])))

pub whole_item-line : (raw rest : List ℕ) → HasNoNewline raw → whole_item (raw ++ 10 ∷ rest) ≡ whole_behind (line_item raw) (asks (line_item raw)) rest
unfolding whole_item
whole_item-line raw rest none =
    ap (option_and_then
    (λ (at : ℕ). whole_behind (line_item (take at (raw ++ 10 ∷ rest))) (asks (line_item (take at (raw ++ 10 ∷ rest)))) (drop (at + 1) (raw ++ 10 ∷ rest))))
    (position-line raw rest none)
    ∙ ap (λ (line : List ℕ). whole_behind (line_item line) (asks (line_item line)) (drop (length raw + 1) (raw ++ 10 ∷ rest)))
    (take_at raw (10 ∷ rest) (length raw) refl)
    ∙ ap (whole_behind (line_item raw) (asks (line_item raw))) (behind_line raw rest)

pub whole_block-some : (n : ℕ) (bytes : List ℕ) → n < length bytes → whole_block n bytes ≡ Some (block_item n (take n bytes), behind_block (drop n bytes))
unfolding whole_block
whole_block-some n bytes over =
    ap (λ (test : Bool). cond test (Some (block_item n (take n bytes), behind_block (drop n bytes))) None) (lt-ltb n (length bytes) over)

pub whole_block-none : (n : ℕ) (bytes : List ℕ) → length bytes ≤ n → whole_block n bytes ≡ None
unfolding whole_block
whole_block-none n bytes few =
    ap (λ (test : Bool). cond test (Some (block_item n (take n bytes), behind_block (drop n bytes))) None) (le-ltb n (length bytes) few)

without_newline : (test : Bool) (byte : ℕ) (bytes : List ℕ) → length (cond test bytes (byte ∷ bytes)) ≤ suc (length bytes)
without_newline true byte bytes = omega arith
without_newline false byte bytes = omega arith

pub behind_block-shorter : (bytes : List ℕ) → length (behind_block bytes) ≤ length bytes
behind_block-shorter [] = omega arith
behind_block-shorter (byte ∷ bytes) = without_newline (is_newline byte) byte bytes

with_more : (test : Bool) (byte : ℕ) (bytes more : List ℕ) → cond test (bytes ++ more) (byte ∷ (bytes ++ more)) ≡ cond test bytes (byte ∷ bytes) ++ more
with_more true byte bytes more = refl
with_more false byte bytes more = refl

behind_block-more : (bytes more : List ℕ) → 0 < length bytes → behind_block (bytes ++ more) ≡ behind_block bytes ++ more
behind_block-more [] more some = absurd (omega arith)
behind_block-more (byte ∷ bytes) more some = with_more (is_newline byte) byte bytes more

-- an item that was found is one, with one rest
pub same_found : {one other : Item} {xs ys : List ℕ} → ◌≡◌ {A = Option (Item × List ℕ)} (Some (one, xs)) (Some (other, ys)) → (one ≡ other) × (xs ≡ ys)
same_found {one} {other} {xs} {ys} same =
    let pair : ◌≡◌ {A = Item × List ℕ} (one, xs) (other, ys) =
    cc in (ap (λ (found : Item × List ℕ). found.0) pair, ap (λ (found : Item × List ℕ). found.1) pair)

same_parts : (one other : Item) (xs ys : List Item) → one ∷ xs ≡ other ∷ ys → (one ≡ other) × (xs ≡ ys)
same_parts one other xs ys same = (cc, cc)

-- what a block that is whole leaves
block_shorter : (n : ℕ) (bytes others : List ℕ) (item : Item) → whole_block n bytes ≡ Some (item, others) → length others ≤ length bytes
block_shorter n bytes others item is_whole =
    elim (cases_lt n (length bytes)) [
      | inl over ↦
          let whole = whole_block-some n bytes over in
          let same : others ≡ behind_block (drop n bytes) = (same_found (sym is_whole ∙ whole)).1 in
          omega (arith, ap length same, behind_block-shorter (drop n bytes), length-drop n bytes)
      | inr over ↦ let cut = whole_block-none n bytes (omega arith) in absurd cc
    ]

block_more : (n : ℕ) (bytes others more : List ℕ) (item : Item) → whole_block n bytes ≡ Some (item, others)
    → whole_block n (bytes ++ more) ≡ Some (item, others ++ more)
block_more n bytes others more item is_whole =
    elim (cases_lt n (length bytes)) [
      | inl over ↦
          let whole = whole_block-some n bytes over in
          let longer = whole_block-some n (bytes ++ more) (omega (arith, length-append bytes more)) in
          let front : take n (bytes ++ more) ≡ take n bytes = take-append-le n bytes more (omega arith) in
          let behind : behind_block (drop n (bytes ++ more)) ≡ behind_block (drop n bytes) ++ more =
          ap behind_block (drop-append-le n bytes more (omega arith)) ∙ behind_block-more (drop n bytes) more (omega (arith, length-drop n bytes)) in
          let same = same_found (sym is_whole ∙ whole) in
          longer ∙ ap (λ (found : Item × List ℕ). Some found)
          (ap (λ (xs : List ℕ). (block_item n xs, behind_block (drop n (bytes ++ more)))) front
          ∙ ap (λ (xs : List ℕ). (block_item n (take n bytes), xs)) (behind ∙ ap (λ (xs : List ℕ). xs ++ more) (sym same.1))
          ∙ ap (λ (found : Item). (found, others ++ more)) (sym same.0))
      | inr over ↦ let cut = whole_block-none n bytes (omega arith) in absurd cc
    ]

behind_shorter : (line : Item) (asked : Option ℕ) (bytes others : List ℕ) (item : Item) → whole_behind line asked bytes ≡ Some (item, others)
    → length others ≤ length bytes
behind_shorter line None bytes others item is_whole = let same = (same_found is_whole).1 in omega (arith, ap length same)
behind_shorter line (Some n) bytes others item is_whole = block_shorter n bytes others item is_whole

behind_more : (line : Item) (asked : Option ℕ) (bytes others more : List ℕ) (item : Item) → whole_behind line asked bytes ≡ Some (item, others)
    → whole_behind line asked (bytes ++ more) ≡ Some (item, others ++ more)
behind_more line None bytes others more item is_whole =
    let same = same_found is_whole in ap (λ (found : Item). Some (found, bytes ++ more)) same.0 ∙ ap (λ (xs : List ℕ). Some (item, xs ++ more)) same.1
behind_more line (Some n) bytes others more item is_whole = block_more n bytes others more item is_whole

shorter_from : (bytes others : List ℕ) (item : Item) → Front bytes → whole_item bytes ≡ Some (item, others) → length others < length bytes
shorter_from bytes others item (NoLine none) is_whole = let no = whole_item-none bytes none in absurd cc
shorter_from bytes others item (LineThen raw rest none parts) is_whole =
    let found = behind_shorter (line_item raw) (asks (line_item raw)) rest others item (sym (ap whole_item parts ∙ whole_item-line raw rest none) ∙ is_whole) in
    omega (arith, found, ap length parts, length-append raw (10 ∷ rest))

-- an item takes at least a byte
item_shorter : (bytes others : List ℕ) (item : Item) → whole_item bytes ≡ Some (item, others) → length others < length bytes
item_shorter bytes others item is_whole = shorter_from bytes others item (front_of bytes) is_whole

more_from : (bytes others more : List ℕ) (item : Item) → Front bytes → whole_item bytes ≡ Some (item, others)
    → whole_item (bytes ++ more) ≡ Some (item, others ++ more)
more_from bytes others more item (NoLine none) is_whole = let no = whole_item-none bytes none in absurd cc
more_from bytes others more item (LineThen raw rest none parts) is_whole =
    ap whole_item (ap (λ (xs : List ℕ). xs ++ more) parts ∙ append_assoc raw (10 ∷ rest) more) ∙ whole_item-line raw (rest ++ more) none
    ∙ behind_more (line_item raw) (asks (line_item raw)) rest others more item (sym (ap whole_item parts ∙ whole_item-line raw rest none) ∙ is_whole)

-- an item that is whole stays, whatever follows
item_more : (bytes others more : List ℕ) (item : Item) → whole_item bytes ≡ Some (item, others) → whole_item (bytes ++ more) ≡ Some (item, others ++ more)
item_more bytes others more item is_whole = more_from bytes others more item (front_of bytes) is_whole

abbrev put_on : Item → Cut → Cut
put_on item others = record { items = item ∷ others.items; rest = others.rest }

-- bytes with no item that is whole are the rest, however many items may be cut
cut_most-none : (most : ℕ) (bytes : List ℕ) → whole_item bytes ≡ None → cut_most most bytes ≡ record { items = []; rest = bytes }
unfolding cut_most
cut_most-none zero bytes none = refl
cut_most-none (suc most) bytes none = ap (cut_off (cut_most most) bytes) none

cut_most-item : (most : ℕ) (bytes others : List ℕ) (item : Item) → whole_item bytes ≡ Some (item, others)
    → cut_most (suc most) bytes ≡ put_on item (cut_most most others)
unfolding cut_most
cut_most-item most bytes others item is_whole = ap (cut_off (cut_most most) bytes) is_whole

-- how bytes begin: with an item that is whole, or with none
data Begin (bytes : List ℕ) : Type 0 where
  NoItem : whole_item bytes ≡ None → Begin bytes
  ItemThen : (item : Item) (others : List ℕ) → whole_item bytes ≡ Some (item, others) → Begin bytes

begin_from : (bytes : List ℕ) (found : Option (Item × List ℕ)) → whole_item bytes ≡ found → Begin bytes
begin_from bytes None is = NoItem is
begin_from bytes (Some (item, others)) is = ItemThen item others is

begin_of : (bytes : List ℕ) → Begin bytes
begin_of bytes = begin_from bytes (whole_item bytes) refl

enough : (n m : ℕ) (bytes : List ℕ) → length bytes ≤ n → length bytes ≤ m → Begin bytes → cut_most n bytes ≡ cut_most m bytes
enough n m bytes fits fits_too (NoItem none) = cut_most-none n bytes none ∙ sym (cut_most-none m bytes none)
enough zero m bytes fits fits_too (ItemThen item others is_whole) = absurd (omega (arith, item_shorter bytes others item is_whole))
enough (suc n) zero bytes fits fits_too (ItemThen item others is_whole) = absurd (omega (arith, item_shorter bytes others item is_whole))
enough (suc n) (suc m) bytes fits fits_too (ItemThen item others is_whole) =
    let less = item_shorter bytes others item is_whole in
    cut_most-item n bytes others item is_whole
    ∙ ap (put_on item) (enough n m others (omega (arith, less)) (omega (arith, less)) (begin_of others))
    ∙ sym (cut_most-item m bytes others item is_whole)

cut-none : (bytes : List ℕ) → whole_item bytes ≡ None → cut bytes ≡ record { items = []; rest = bytes }
unfolding cut
cut-none bytes none = cut_most-none (length bytes) bytes none

-- how many items may be cut does not matter, once there are as many as bytes
cut-item : (bytes others : List ℕ) (item : Item) → whole_item bytes ≡ Some (item, others) → cut bytes ≡ put_on item (cut others)
unfolding cut
cut-item bytes others item is_whole =
    let less = item_shorter bytes others item is_whole in
    enough (length bytes) (suc (length bytes)) bytes (omega arith) (omega arith) (begin_of bytes) ∙ cut_most-item (length bytes) bytes others item is_whole
    ∙ ap (put_on item) (enough (length bytes) (length others) others (omega (arith, less)) (omega arith) (begin_of others))

pub whole_items-none : (bytes : List ℕ) → whole_item bytes ≡ None → whole_items bytes ≡ []
whole_items-none bytes none = ap (λ (c : Cut). c.items) (cut-none bytes none)

whole_items-item : (bytes others : List ℕ) (item : Item) → whole_item bytes ≡ Some (item, others) → whole_items bytes ≡ item ∷ whole_items others
whole_items-item bytes others item is_whole = ap (λ (c : Cut). c.items) (cut-item bytes others item is_whole)

items_of-item : (bytes others : List ℕ) (item : Item) → whole_item bytes ≡ Some (item, others) → items_of bytes ≡ item ∷ items_of others
items_of-item bytes others item is_whole = ap (λ (c : Cut). c.items ++ last_item c.rest) (cut-item bytes others item is_whole)

pub begins_with : (bytes others : List ℕ) (item : Item) → whole_item bytes ≡ Some (item, others) → BeginsWith bytes item others
begins_with bytes others item is_whole = record {
  all = λ more. items_of-item (bytes ++ more) (others ++ more) item (item_more bytes others more item is_whole);
  whole = λ more. whole_items-item (bytes ++ more) (others ++ more) item (item_more bytes others more item is_whole);
  shorter = item_shorter bytes others item is_whole;
}

-- the last item of bytes with no item that is whole
last_of : (bytes : List ℕ) → 0 < length bytes
    → last_item bytes
    ≡ last_behind (line_item (before_first is_newline bytes)) (asks (line_item (before_first is_newline bytes))) (after_first is_newline bytes) ∷ []
last_of [] some = absurd (omega arith)
last_of (byte ∷ bytes) some = refl

last_parts : (bytes raw rest : List ℕ) → 0 < length bytes → before_first is_newline bytes ≡ raw → after_first is_newline bytes ≡ rest
    → last_item bytes ≡ last_behind (line_item raw) (asks (line_item raw)) rest ∷ []
last_parts bytes raw rest some before after =
    last_of bytes some
    ∙ ap (λ (line : List ℕ). last_behind (line_item line) (asks (line_item line)) (after_first is_newline bytes) ∷ []) before
    ∙ ap (λ (behind : List ℕ). last_behind (line_item raw) (asks (line_item raw)) behind ∷ []) after

-- a line without a newline is the last item, with a block of no bytes where it asks for one
pub items_of-last : (raw : List ℕ) → 0 < length raw → HasNoNewline raw → items_of raw ≡ last_behind (line_item raw) (asks (line_item raw)) [] ∷ []
items_of-last raw some none =
    let all : position_or_len is_newline raw ≡ length raw = len_none raw none in
    ap (λ (c : Cut). c.items ++ last_item c.rest) (cut-none raw (whole_item-none raw none))
    ∙ last_parts raw raw [] some (take_all (position_or_len is_newline raw) raw (omega arith)) (drop_all (position_or_len is_newline raw + 1) raw (omega arith))

-- a line whose block the end cuts is the last item
pub items_of-cut : (raw rest : List ℕ) → HasNoNewline raw → whole_behind (line_item raw) (asks (line_item raw)) rest ≡ None
    → items_of (raw ++ 10 ∷ rest) ≡ last_behind (line_item raw) (asks (line_item raw)) rest ∷ []
items_of-cut raw rest none is_cut =
    let at : position_or_len is_newline (raw ++ 10 ∷ rest) ≡ length raw = len_line raw rest none in
    ap (λ (c : Cut). c.items ++ last_item c.rest) (cut-none (raw ++ 10 ∷ rest) (whole_item-line raw rest none ∙ is_cut))
    ∙ last_parts (raw ++ 10 ∷ rest) raw rest (omega (arith, length-append raw (10 ∷ rest)))
    (take_at raw (10 ∷ rest) (position_or_len is_newline (raw ++ 10 ∷ rest)) (sym at))
    (ap (λ (n : ℕ). drop (n + 1) (raw ++ 10 ∷ rest)) at ∙ behind_line raw rest)

stays : (n : ℕ) (bytes more : List ℕ) → length bytes ≤ n → Begin bytes → items_of (bytes ++ more) ≡ whole_items bytes ++ items_of (unfinished bytes ++ more)
stays n bytes more fits (NoItem none) = ap (λ (c : Cut). c.items ++ items_of (c.rest ++ more)) (sym (cut-none bytes none))
stays zero bytes more fits (ItemThen item others is_whole) = absurd (omega (arith, item_shorter bytes others item is_whole))
stays (suc n) bytes more fits (ItemThen item others is_whole) =
    (begins_with bytes others item is_whole).all more
    ∙ ap (λ (items : List Item). item ∷ items) (stays n others more (omega (arith, item_shorter bytes others item is_whole)) (begin_of others))
    ∙ ap (λ (c : Cut). c.items ++ items_of (c.rest ++ more)) (sym (cut-item bytes others item is_whole))

-- whatever follows, the items that are whole come first
pub whole_items-first : (bytes more : List ℕ) → items_of (bytes ++ more) ≡ whole_items bytes ++ items_of (unfinished bytes ++ more)
whole_items-first bytes more = stays (length bytes) bytes more (omega arith) (begin_of bytes)

items_of-nil : items_of [] ≡ []
unfolding cut cut_most
items_of-nil = refl

-- an item that is whole at the end of bytes is all of them
alone : (bytes : List ℕ) (item : Item) → whole_item bytes ≡ Some (item, []) → length (items_of bytes) ≡ 1
alone bytes item whole = ap length (items_of-item bytes [] item whole ∙ ap (λ (items : List Item). item ∷ items) items_of-nil)

-- A newline that follows an item which is not whole belongs to it: behind a line it ends the line, behind a block it
-- is part of it.
line_alone : (raw : List ℕ) (asked : Option ℕ) → HasNoNewline raw → asks (line_item raw) ≡ asked → length (items_of (raw ++ 10 ∷ [])) ≡ 1
line_alone raw None none asks_is =
    alone (raw ++ 10 ∷ []) (line_item raw) (whole_item-line raw [] none ∙ ap (λ (size : Option ℕ). whole_behind (line_item raw) size []) asks_is)
line_alone raw (Some n) none asks_is =
    ap length
    (items_of-cut raw [] none (ap (λ (size : Option ℕ). whole_behind (line_item raw) size []) asks_is ∙ whole_block-none n [] (omega arith)))

block_alone : (raw rest : List ℕ) (n : ℕ) → HasNoNewline raw → asks (line_item raw) ≡ Some n → length rest ≤ n
    → length (items_of (raw ++ 10 ∷ (rest ++ 10 ∷ []))) ≡ 1
block_alone raw rest n none asks_is few =
    let behind = whole_item-line raw (rest ++ 10 ∷ []) none ∙ ap (λ (size : Option ℕ). whole_behind (line_item raw) size (rest ++ 10 ∷ [])) asks_is in
    elim (cases_lt n (length (rest ++ 10 ∷ []))) [
      | inl more ↦
          let all : length rest ≡ n = omega (arith, more, length-append rest (10 ∷ [])) in
          alone (raw ++ 10 ∷ (rest ++ 10 ∷ [])) (block_item n (take n (rest ++ 10 ∷ [])))
          (behind ∙ whole_block-some n (rest ++ 10 ∷ []) more
          ∙ ap (λ (xs : List ℕ). Some (block_item n (take n (rest ++ 10 ∷ [])), behind_block xs)) (drop_at rest (10 ∷ []) n all))
      | inr few_now ↦ ap length
          (items_of-cut raw (rest ++ 10 ∷ []) none
          (ap (λ (size : Option ℕ). whole_behind (line_item raw) size (rest ++ 10 ∷ [])) asks_is ∙ whole_block-none n (rest ++ 10 ∷ []) (omega arith)))
    ]

block_few : (raw rest : List ℕ) (asked : Option ℕ) → HasNoNewline raw → asks (line_item raw) ≡ asked → whole_behind (line_item raw) asked rest ≡ None
    → length (items_of (raw ++ 10 ∷ (rest ++ 10 ∷ []))) ≡ 1
block_few raw rest None none asks_is cut = absurd cc
block_few raw rest (Some n) none asks_is cut =
    elim (cases_lt n (length rest)) [
      | inl more ↦ let whole = whole_block-some n rest more in absurd cc
      | inr few ↦ block_alone raw rest n none asks_is (omega arith)
    ]

newline_belongs : (bytes : List ℕ) → Front bytes → whole_item bytes ≡ None → length (items_of (bytes ++ 10 ∷ [])) ≡ 1
newline_belongs bytes (NoLine none) cut = line_alone bytes (asks (line_item bytes)) none refl
newline_belongs bytes (LineThen raw rest none parts) cut =
    ap (λ (xs : List ℕ). length (items_of xs)) (ap (λ (xs : List ℕ). xs ++ 10 ∷ []) parts ∙ append_assoc raw (10 ∷ rest) (10 ∷ []))
    ∙ block_few raw rest (asks (line_item raw)) none refl (sym (ap whole_item parts ∙ whole_item-line raw rest none) ∙ cut)

-- where there are bytes, there is an item
some_item : (bytes : List ℕ) → 0 < length bytes → Begin bytes → 0 < length (items_of bytes)
some_item bytes some (NoItem none) =
    let last = ap (λ (c : Cut). c.items ++ last_item c.rest) (cut-none bytes none) ∙ last_of bytes some in
    omega (arith, ap length last)
some_item bytes some (ItemThen item others is_whole) = omega (arith, ap length (items_of-item bytes others item is_whole))

all_whole : (found : List Item) (bytes rest : List ℕ) → Begin bytes → ((more : List ℕ) → items_of (bytes ++ more) ≡ found ++ items_of (rest ++ more))
    → (others : List Item) × (whole_items bytes ≡ found ++ others)
all_whole [] bytes rest begin same = (whole_items bytes, refl)
all_whole (item ∷ found) bytes rest (NoItem none) same =
    let one = newline_belongs bytes (front_of bytes) none in
    let more = some_item (rest ++ 10 ∷ []) (omega (arith, length-append rest (10 ∷ []))) (begin_of (rest ++ 10 ∷ [])) in
    absurd (omega (arith, one, more, ap length (same (10 ∷ [])), length-append found (items_of (rest ++ 10 ∷ []))))
all_whole (item ∷ found) bytes rest (ItemThen first others is_whole) same =
    let begins = begins_with bytes others first is_whole in
    let parts : (more : List ℕ) → (first ≡ item) × (items_of (others ++ more) ≡ found ++ items_of (rest ++ more)) =
    λ more. same_parts first item (items_of (others ++ more)) (found ++ items_of (rest ++ more)) (sym (begins.all more) ∙ same more) in
    let later = all_whole found others rest (begin_of others) (λ more. (parts more).1) in (
      later.0,
      whole_items-item bytes others first is_whole ∙ ap (λ (i : Item). i ∷ whole_items others) (parts []).0 ∙ ap (λ (items : List Item). item ∷ items) later.1,
    )

-- what comes first whatever follows, and where it ends, is whole
pub whole_items-all : (bytes rest : List ℕ) (found : List Item) → ((more : List ℕ) → items_of (bytes ++ more) ≡ found ++ items_of (rest ++ more))
    → (others : List Item) × (whole_items bytes ≡ found ++ others)
whole_items-all bytes rest found same = all_whole found bytes rest (begin_of bytes) same
