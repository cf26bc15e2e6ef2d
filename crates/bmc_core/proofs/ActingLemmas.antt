-- The live items that act in zones, gathered one after another.
use Rattle.std.proofs.Common.{◌≡◌, ◌∙◌, ◌+◌, ◌≤◌, ℕ, List, [], ◌∷◌, ◌++◌, Bool, true, false, ◌&&◌, cond, length, filter, refl, ap, sym, arith}
use Rattle.std.proofs.Common.{append_assoc, append-nil, length-append, flat_map, ◌||◌, ap₂, true≢false}
use Rattle.std.specs.List.{All, list_any}
use Rattle.std.proofs.lemmas.List.Elements.{All-cons, All-head, All-nil, All-tail}
use Rattle.std.proofs.lemmas.List.Folds.{list_any-append}
use Rattle.bmc_report.specs.declared.change.Change.{Change}
use Rattle.bmc_report.specs.declared.change.Change.TheVariants as changes_of
use Rattle.bmc_report.specs.declared.live_kind.LiveKind.TheVariants as kinds
use Rattle.bmc_machine.specs.Changes.{asks_for, concerns_zones}
use Rattle.cfg_json.specs.declared.item.Item.{Item}
use Rattle.cfg_json.specs.declared.item.ItemPart.{ItemPart}
use Rattle.cfg_json.specs.declared.item.ItemPart.TheVariants as parts
use Rattle.inventory.specs.Shown.{items_of as all_items}
use Rattle.inventory.specs.declared.shown.Shown.{Shown}
use Rattle.fan_zone.specs.Live.{acts}
use Rattle.inventory.specs.Items.{bears_name, is_live, AreNamedLive}
use Rattle.bmc_watch.specs.Watches.{WatchView, view_items}
use Rattle.bmc_core.specs.Acting.{acting, acting_of, asks_by, asks_for_some, is_named}

-- those of two lists, one after the other
pub acting_append : (watch : WatchView) (items more : List Item) → acting_of watch (items ++ more) ≡ acting_of watch items ++ acting_of watch more
acting_append watch [] more = refl
acting_append watch (item ∷ items) more =
    by (acts item.part && is_live (view_items watch) item) (acting_append watch items more)
  where
    by : (kept : Bool) → acting_of watch (items ++ more) ≡ acting_of watch items ++ acting_of watch more
        → cond kept (item ∷ acting_of watch (items ++ more)) (acting_of watch (items ++ more))
        ≡ cond kept (item ∷ acting_of watch items) (acting_of watch items) ++ acting_of watch more
    by true rest = ap (λ (later : List Item). item ∷ later) rest
    by false rest = rest

-- of live items, those that act
pub acting_live : (watch : WatchView) (items : List Item) → acting_of watch items ≡ acting (filter (is_live (view_items watch)) items)
acting_live watch [] = refl
acting_live watch (item ∷ items) = by (acts item.part) (is_live (view_items watch) item) refl (acting_live watch items)
  where
    by : (does lives : Bool) → acts item.part ≡ does → acting_of watch items ≡ acting (filter (is_live (view_items watch)) items)
        → cond (does && lives) (item ∷ acting_of watch items) (acting_of watch items)
        ≡ acting (cond lives (item ∷ filter (is_live (view_items watch)) items) (filter (is_live (view_items watch)) items))
    by true true is rest =
        ap (λ (later : List Item). item ∷ later) rest
        ∙ sym (ap (λ (b : Bool). cond b (item ∷ acting (filter (is_live (view_items watch)) items)) (acting (filter (is_live (view_items watch)) items))) is)
    by true false is rest = rest
    by false true is rest =
        rest
        ∙ sym (ap (λ (b : Bool). cond b (item ∷ acting (filter (is_live (view_items watch)) items)) (acting (filter (is_live (view_items watch)) items))) is)
    by false false is rest = rest

-- what was gathered, so many, and what is left to gather
pub record Gathers (watch : WatchView) (count : ℕ) (gathered left start all : List Item) (before room : ℕ) : Type 0 where
  pub items : gathered ++ acting_of watch left ≡ start ++ acting_of watch all
  pub counts : count + length (acting_of watch left) ≡ before + length (acting_of watch all)
  pub fits : before + length (acting_of watch all) ≤ room

-- there is room for those that come next
pub gathers_room : (watch : WatchView) (count : ℕ) (gathered next left start all : List Item) (before room : ℕ)
    → Gathers watch count gathered (next ++ left) start all before room → count + length (acting_of watch next) ≤ room
gathers_room watch count gathered next left start all before room gathers =
    let fits = gathers.fits in
    let counts = gathers.counts in
    let parts : length (acting_of watch (next ++ left)) ≡ length (acting_of watch next ++ acting_of watch left) =
    ap (λ (items : List Item). length items) (acting_append watch next left) in
    let two = length-append (acting_of watch next) (acting_of watch left) in
    omega (arith, fits, counts, parts, two)

pub gathers_more : (watch : WatchView) (count then : ℕ) (gathered now next left start all : List Item) (before room : ℕ)
    → Gathers watch count gathered (next ++ left) start all before room → now ≡ gathered ++ acting_of watch next
    → then ≡ count + length (acting_of watch next) → Gathers watch then now left start all before room
gathers_more watch count then gathered now next left start all before room gathers is counts_then = record {
  items =
      ap (λ (items : List Item). items ++ acting_of watch left) is ∙ append_assoc gathered (acting_of watch next) (acting_of watch left)
      ∙ sym (ap (λ (items : List Item). gathered ++ items) (acting_append watch next left)) ∙ gathers.items;
  counts =
      let counts = gathers.counts in
      let parts : length (acting_of watch (next ++ left)) ≡ length (acting_of watch next ++ acting_of watch left) =
      ap (λ (items : List Item). length items) (acting_append watch next left) in
      let two = length-append (acting_of watch next) (acting_of watch left) in
      omega (arith, counts, parts, two, counts_then);
  fits = gathers.fits;
}

pub gathers_all : (watch : WatchView) (count : ℕ) (gathered start all : List Item) (before room : ℕ) → Gathers watch count gathered [] start all before room
    → gathered ≡ start ++ acting_of watch all
gathers_all watch count gathered start all before room gathers = sym (append-nil gathered) ∙ gathers.items

pub gathers_count : (watch : WatchView) (count : ℕ) (gathered start all : List Item) (before room : ℕ) → Gathers watch count gathered [] start all before room
    → count ≡ before + length (acting_of watch all)
gathers_count watch count gathered start all before room gathers = let counts = gathers.counts in omega (arith, counts)

-- ---- items that bear names

all_front : (Fact : Item → Type 0) (front back : List Item) → All Fact (front ++ back) → All Fact front
all_front Fact [] back facts = All-nil Fact
all_front Fact (item ∷ front) back facts =
    All-cons Fact item front (All-head Fact item (front ++ back) facts) (all_front Fact front back (All-tail Fact item (front ++ back) facts))

all_back : (Fact : Item → Type 0) (front back : List Item) → All Fact (front ++ back) → All Fact back
all_back Fact [] back facts = facts
all_back Fact (item ∷ front) back facts = all_back Fact front back (All-tail Fact item (front ++ back) facts)

abbrev LiveIfNamed : List Item → Item → Type 0
LiveIfNamed items item = bears_name item.part ≡ true → is_live items item ≡ true

-- those of some boards are live, board after board
pub named_boards : (items : List Item) (boards : List Shown) → AreNamedLive items (all_items boards)
    → All (λ (board : Shown). AreNamedLive items board.items.items) boards
named_boards items [] named = All-nil (λ (board : Shown). AreNamedLive items board.items.items)
named_boards items (board ∷ boards) named =
    All-cons (λ (board : Shown). AreNamedLive items board.items.items) board boards
    (all_front (LiveIfNamed items) board.items.items (all_items boards) named)
    (named_boards items boards (all_back (LiveIfNamed items) board.items.items (all_items boards) named))

-- ---- what zones have to do with

-- what one of the items of some boards passes
pub any_flat : {X Y : Type 0} (test : Y → Bool) (image : X → List Y) (xs : List X) → list_any test (flat_map image xs)
    ≡ list_any (λ (x : X). list_any test (image x)) xs
any_flat test image [] = refl
any_flat {X} test image (x ∷ xs) =
    list_any-append test (image x) (flat_map image xs) ∙ ap (λ (later : Bool). list_any test (image x) || later) (any_flat test image xs)

none_filtered : {X : Type 0} (test keep : X → Bool) (xs : List X) → list_any test xs ≡ false → list_any test (filter keep xs) ≡ false
none_filtered test keep [] none = refl
none_filtered test keep (x ∷ xs) none = by (test x) (keep x) refl none (none_filtered test keep xs)
  where
    by : (is kept : Bool) → test x ≡ is → (is || list_any test xs) ≡ false → (list_any test xs ≡ false → list_any test (filter keep xs) ≡ false)
        → list_any test (cond kept (x ∷ filter keep xs) (filter keep xs)) ≡ false
    by true kept is none later = absurd (true≢false none)
    by false true is none later = ap (λ (b : Bool). b || list_any test (filter keep xs)) is ∙ later none
    by false false is none later = later none

-- what zones have to do with as to fewer items, they have to do with as to all
fewer : (keep : Item → Bool) (items : List Item) (change : Change) → concerns_zones items change ≡ false → concerns_zones (filter keep items) change ≡ false
fewer keep items (changes_of.Item gone kinds.Sensor name) none = none_filtered (λ (item : Item). asks_for name item.part) keep items none
fewer keep items (changes_of.Item gone kinds.Zone name) none = none
fewer keep items (changes_of.Item gone kinds.Fan name) none = none
fewer keep items (changes_of.Item gone kinds.Controller name) none = none
fewer keep items (changes_of.Board gone name index place) none = refl
fewer keep items (changes_of.Stale name) none = refl
fewer keep items (changes_of.Failure failed name) none = refl
fewer keep items (changes_of.Alarm on name position high critical) none = refl
fewer keep items (changes_of.Zone failsafe name) none = refl
fewer keep items (changes_of.Duty name duty) none = refl
fewer keep items (changes_of.PlugRefused place refusal) none = refl

pub fewer_concern : (keep : Item → Bool) (items : List Item) (changes : List Change) → list_any (concerns_zones items) changes ≡ false
    → list_any (concerns_zones (filter keep items)) changes ≡ false
fewer_concern keep items [] none = refl
fewer_concern keep items (change ∷ changes) none = by (concerns_zones items change) refl none (fewer_concern keep items changes)
  where
    by : (is : Bool) → concerns_zones items change ≡ is → (is || list_any (concerns_zones items) changes) ≡ false
        → (list_any (concerns_zones items) changes ≡ false → list_any (concerns_zones (filter keep items)) changes ≡ false)
        → (concerns_zones (filter keep items) change || list_any (concerns_zones (filter keep items)) changes) ≡ false
    by true is none later = absurd (true≢false none)
    by false is none later =
        ap (λ (b : Bool). b || list_any (concerns_zones (filter keep items)) changes) (fewer keep items change is) ∙ later none

-- ---- controllers that ask for what is gone or new

pub or_none : (one other : Bool) → (one || other) ≡ false → (one ≡ false) × (other ≡ false)
or_none true other none = absurd (cc)
or_none false other none = (refl, none)

pub or_both : (one other : Bool) → one ≡ false → other ≡ false → (one || other) ≡ false
or_both one other first second = ap (λ (b : Bool). b || other) first ∙ second

-- whether an item is a controller with an input that is gone or new by one change
abbrev asks_part : Change → ItemPart → Bool
asks_part change (parts.Control control) = is_named control.inputs change
asks_part change (parts.Sensor sensor) = false
asks_part change parts.Fan = false
asks_part change (parts.Zone setting) = false
asks_part change (parts.Mux part) = false
asks_part change parts.Passive = false

split_part : (change : Change) (changes : List Change) (part : ItemPart) → asks_by (change ∷ changes) part ≡ false
    → (asks_part change part ≡ false) × (asks_by changes part ≡ false)
split_part change changes (parts.Control control) none = or_none _ _ none
split_part change changes (parts.Sensor sensor) none = (refl, refl)
split_part change changes parts.Fan none = (refl, refl)
split_part change changes (parts.Zone setting) none = (refl, refl)
split_part change changes (parts.Mux part) none = (refl, refl)
split_part change changes parts.Passive none = (refl, refl)

split_asks : (change : Change) (changes : List Change) (items : List Item) → list_any (asks_for_some (change ∷ changes)) items ≡ false
    → (list_any (λ (item : Item). asks_part change item.part) items ≡ false) × (list_any (asks_for_some changes) items ≡ false)
split_asks change changes [] none = (refl, refl)
split_asks change changes (item ∷ items) none =
    let both = or_none (asks_for_some (change ∷ changes) item) (list_any (asks_for_some (change ∷ changes)) items) none in
    let here = split_part change changes item.part both.0 in
    let later = split_asks change changes items both.1 in
    (or_both _ _ here.0 later.0, or_both _ _ here.1 later.1)

part_asks : (gone : Bool) (name : List ℕ) (part : ItemPart) → asks_part (changes_of.Item gone kinds.Sensor name) part ≡ asks_for name part
part_asks gone name (parts.Control control) = refl
part_asks gone name (parts.Sensor sensor) = refl
part_asks gone name parts.Fan = refl
part_asks gone name (parts.Zone setting) = refl
part_asks gone name (parts.Mux part) = refl
part_asks gone name parts.Passive = refl

named_asks : (gone : Bool) (name : List ℕ) (items : List Item)
    → list_any (λ (item : Item). asks_part (changes_of.Item gone kinds.Sensor name) item.part) items
    ≡ list_any (λ (item : Item). asks_for name item.part) items
named_asks gone name [] = refl
named_asks gone name (item ∷ items) = ap₂ (λ (one later : Bool). one || later) (part_asks gone name item.part) (named_asks gone name items)

unconcerned : (items : List Item) (change : Change) → concerns_zones [] change ≡ false
    → list_any (λ (item : Item). asks_part change item.part) items ≡ false → concerns_zones items change ≡ false
unconcerned items (changes_of.Item gone kinds.Sensor name) still none = sym (named_asks gone name items) ∙ none
unconcerned items (changes_of.Item gone kinds.Zone name) still none = still
unconcerned items (changes_of.Item gone kinds.Fan name) still none = still
unconcerned items (changes_of.Item gone kinds.Controller name) still none = still
unconcerned items (changes_of.Board gone name index place) still none = refl
unconcerned items (changes_of.Stale name) still none = refl
unconcerned items (changes_of.Failure failed name) still none = refl
unconcerned items (changes_of.Alarm on name position high critical) still none = refl
unconcerned items (changes_of.Zone failsafe name) still none = refl
unconcerned items (changes_of.Duty name duty) still none = refl
unconcerned items (changes_of.PlugRefused place refusal) still none = refl

-- where nothing that acts in zones is gone or new, and no controller asks for what is, zones have nothing to do with it
pub none_concern : (items : List Item) (changes : List Change) → list_any (concerns_zones []) changes ≡ false
    → list_any (asks_for_some changes) items ≡ false → list_any (concerns_zones items) changes ≡ false
none_concern items [] still none = refl
none_concern items (change ∷ changes) still none =
    let act = or_none (concerns_zones [] change) (list_any (concerns_zones []) changes) still in
    let ask = split_asks change changes items none in
    or_both _ _ (unconcerned items change act.0 ask.0) (none_concern items changes act.1 ask.1)

pub none_of_boards : (boards : List Shown) (changes : List Change) → list_any (concerns_zones []) changes ≡ false
    → list_any (λ (board : Shown). list_any (asks_for_some changes) board.items.items) boards ≡ false
    → list_any (concerns_zones (all_items boards)) changes ≡ false
none_of_boards boards changes still none =
    none_concern (all_items boards) changes still (any_flat (asks_for_some changes) (λ (board : Shown). board.items.items) boards ∙ none)
