-- What regex's grammar reads in a plain pattern.
use Rattle.std.proofs.Common.{◌≡◌, ℕ, ◌+◌, ◌-◌, ◌*◌, ◌<◌, ◌≤◌, List, [], ◌∷◌, ◌++◌, map, length, Bool, true, false, ◌==◌, not, if◌then◌else◌, None}
use Rattle.std.proofs.Common.{Some, refl, sym, ap, ap₂, ◌∙◌, ne_eqb, append_assoc, append-nil, length-append, chars, codes, zero-add, zero, suc}
use Rattle.std.proofs.Common.{nat_lt, max, arith}
use Rattle.std.proofs.lemmas.Bool.{both_ways, and_parts, cond_both}
use Rattle.std.proofs.lemmas.Bool.Decides.{nat_tests}
use Rattle.std.proofs.lemmas.Str.{chars-IsAscii, IsAscii-append}
use Rattle.std.specs.Char.{is_ascii}
use Rattle.std.specs.List.{list_all}
use Rattle.std.specs.Str.{IsAscii}
use Rattle.regex_hir.specs.Meaning.{cat_all, alt_all}
use Rattle.regex_hir.specs.Re.{Re, look}
use Rattle.regex_hir.specs.declared.look.Look.TheVariants.{Start, End}
use Rattle.regex_syntax.proofs.BracketLemmas.{deepest-append}
use Rattle.regex_syntax.proofs.BranchLemmas.{Read, ends_branch, join_after, group_inside, more_parts, branch_goes, branch_ends, repetitions_end}
use Rattle.regex_syntax.proofs.BranchLemmas.{join_parts_is, branches_go, more_branches, join_ends}
use Rattle.regex_syntax.proofs.EscapeLemmas.{itself}
use Rattle.regex_syntax.proofs.ReadingLemmas.{skip-false}
use Rattle.regex_syntax.specs.Brackets.{Nested, flat, join, deepest}
use Rattle.regex_syntax.specs.Grammar.{Names, Place, atom, char_meaning, item, items, read, with_repetitions, branches, join_parts, names_below, group_count}
use Rattle.regex_syntax.specs.Reading.{Text, first, is_at, ◌>>=◌}
use Rattle.regex_syntax.specs.Sets.{verbatim}
use Rattle.regex.specs.Patterns.{default_config}
use Rattle.pat_gate.specs.Grammar.{is_pattern, IsPattern}
use Rattle.pat_gate.specs.Plain.{Plain, IsPlain, is_operator, is_plain, written}

-- what is left to read of a pattern without groups, under the default options
abbrev left : Text → Place
left text = record { config = default_config; names = None ∷ []; text = text }

-- no operator of repetition follows
abbrev IsSingle : Text → Type 0
IsSingle rest = is_at "?*+{" rest ≡ false

differs : (c d : ℕ) → is_operator c ≡ false → is_operator d ≡ true → (c == d) ≡ false
differs c d plain operator = ne_eqb c d (λ e. both_ways _ plain (ap is_operator e ∙ operator))

no_operator : (c : ℕ) → is_plain c ≡ true → is_operator c ≡ false
no_operator c plain = not_true (is_operator c) (and_parts (is_ascii c) (not (is_operator c)) plain).1
  where
    not_true : (b : Bool) → not b ≡ true → b ≡ false
    not_true true e = sym e
    not_true false e = refl

-- an atom that is no group and that no operator of repetition follows is an item
item_of_atom : (inner : Place → Read (Nested Re)) (text rest : Text) (part : Nested Re)
    → is_at "(" text ≡ false → atom default_config text ≡ Some (part, rest) → IsSingle rest
    → item inner (left text) ≡ Some (part, left rest)
unfolding item with_repetitions
item_of_atom inner text rest part no_group read_atom single =
    rw (
      item,
      no_group,
      read_atom,
      with_repetitions,
      repetitions_end default_config (length rest + 1) (length rest) part rest rest (omega arith) (sym (skip-false rest)) single,
    )

-- and the branch goes on behind it
branch_passes : (n m : ℕ) (earlier : List (Nested Re)) (text rest : Text) (part : Nested Re) → n ≡ m + 1
    → (is_at "(" text ≡ false) × (ends_branch text ≡ false) → atom default_config text ≡ Some (part, rest) → IsSingle rest
    → join_after cat_all earlier (items n (left text)) ≡ join_after cat_all (earlier ++ part ∷ []) (items m (left rest))
branch_passes n m earlier text rest part e begins read_atom single =
    branch_goes n m earlier (left text) text (omega arith) (sym (skip-false text)) begins.1
    ∙ ap (λ o. o >>= more_parts m earlier) (item_of_atom (group_inside m) text rest part begins.0 read_atom single)

atom_itself : (c : ℕ) (rest : Text) → is_operator c ≡ false → atom default_config (c ∷ rest) ≡ Some (itself c, rest)
unfolding atom first char_meaning verbatim
atom_itself c rest plain =
    rw (
      atom,
      char_meaning,
      differs c 63 plain refl,
      differs c 42 plain refl,
      differs c 43 plain refl,
      differs c 123 plain refl,
      differs c 91 plain refl,
      differs c 92 plain refl,
      differs c 46 plain refl,
      differs c 94 plain refl,
      differs c 36 plain refl,
    )

begins_no_group : (c : ℕ) (rest : Text) → is_operator c ≡ false → (is_at "(" (c ∷ rest) ≡ false) × (ends_branch (c ∷ rest) ≡ false)
unfolding first
begins_no_group c rest plain = (differs c 40 plain refl, rw (differs c 124 plain refl, differs c 41 plain refl) (grind (arith, nat_tests)))

single_before : (text rest : Text) → list_all is_plain text ≡ true → IsSingle rest → IsSingle (text ++ rest)
unfolding first
single_before [] rest plain single = single
single_before (c ∷ text) rest plain single =
    let own : is_operator c ≡ false = no_operator c (and_parts _ _ plain).0 in
    rw (differs c 63 own refl, differs c 42 own refl, differs c 43 own refl, differs c 123 own refl)

-- plain characters are read one by one
items_plain : (text rest : Text) (n m : ℕ) (earlier : List (Nested Re)) → list_all is_plain text ≡ true → n ≡ length text + m
    → IsSingle rest → join_after cat_all earlier (items n (left (text ++ rest)))
    ≡ join_after cat_all (earlier ++ map itself text) (items m (left rest))
items_plain [] rest n m earlier plain e single = rw (append-nil, e ∙ zero-add m)
items_plain (c ∷ text) rest n m earlier plain e single =
    let parts = and_parts (is_plain c) (list_all is_plain text) plain in
    let own : is_operator c ≡ false = no_operator c parts.0 in
    branch_passes n (n - 1) earlier _ (text ++ rest) (itself c) (omega arith) (begins_no_group c (text ++ rest) own)
    (atom_itself c (text ++ rest) own) (single_before text rest parts.1 single)
    ∙ items_plain text rest (n - 1) m (earlier ++ itself c ∷ []) parts.1 (omega arith) single
    ∙ ap (λ all. join_after cat_all all (items m (left rest))) (append_assoc earlier (itself c ∷ []) (map itself text))

-- what `^` and `$` are read as, where they stand
abbrev pub starts : Bool → List (Nested Re)
starts at_start = if at_start then flat (look Start) ∷ [] else []

abbrev pub ends : Bool → List (Nested Re)
ends at_end = if at_end then flat (look End) ∷ [] else []

items_start : (at_start : Bool) (rest : Text) (n m : ℕ) → n ≡ length (starts at_start) + m → IsSingle rest
    → join_after cat_all [] (items n (left ((if at_start then codes "^" else []) ++ rest)))
    ≡ join_after cat_all (starts at_start) (items m (left rest))
unfolding first atom char_meaning
items_start true rest n m e single =
    branch_passes n m [] _ rest (flat (look Start)) (omega arith) (refl, grind (arith, nat_tests)) refl single
items_start false rest n m e single = rw (e ∙ zero-add m)

items_end : (at_end : Bool) (n m : ℕ) (earlier : List (Nested Re)) → n ≡ m + 2
    → join_after cat_all earlier (items n (left (if at_end then codes "$" else [])))
    ≡ Some (join cat_all (earlier ++ ends at_end), left [])
unfolding first atom char_meaning
items_end true n m earlier e =
    branch_passes n (m + 1) earlier (codes "$") [] (flat (look End)) (omega arith) (refl, refl) refl refl
    ∙ branch_ends (m + 1) m (earlier ++ flat (look End) ∷ []) (left []) [] (omega arith) (sym (skip-false [])) refl
items_end false n m earlier e =
    rw (append-nil) (branch_ends n (m + 1) earlier (left []) [] (omega arith) (sym (skip-false [])) refl)

single_end : (at_end : Bool) → IsSingle (if at_end then codes "$" else [])
unfolding first
single_end true = refl
single_end false = refl

length_start : (at_start : Bool) → length (if at_start then codes "^" else []) ≡ length (starts at_start)
length_start true = refl
length_start false = refl

-- the parts of the one branch that a plain pattern has
abbrev pub parts_of : Plain → List (Nested Re)
parts_of plain = starts plain.at_start ++ (map itself plain.text ++ ends plain.at_end)

branch_of : (plain : Plain) → IsPlain plain
    → join_after cat_all [] (items (2 * length (written plain) + 1) (left (written plain)))
    ≡ Some (join cat_all (parts_of plain), left [])
branch_of plain is =
    let n = 2 * length (written plain) + 1 in
    let front = starts plain.at_start in
    let back = if plain.at_end then codes "$" else [] in
    let m = n - length front in
    let k = m - length plain.text in
    let some : 0 < length plain.text = is.some in
    let long : length (written plain) ≡ length front + (length plain.text + length back)
    = length-append _ (plain.text ++ back) ∙ ap₂ ◌+◌ (length_start plain.at_start) (length-append plain.text back) in
    items_start plain.at_start (plain.text ++ back) n m (omega arith) (single_before plain.text back is.all (single_end plain.at_end))
    ∙ items_plain plain.text back m k front is.all (omega arith) (single_end plain.at_end)
    ∙ items_end plain.at_end k (k - 2) (front ++ map itself plain.text) (omega arith)
    ∙ ap (λ parts. Some (join cat_all parts, left [])) (append_assoc front (map itself plain.text) (ends plain.at_end))

-- what a plain pattern is read as
abbrev pub tree_of : Plain → Nested Re
tree_of plain = join alt_all (join cat_all (parts_of plain) ∷ [])

branches_of : (plain : Plain) → IsPlain plain
    → join_parts alt_all (branches (2 * length (written plain) + 2) (left (written plain))) ≡ Some (tree_of plain, left [])
unfolding first
branches_of plain is =
    let n = 2 * length (written plain) + 1 in
    join_parts_is alt_all _ ∙ branches_go _ n [] _ (omega arith)
    ∙ ap (λ o. o >>= more_branches n []) (join_parts_is cat_all _ ∙ branch_of plain is)
    ∙ join_ends alt_all (join cat_all (parts_of plain) ∷ []) _

ascii_plain : (text : List ℕ) → list_all is_plain text ≡ true → IsAscii text
ascii_plain [] plain i = omega arith
ascii_plain (c ∷ text) plain zero =
    let own = (and_parts (is_plain c) (list_all is_plain text) plain).0 in
    let ascii : is_ascii c ≡ true = (and_parts (is_ascii c) (not (is_operator c)) own).0 in
    grind (arith, nat_tests, ascii)
ascii_plain (c ∷ text) plain (suc i) = ascii_plain text (and_parts (is_plain c) (list_all is_plain text) plain).1 i

ascii_one : (c : ℕ) → c < 128 → IsAscii (c ∷ [])
ascii_one c h zero = h
ascii_one c h (suc i) = omega arith

ascii_part : (some : Bool) (c : ℕ) → c < 128 → IsAscii (if some then c ∷ [] else [])
ascii_part true c h = ascii_one c h
ascii_part false c h = λ i. omega arith

ascii_written : (plain : Plain) → IsPlain plain → IsAscii (written plain)
ascii_written plain is =
    IsAscii-append _ _ (ascii_part plain.at_start 0x5E (omega arith))
    (IsAscii-append plain.text _ (ascii_plain plain.text is.all) (ascii_part plain.at_end 0x24 (omega arith)))

-- the grammar reads a plain pattern as that tree
pub read_written : (plain : Plain) → IsPlain plain
    → (names : Names) × (read default_config (chars (written plain)) ≡ Some (tree_of plain, names))
unfolding read
read_written plain is =
    let whole = (tree_of plain).value in
    let own = chars-IsAscii (written plain) (ascii_written plain is) in
    (names_below whole (None ∷ []) (max 1 (group_count whole)), rw (own, read, branches_of plain is))

deepest_itself : (text : List ℕ) → deepest (map itself text) ≡ 0
deepest_itself [] = refl
deepest_itself (c ∷ text) = omega (arith, deepest_itself text)

deepest_start : (at_start : Bool) → deepest (starts at_start) ≡ 0
deepest_start true = refl
deepest_start false = refl

deepest_end : (at_end : Bool) → deepest (ends at_end) ≡ 0
deepest_end true = refl
deepest_end false = refl

-- and it is not nested
pub flat_tree : (plain : Plain) → (tree_of plain).depth ≤ 1
flat_tree plain =
    let one = cond_both (nat_lt 1 (length (parts_of plain))) 1 0 (λ n. n ≤ 1) (λ _. omega arith) (λ _. omega arith) in
    omega (
      arith,
      one,
      deepest-append (starts plain.at_start) (map itself plain.text ++ ends plain.at_end),
      deepest-append (map itself plain.text) (ends plain.at_end),
      deepest_itself plain.text,
      deepest_start plain.at_start,
      deepest_end plain.at_end,
    )

pub plain_is_pattern : (plain : Plain) → IsPlain plain → IsPattern (written plain)
unfolding is_pattern
plain_is_pattern plain is =
    let (names, e) = read_written plain is in
    rw e (grind (arith, nat_tests, flat_tree plain))
