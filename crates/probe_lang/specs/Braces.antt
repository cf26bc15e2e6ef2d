-- The members of a pattern, as they are written between its braces.
use Rattle.std.specs.Prelude.{ℕ, zero, suc, pos, nat_le, ◌==◌, if◌then◌else◌, List, [], ◌∷◌, ◌++◌, length, codes}
use Rattle.std.specs.Prelude.{Option, Some, None, option_and_then, option_map}
use Rattle.std.specs.List.{flat_map}
use Rattle.serde_json.specs.Read.{read}
use Rattle.serde_json.specs.Data.{Num, unsigned, negative, float, Data, null, boolean, number, string, array, object, Members, no_members, member}
use Rattle.probe_lang.specs.declared.pattern_text.Want.{Want}
use Rattle.probe_lang.specs.declared.pattern_text.Want.TheVariants as wants
use Rattle.probe_lang.specs.declared.pattern_text.Member.{Member}

-- the most members of a pattern, and the most bytes of the text that a member wants
abbrev pub most_members : ℕ
most_members = 16

abbrev pub longest_want : ℕ
longest_want = 256

-- how a byte of a pattern stands in JSON: a quote (39) as a double quote (34), and a backslash (92) as two
abbrev pub json_byte : ℕ → List ℕ
json_byte byte = if byte == 39 then 34 ∷ [] else if byte == 92 then 92 ∷ 92 ∷ [] else byte ∷ []

-- the text of an object, where this stands between its braces
abbrev pub json_text : List ℕ → List ℕ
json_text inner = codes "{" ++ flat_map json_byte inner ++ codes "}"

-- a text of at most 256 bytes, or a whole number
abbrev pub whole_want : Num → Option Want
whole_want (unsigned n) = Some (wants.Number (pos n))
whole_want (negative n) = Some (wants.Number n)
whole_want (float x) = None

abbrev pub want_of : Data → Option Want
want_of (string text) = if nat_le (length text) longest_want then Some (wants.Pattern text) else None
want_of (number n) = whole_want n
want_of null = None
want_of (boolean b) = None
want_of (array items) = None
want_of (object ms) = None

abbrev pub with_member : List ℕ → Option Want → Option (List Member) → Option (List Member)
with_member key want members = option_and_then (λ want. option_map (λ members. record { key = key; want = want } ∷ members) members) want

abbrev pub members_of : Members → Option (List Member)
members_of no_members = Some []
members_of (member key value ms) = with_member key (want_of value) (members_of ms)

abbrev pub member_count : Members → ℕ
member_count no_members = zero
member_count (member key value ms) = suc (member_count ms)

-- the members of an object, each with what it wants, in the order of their keys
abbrev pub pattern_of : Data → Option (List Member)
pattern_of (object ms) = if nat_le (member_count ms) most_members then members_of ms else None
pattern_of null = None
pattern_of (boolean b) = None
pattern_of (number n) = None
pattern_of (string text) = None
pattern_of (array items) = None

-- the members of a pattern with this between its braces
unfoldable pub pattern_in : Option (List ℕ) → Option (List Member)
pattern_in None = None
pattern_in (Some inner) = option_and_then pattern_of (read (json_text inner))
