-- The JSON of a pattern, and its members one after another.
use Rattle.std.proofs.Common.{BTreeMap, ◌≡◌, ℕ, suc, ◌<◌, ◌≤◌, List, [], ◌∷◌, ◌++◌, codes, length, get_or, Option, Some, None}
use Rattle.std.proofs.Common.{refl, sym, ap, ◌∙◌, arith, append_assoc}
use Rattle.std.specs.Prelude.{◌≢◌, option_map, String, string_bytes}
use Rattle.std.specs.declared.alloc.Global.{Global}
use Rattle.std.specs.List.{flat_map}
use Rattle.std.specs.Str.{IsUtf8, chars}
use Rattle.std.proofs.Math.Utf8.{encode, encodes}
use Rattle.std.proofs.lemmas.Bool.Decides.{nat_tests}
use Rattle.std.proofs.lemmas.Grind.{flat_map-append}
use Rattle.std.proofs.lemmas.List.{append-nil}
use Rattle.std.proofs.lemmas.Str.{encode_ascii, inside_one, encodes-chars}
use Rattle.serde_json.specs.Data.{object}
use Rattle.serde_json.specs.View.{view, members_view}
use Rattle.serde_json.specs.declared.value.Value.{Value, Object}
use Rattle.serde_json.proofs.Views.{view-Object}
use Rattle.probe_lang.specs.Braces.{json_byte, json_text, pattern_of, want_of, members_of, member_count, with_member}
use Rattle.probe_lang.specs.declared.pattern_text.Want.{Want}
use Rattle.probe_lang.specs.declared.pattern_text.Member.{Member}

-- ---- the text

-- how a character of a pattern stands in JSON
abbrev pub json_char : ℕ → List ℕ
json_char c = flat_map json_byte (encode c)

same_byte : (byte : ℕ) → byte ≢ 39 → byte ≢ 92 → json_byte byte ≡ byte ∷ []
same_byte byte no_quote no_backslash = grind (arith, nat_tests)

same_bytes : (bytes : List ℕ) → ((k : ℕ) → k < length bytes → (get_or bytes k 0 ≢ 39) × (get_or bytes k 0 ≢ 92)) → flat_map json_byte bytes ≡ bytes
same_bytes [] other = refl
same_bytes (byte ∷ bytes) other =
    rw (same_byte byte (other 0 (omega arith)).0 (other 0 (omega arith)).1, same_bytes bytes (λ k below. other (suc k) (omega arith))) refl

-- a byte of a character's UTF-8 below 128 is the character
other_byte : (c byte : ℕ) → byte < 128 → c ≢ byte → (k : ℕ) → k < length (encode c) → get_or (encode c) k 0 ≢ byte
other_byte c byte low other k below e =
    other (inside_one c [] (encode c) k (sym (append-nil (encode c))) below (omega (arith, e)) ∙ e)

pub json_quote : json_char 39 ≡ 34 ∷ []
json_quote = rw (encode_ascii 39 (omega arith)) refl

pub json_backslash : json_char 92 ≡ 92 ∷ 92 ∷ []
json_backslash = rw (encode_ascii 92 (omega arith)) refl

pub json_other : (c : ℕ) → c ≢ 39 → c ≢ 92 → json_char c ≡ encode c
json_other c no_quote no_backslash =
    same_bytes (encode c) (λ k below. (other_byte c 39 (omega arith) no_quote k below, other_byte c 92 (omega arith) no_backslash k below))

-- the text of characters, one after another
pub json_chars : (cs : List ℕ) → flat_map json_char cs ≡ flat_map json_byte (encodes cs)
json_chars [] = refl
json_chars (c ∷ cs) = ap (λ xs. json_char c ++ xs) (json_chars cs) ∙ sym (flat_map-append json_byte (encode c) (encodes cs))

-- the JSON of all characters, closed
pub json_end : (json longer inner piece : List ℕ) → IsUtf8 inner
    → json ≡ codes "{" ++ flat_map json_char (chars inner) → longer ≡ json ++ piece → piece ≡ codes "}"
    → longer ≡ json_text inner
json_end json longer inner piece utf8 so_far more is =
    let inside : flat_map json_char (chars inner) ≡ flat_map json_byte inner = json_chars (chars inner) ∙ ap (flat_map json_byte) (encodes-chars inner utf8) in
    more ∙ ap (λ xs. json ++ xs) is ∙ ap (λ xs. xs ++ codes "}") (so_far ∙ ap (λ xs. codes "{" ++ xs) inside)

-- ---- the members

pub count_is : (ms : List (String Global × Value)) → member_count (members_view ms) ≡ length ms
count_is [] = refl
count_is (m ∷ ms) = ap suc (count_is ms)

seen_object : (value : Value) (m : BTreeMap (String Global) Value) → value ≡ Object m → pattern_of (view value) ≡ pattern_of (object (members_view m.entries))
seen_object value m is = ap (λ (v : Value). pattern_of (view v)) is ∙ ap pattern_of (view-Object m)

-- the members of an object, where they are few
pub few_members : (value : Value) (m : BTreeMap (String Global) Value) → value ≡ Object m → length m.entries ≤ 16
    → members_of (members_view m.entries) ≡ pattern_of (view value)
few_members value m is few =
    let seen = seen_object value m is in
    grind (arith, nat_tests, count_is m.entries, seen)

pub many_members : (value : Value) (m : BTreeMap (String Global) Value) → value ≡ Object m → 16 < length m.entries → None ≡ pattern_of (view value)
many_members value m is many =
    let seen = seen_object value m is in
    grind (arith, nat_tests, count_is m.entries, seen)

-- one member more
more : (read : List Member) (one : Member) (later : Option (List Member))
    → option_map (λ members. (read ++ one ∷ []) ++ members) later ≡ option_map (λ members. read ++ members) (with_member one.key (Some one.want) later)
more read one None = refl
more read one (Some members) = ap Some (append_assoc read (one ∷ []) members)

pub members_on : (read longer : List Member) (one : Member) (key : String Global) (value : Value)
    → (ms rest : List (String Global × Value)) (all : Option (List Member))
    → ms ≡ (key, value) ∷ rest → one.key ≡ string_bytes key → Some one.want ≡ want_of (view value) → longer ≡ read ++ one ∷ []
    → option_map (λ members. read ++ members) (members_of (members_view ms)) ≡ all
    → option_map (λ members. longer ++ members) (members_of (members_view rest)) ≡ all
members_on read longer one key value ms rest all next key_is want_is longer_is so_far =
    let later = members_of (members_view rest) in
    let here : with_member one.key (Some one.want) later ≡ members_of (members_view ms) =
    ap (λ (k : List ℕ). with_member k (Some one.want) later) key_is ∙ ap (λ (w : Option Want). with_member (string_bytes key) w later) want_is
    ∙ sym (ap (λ (xs : List (String Global × Value)). members_of (members_view xs)) next) in
    ap (λ (xs : List Member). option_map (λ members. xs ++ members) later) longer_is ∙ more read one later
    ∙ ap (option_map (λ members. read ++ members)) here ∙ so_far
