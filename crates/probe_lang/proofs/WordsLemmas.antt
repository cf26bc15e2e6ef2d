-- The words of a probe: the spaces at their ends, and what stands between a head and a tail.
use Rattle.std.proofs.Common.{◌≡◌, ℕ, zero, suc, ◌+◌, ◌-◌, ◌<◌, Bool, true, false, true≢false, cond, List, [], ◌∷◌, ◌++◌, length, take, drop, get_or}
use Rattle.std.proofs.Common.{Option, Some, None, refl, sym, ap, ◌∙◌, arith, append_assoc, length-append, length-take, take-append-drop}
use Rattle.std.specs.Prelude.{◌≢◌, reverse, slice_range, bytes_eq, nat_eq, nat_le, not, ◌&&◌, if◌then◌else◌, replicate}
use Rattle.std.specs.Borrow.{Bor}
use Rattle.std.specs.List.{list_any, prefix_len, suffix_len}
use Rattle.std.specs.Option.{MatchOption, option_map}
use Rattle.std.specs.Str.Pattern.{HasCharAt, StripsPrefix, StripsSuffix, FindsTextPrefix, FindsTextSuffix, FindsChar, FindsCharPrefix, FindsCharSuffix}
use Rattle.std.specs.Str.Pattern.{HasMatch, CutsPrefixes, CutsSuffixes, IsFullyTrimmed, IsTrimMatches}
use Rattle.std.proofs.Math.Utf8.{encode}
use Rattle.std.proofs.lemmas.Bool.{false_from_ne_true}
use Rattle.std.proofs.lemmas.Bool.Decides.{nat_tests}
use Rattle.std.proofs.lemmas.Slice.Eq.{bytes_eq-Decides}
use Rattle.std.proofs.lemmas.List.{append_cancel_left, append-nil, reverse-append, reverse-reverse, length-reverse}
use Rattle.std.proofs.lemmas.List.{replicate_more, length-replicate, take_at, drop_at, take-take}
use Rattle.std.proofs.lemmas.List.Folds.{list_any_at}
use Rattle.std.proofs.lemmas.Str.{encode_ascii, length-encode, len_utf8_ascii, len_utf8_bounds, inside_one}
use Rattle.std.proofs.lemmas.Str.Pattern.{drop_at_char, contains_char}
use Rattle.std.proofs.Math.Seq.{take-nil, drop-append_seam, take-append_seam, drop-length, get_or-append_seam}
use Rattle.std.specs.Bool.{MatchBool}
use Rattle.std.specs.Result.{result_ok}
use Rattle.bmc_base.specs.Names.{name_of}
use Rattle.probe_lang.specs.Words.{is_space, without_spaces, between, quoted_name}

-- ---- between

middle_is : (head middle tail : List ℕ) → slice_range (head ++ middle ++ tail) (length head) (length (head ++ middle ++ tail) - length tail) ≡ middle
middle_is head middle tail =
    let rest : drop (length head) (head ++ middle ++ tail) ≡ middle ++ tail = rw append_assoc (drop-append_seam head (middle ++ tail)) in
    let size : length (head ++ middle ++ tail) - length tail - length head ≡ length middle =
    omega (arith, length-append (head ++ middle) tail, length-append head middle) in
    rw (rest, size) (take-append_seam middle tail)

found : (head middle tail text : List ℕ) → text ≡ head ++ middle ++ tail → between head tail text ≡ Some middle
unfolding between
found head middle tail text e =
    let same : bytes_eq text (head ++ middle ++ tail) ≡ true = (bytes_eq-Decides text (head ++ middle ++ tail)).1 e in
    let is : slice_range text (length head) (length text - length tail) ≡ middle = rw e (middle_is head middle tail) in
    rw (is, same) refl

missing : (head tail text : List ℕ) → ((middle : List ℕ) → text ≡ head ++ middle ++ tail → ⊥) → between head tail text ≡ None
unfolding between
missing head tail text h =
    let middle = slice_range text (length head) (length text - length tail) in
    let other : bytes_eq text (head ++ middle ++ tail) ≡ false = false_from_ne_true _ (λ e. h middle ((bytes_eq-Decides text (head ++ middle ++ tail)).0 e)) in
    rw other refl

-- a text without the head
pub no_head : (head tail text : List ℕ) → FindsTextPrefix head text None → between head tail text ≡ None
no_head head tail text lacks = missing head tail text (λ middle e. lacks (middle ++ tail) (e ∙ append_assoc head middle tail))

-- what is answered where the tail is stripped of the rest
pub with_head : (head tail text rest : List ℕ) (answer : Option (Bor (List ℕ))) → StripsPrefix (FindsTextPrefix head) text rest
    → MatchOption answer (FindsTextSuffix tail rest None) (λ middle. StripsSuffix (FindsTextSuffix tail) rest middle.now)
    → option_map (λ middle. middle.now) answer ≡ between head tail text
with_head head tail text rest None (n, (size, split, at), is, long) lacks =
    let begins : text ≡ head ++ rest = split ∙ ap (λ xs. head ++ xs) (sym is) in
    sym (missing head tail text (λ middle e. lacks middle (append_cancel_left head _ _ (sym begins ∙ e ∙ append_assoc head middle tail))))
with_head head tail text rest (Some middle) (n, (size, split, at), is, long) (k, (tail_size, tail_split, tail_at), tail_is, tail_long) =
    let begins : text ≡ head ++ rest = split ∙ ap (λ xs. head ++ xs) (sym is) in
    let ends : rest ≡ middle.now ++ tail = tail_split ∙ ap (λ xs. xs ++ tail) (sym tail_is) in
    sym (found head middle.now tail text (begins ∙ ap (λ xs. head ++ xs) ends ∙ sym (append_assoc head middle.now tail)))

-- ---- spaces

abbrev spaces : ℕ → List ℕ
spaces n = replicate n 32

shift : (n : ℕ) (rest : List ℕ) → spaces n ++ 32 ∷ rest ≡ spaces (suc n) ++ rest
shift zero rest = refl
shift (suc n) rest = ap (λ xs. 32 ∷ xs) (shift n rest)

-- what was cut off the front, and off the end
cut_front : (ns text rest : List ℕ) → CutsPrefixes (FindsCharPrefix 32) text ns rest → text ≡ spaces (length ns) ++ rest
cut_front [] text rest e = sym e
cut_front (n ∷ ns) text rest (longer, cuts, at, e) =
    let begins : longer ≡ 32 ∷ rest = drop_at_char 32 longer 0 n at (omega arith) ∙ ap (λ xs. 32 ∷ xs) (sym e) in
    cut_front ns text longer cuts ∙ ap (λ xs. spaces (length ns) ++ xs) begins ∙ shift (length ns) rest

cut_end : (ns text rest : List ℕ) → CutsSuffixes (FindsCharSuffix 32) text ns rest → text ≡ rest ++ spaces (length ns)
cut_end [] text rest e = sym e ∙ sym (append-nil rest)
cut_end (n ∷ ns) text rest (longer, cuts, (size, at, bound), e) =
    let last : drop (length longer - n) longer ≡ 32 ∷ [] =
    drop_at_char 32 longer (length longer - n) (length longer) at (omega arith) ∙ ap (λ xs. 32 ∷ xs) (drop-length longer) in
    let ends : longer ≡ rest ++ 32 ∷ [] =
    sym (take-append-drop (length longer - n) longer) ∙ ap (λ xs. take (length longer - n) longer ++ xs) last ∙ ap (λ xs. xs ++ 32 ∷ []) (sym e) in
    cut_end ns text longer cuts ∙ ap (λ xs. xs ++ spaces (length ns)) ends ∙ append_assoc rest (32 ∷ []) (spaces (length ns))

-- nothing more to cut
no_more_front : (text : List ℕ) → IsFullyTrimmed (FindsCharPrefix 32) text → (rest : List ℕ) → text ≢ 32 ∷ rest
no_more_front text (None, lacks, e) rest is = lacks rest (is ∙ ap (λ xs. xs ++ rest) (sym (encode_ascii 32 (omega arith))))
no_more_front text (Some n, at, e) rest is = absurd (omega (arith, e, at.ends, len_utf8_ascii 32 (omega arith)))

no_more_end : (text : List ℕ) → IsFullyTrimmed (FindsCharSuffix 32) text → (front : List ℕ) → text ≢ front ++ 32 ∷ []
no_more_end text (None, lacks, e) front is = lacks front (is ∙ ap (λ xs. front ++ xs) (sym (encode_ascii 32 (omega arith))))
no_more_end text (Some n, (size, at, bound), e) front is = absurd (omega (arith, e, size, len_utf8_ascii 32 (omega arith)))

-- how many spaces there are at the front, and at the end
none_at_front : (text : List ℕ) → ((rest : List ℕ) → text ≢ 32 ∷ rest) → prefix_len is_space text ≡ 0
none_at_front [] other = refl
none_at_front (byte ∷ bytes) other = by (is_space byte) refl
  where
    by : (b : Bool) → is_space byte ≡ b → cond b (1 + prefix_len is_space bytes) 0 ≡ 0
    by true e = absurd (other bytes (ap (λ (x : ℕ). x ∷ bytes) (grind (arith, nat_tests, e))))
    by false e = refl

none_at_end : (text : List ℕ) → ((front : List ℕ) → text ≢ front ++ 32 ∷ []) → suffix_len is_space text ≡ 0
none_at_end text other =
    none_at_front (reverse text) (λ rest e. other (reverse rest) (sym (reverse-reverse text) ∙ ap reverse e ∙ reverse-append (32 ∷ []) rest))

front_spaces : (n : ℕ) (rest : List ℕ) → prefix_len is_space (spaces n ++ rest) ≡ n + prefix_len is_space rest
front_spaces zero rest = omega arith
front_spaces (suc n) rest = omega (arith, front_spaces n rest)

reverse_spaces : (n : ℕ) → reverse (spaces n) ≡ spaces n
reverse_spaces zero = refl
reverse_spaces (suc n) =
    let next : n + 1 ≡ suc n = omega arith in
    reverse-append (32 ∷ []) (spaces n) ∙ ap (λ xs. xs ++ 32 ∷ []) (reverse_spaces n) ∙ replicate_more n 32 ∙ ap spaces next

end_spaces : (text : List ℕ) (n : ℕ) → suffix_len is_space (text ++ spaces n) ≡ n + suffix_len is_space text
end_spaces text n =
    ap (prefix_len is_space) (reverse-append text (spaces n) ∙ ap (λ xs. xs ++ reverse text) (reverse_spaces n)) ∙ front_spaces n (reverse text)

-- an end that is not empty and has no space behind it
front_alone : (text rest : List ℕ) → 0 < length text → prefix_len is_space text ≡ 0 → prefix_len is_space (text ++ rest) ≡ 0
front_alone [] rest some e = absurd (omega arith)
front_alone (byte ∷ bytes) rest some e = by (is_space byte) e
  where
    by : (b : Bool) → cond b (1 + prefix_len is_space bytes) 0 ≡ 0 → cond b (1 + prefix_len is_space (bytes ++ rest)) 0 ≡ 0
    by true e = absurd (omega arith)
    by false e = refl

end_alone : (front text : List ℕ) → 0 < length text → suffix_len is_space text ≡ 0 → suffix_len is_space (front ++ text) ≡ 0
end_alone front text some e =
    ap (prefix_len is_space) (reverse-append front text) ∙ front_alone (reverse text) (reverse front) (omega (arith, length-reverse text)) e

-- the text in the middle, and the empty one
middle_alone : (n k : ℕ) (text : List ℕ) → 0 < length text → prefix_len is_space text ≡ 0 → suffix_len is_space text ≡ 0
    → without_spaces ((spaces n ++ text) ++ spaces k) ≡ text
unfolding without_spaces
middle_alone n k text some no_front no_end =
    let whole = (spaces n ++ text) ++ spaces k in
    let behind : suffix_len is_space whole ≡ k = omega (arith, end_spaces (spaces n ++ text) k, end_alone (spaces n) text some no_end) in
    let size : length (spaces n ++ text) ≡ length whole - suffix_len is_space whole =
    omega (arith, behind, length-append (spaces n ++ text) (spaces k), length-replicate {A = ℕ} k 32) in
    let front : take (length whole - suffix_len is_space whole) whole ≡ spaces n ++ text = take_at (spaces n ++ text) (spaces k) _ size in
    let before : length (spaces n) ≡ prefix_len is_space (spaces n ++ text) = omega (arith, length-replicate {A = ℕ} n 32, front_spaces n text) in
    rw front (drop_at (spaces n) text _ before)

no_middle : (n : ℕ) → without_spaces (spaces n) ≡ []
unfolding without_spaces
no_middle n =
    let behind : suffix_len is_space (spaces n) ≡ n = omega (arith, end_spaces [] n) in
    let size : 0 ≡ length (spaces n) - suffix_len is_space (spaces n) = omega (arith, behind, length-replicate {A = ℕ} n 32) in
    let front : take (length (spaces n) - suffix_len is_space (spaces n)) (spaces n) ≡ [] = take_at [] (spaces n) _ size in
    rw front refl

-- a character other than a space does not end as one
one_character : (c w : ℕ) (text : List ℕ) → HasCharAt c text 0 w → ((rest : List ℕ) → text ≢ 32 ∷ rest) → (front : List ℕ) → take w text ≢ front ++ 32 ∷ []
one_character c w text at other front e =
    let rest = drop w text in
    let size : length front < length (encode c) = omega (arith, ap length e, length-append front (32 ∷ []), length-take w text, at.ends, length-encode c) in
    let whole : text ≡ front ++ 32 ∷ rest = sym (take-append-drop w text) ∙ ap (λ xs. xs ++ rest) e ∙ append_assoc front (32 ∷ []) rest in
    let byte : get_or text (length front) 0 ≡ 32 = ap (λ xs. get_or xs (length front) 0) whole ∙ get_or-append_seam front 32 rest 0 in
    let is : c ≡ 32 = inside_one c rest text (length front) at.split size (omega (arith, byte)) ∙ byte in
    other rest (at.split ∙ ap (λ d. encode d ++ rest) is ∙ ap (λ xs. xs ++ rest) (encode_ascii 32 (omega arith)))

both_ends : (front behind : List ℕ) → ((xs : List ℕ) → front ≢ xs ++ 32 ∷ []) → ((xs : List ℕ) → behind ≢ xs ++ 32 ∷ [])
    → suffix_len is_space (front ++ behind) ≡ 0
both_ends front [] no_front no_end = none_at_end (front ++ []) (λ xs e. no_front xs (sym (append-nil front) ∙ e))
both_ends front (byte ∷ bytes) no_front no_end = end_alone front (byte ∷ bytes) (omega arith) (none_at_end (byte ∷ bytes) no_end)

-- what `trim_matches` gives at a space
pub trimmed_is : (text trimmed : List ℕ) → IsTrimMatches (FindsCharPrefix 32) (FindsCharSuffix 32) text trimmed → trimmed ≡ without_spaces text
trimmed_is text trimmed ([], ((ns, cuts), done), is, behind) =
    let none : trimmed ≡ [] = is ∙ take-nil (length trimmed) in
    none ∙ sym (ap without_spaces (cut_front ns text [] cuts ∙ append-nil (spaces (length ns))) ∙ no_middle (length ns))
trimmed_is text trimmed (byte ∷ bytes, ((ns, cuts), done), is, behind) =
    let rest : List ℕ = byte ∷ bytes in
    let (c, w, at, fits, ending) = behind (omega arith) in
    let (ms, ends) = ending.0 in
    let cut : drop w rest ≡ drop w trimmed ++ spaces (length ms) = cut_end ms (drop w rest) (drop w trimmed) ends in
    let front : take w trimmed ≡ take w rest = ap (take w) is ∙ take-take w (length trimmed) rest fits in
    let whole : rest ≡ trimmed ++ spaces (length ms) =
    sym (take-append-drop w rest) ∙ ap (λ xs. take w rest ++ xs) cut ∙ ap (λ xs. xs ++ (drop w trimmed ++ spaces (length ms))) (sym front)
    ∙ sym (append_assoc (take w trimmed) (drop w trimmed) (spaces (length ms))) ∙ ap (λ xs. xs ++ spaces (length ms)) (take-append-drop w trimmed) in
    let other = no_more_front rest done in
    let no_front : prefix_len is_space trimmed ≡ 0 =
    none_at_front trimmed (λ xs e. other (xs ++ spaces (length ms)) (whole ∙ ap (λ ys. ys ++ spaces (length ms)) e)) in
    let no_end : suffix_len is_space trimmed ≡ 0 =
    sym (ap (suffix_len is_space) (take-append-drop w trimmed))
    ∙ both_ends (take w trimmed) (drop w trimmed) (λ xs e. one_character c w rest at other xs (sym front ∙ e)) (no_more_end (drop w trimmed) ending.1) in
    let some : 0 < length trimmed = omega (arith, fits, at.ends, (len_utf8_bounds c).0) in
    let text_is : text ≡ (spaces (length ns) ++ trimmed) ++ spaces (length ms) =
    cut_front ns text rest cuts ∙ ap (λ xs. spaces (length ns) ++ xs) whole ∙ sym (append_assoc (spaces (length ns)) trimmed (spaces (length ms))) in
    sym (ap without_spaces text_is ∙ middle_alone (length ns) (length ms) trimmed some no_front no_end)

-- ---- names in quotes

no_quote : (name : List ℕ) → ((k : ℕ) → k < length name → get_or name k 0 ≢ 39) → list_any (nat_eq 39) name ≡ false
no_quote [] none = refl
no_quote (byte ∷ bytes) none = grind (arith, nat_tests, none 0 (omega arith), no_quote bytes (λ k below. none (suc k) (omega arith)))

a_quote : (name : List ℕ) (k : ℕ) → k < length name → get_or name k 0 ≡ 39 → list_any (nat_eq 39) name ≡ true
a_quote name k below is = list_any_at (nat_eq 39) name k 0 below (grind (arith, nat_tests, is))

-- a test for a quote
pub quote_found : (found : Bool) (name : List ℕ) → MatchBool found (HasMatch (FindsChar 39) name) (FindsChar 39 name None) → found ≡ list_any (nat_eq 39) name
quote_found true name cases =
    let (k, below, is) = (contains_char 39 name true cases (omega arith)).0 refl in
    sym (a_quote name k below is)
quote_found false name cases =
    sym (no_quote name (λ k below is. true≢false (sym ((contains_char 39 name false cases (omega arith)).1 k below is))))

pub quoted_not : (name : List ℕ) → list_any (nat_eq 39) name ≡ true → quoted_name (Some name) ≡ None
quoted_not name quote = rw quote (by (nat_le 1 (length name)) (nat_le (length name) 64))
  where
    by : (a b : Bool) → (if a && b && not true then Some name else None) ≡ None
    by true true = refl
    by true false = refl
    by false b = refl

pub quoted_is : (name : List ℕ) → list_any (nat_eq 39) name ≡ false → result_ok (name_of name) ≡ quoted_name (Some name)
quoted_is name quote = grind (arith, nat_tests, quote)
