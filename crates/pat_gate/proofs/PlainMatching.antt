-- Where a plain pattern has a match by regex's definitions.
use Rattle.std.proofs.Common.{◌≡◌, ℕ, zero, suc, ◌+◌, ◌<◌, ◌≤◌, List, [], ◌∷◌, ◌++◌, map, length, take, drop, Bool, true, false, not, is_some, IsSome}
use Rattle.std.proofs.Common.{refl, sym, ap, ◌∙◌, subst, ◌↔◌, length-append, true≢false, inl, inr, arith}
use Rattle.std.proofs.Math.Seq.{get_or-append_seam, drop-append_seam}
use Rattle.std.proofs.Math.ListN.{drop_of_length-le}
use Rattle.std.proofs.lemmas.Bool.{and_parts, cases_lt}
use Rattle.std.proofs.lemmas.Bool.Decides.{nat_tests, Decides-eqb}
use Rattle.std.proofs.lemmas.List.{take-append-drop, drop-drop}
use Rattle.std.proofs.lemmas.Option.{slice_get_past, slice_get-get_or}
use Rattle.std.proofs.lemmas.Slice.Eq.{starts_is}
use Rattle.std.proofs.lemmas.Str.{encode_ascii}
use Rattle.std.specs.Char.{is_ascii, encode_utf8}
use Rattle.std.specs.List.{list_all}
use Rattle.std.specs.Str.{IsCharBoundary}
use Rattle.regex_hir.proofs.OptionLemmas.{value_of_IsSome}
use Rattle.regex_hir.proofs.TextLemmas.{byte_before-zero, byte_before-add-one}
use Rattle.regex_hir.specs.Looks.{holds, holds_between}
use Rattle.regex_hir.specs.Matches.{Matches}
use Rattle.regex_hir.specs.Meaning.{cat_all}
use Rattle.regex_hir.specs.Re.{Re}
use Rattle.regex_hir.specs.Text.{has_bytes_at}
use Rattle.regex_hir.specs.declared.look.Look.TheVariants.{Start, End}
use Rattle.regex_syntax.proofs.EscapeLemmas.{itself}
use Rattle.regex_syntax.specs.Brackets.{Nested}
use Rattle.regex.proofs.ForCallers.{find_str_sound, find_str_complete}
use Rattle.regex.specs.Patterns.{find_str, in_ranges}
use Rattle.pat_gate.specs.Grammar.{has_match}
use Rattle.pat_gate.specs.Plain.{Plain, IsPlain, StandsIn, is_plain, is_operator, written}
use Rattle.pat_gate.proofs.PlainReading.{starts, ends, parts_of, tree_of, read_written}

-- what the parts stand for, one behind another
abbrev joined : List (Nested Re) → Re
joined parts = cat_all (map (λ part. part.value) parts)

split_parts : (hay : List ℕ) (xs ys : List (Nested Re)) (i j : ℕ) → Matches hay (joined (xs ++ ys)) i j
    → (l : ℕ) × Matches hay (joined xs) i l × Matches hay (joined ys) l j
split_parts hay [] ys i j m = (i, refl, m)
split_parts hay (x ∷ xs) ys i j (k, here, later) = let (l, front, back) = split_parts hay xs ys k j later in (l, (k, here, front), back)

join_parts : (hay : List ℕ) (xs ys : List (Nested Re)) (i l j : ℕ) → Matches hay (joined xs) i l → Matches hay (joined ys) l j
    → Matches hay (joined (xs ++ ys)) i j
join_parts hay [] ys i l j front back = subst (λ k. Matches hay (joined ys) k j) front back
join_parts hay (x ∷ xs) ys i l j (k, here, later) back = (k, here, join_parts hay xs ys k l j later back)

-- `^` holds at the start alone, and `$` at the end
start_alone : (hay : List ℕ) (i : ℕ) → i < length hay → holds Start hay i ≡ true → i ≡ 0
unfolding holds holds_between
start_alone hay zero within h = refl
start_alone hay (suc i) within h =
    let next : suc i ≡ i + 1 = omega arith in
    absurd (true≢false (sym h ∙ rw (next, byte_before-add-one hay i, slice_get-get_or hay i 0 (omega arith))))

end_alone : (hay : List ℕ) (i : ℕ) → holds End hay i ≡ true → length hay ≤ i
unfolding holds holds_between
end_alone hay i h = elim (cases_lt i (length hay))
    [ inl within ↦ absurd (true≢false (sym h ∙ rw (slice_get-get_or hay i 0 within))) | inr past ↦ past ]

start_holds : (hay : List ℕ) → holds Start hay 0 ≡ true
unfolding holds holds_between
start_holds hay = rw (byte_before-zero hay)

end_holds : (hay : List ℕ) → holds End hay (length hay) ≡ true
unfolding holds holds_between
end_holds hay = rw (slice_get_past hay (length hay) (omega arith))

start_matches : (at_start : Bool) (hay : List ℕ) (i l : ℕ) → Matches hay (joined (starts at_start)) i l
    → (l ≡ i) × (at_start ≡ true → holds Start hay i ≡ true)
start_matches true hay i l (k, (here, stays), ends) = (ends ∙ stays, λ _. here)
start_matches false hay i l stays = (stays, λ e. absurd (cc))

end_matches : (at_end : Bool) (hay : List ℕ) (i l : ℕ) → Matches hay (joined (ends at_end)) i l
    → (at_end ≡ true → holds End hay i ≡ true)
end_matches true hay i l (k, (here, stays), ends) = λ _. here
end_matches false hay i l stays = λ e. absurd (cc)

matches_start : (at_start : Bool) (hay : List ℕ) (i : ℕ) → (at_start ≡ true → holds Start hay i ≡ true)
    → Matches hay (joined (starts at_start)) i i
matches_start true hay i here = (i, (here refl, refl), refl)
matches_start false hay i here = refl

matches_end : (at_end : Bool) (hay : List ℕ) (i : ℕ) → (at_end ≡ true → holds End hay i ≡ true)
    → Matches hay (joined (ends at_end)) i i
matches_end true hay i here = (i, (here refl, refl), refl)
matches_end false hay i here = refl

-- a text that stands at a place
text_at : (hay text : List ℕ) (i : ℕ) → has_bytes_at hay i text ≡ true → drop i hay ≡ text ++ drop (i + length text) hay
unfolding has_bytes_at
text_at hay text i here =
    (starts_is Decides-eqb (drop i hay) text _ refl).0 here
    ∙ ap (λ (rest : List ℕ). text ++ rest) (drop-drop (length text) i hay)

at_text : (hay text rest : List ℕ) (i : ℕ) → drop i hay ≡ text ++ rest → has_bytes_at hay i text ≡ true
unfolding has_bytes_at
at_text hay text rest i here = (starts_is Decides-eqb (drop i hay) text _ refl).1 rest here

low : (c : ℕ) → is_plain c ≡ true → c < 128
low c plain = let ascii : is_ascii c ≡ true = (and_parts (is_ascii c) (not (is_operator c)) plain).0 in grind (arith, nat_tests, ascii)

one_byte : (c : ℕ) → is_plain c ≡ true → encode_utf8 c ≡ c ∷ []
one_byte c plain = encode_ascii c (low c plain)

-- plain characters match where they stand
text_matched : (hay text : List ℕ) (i j : ℕ) → list_all is_plain text ≡ true → Matches hay (joined (map itself text)) i j
    → (drop i hay ≡ text ++ drop j hay) × (j ≡ i + length text)
text_matched hay [] i j plain same = (ap (λ k. drop k hay) (sym same), omega (arith, same))
text_matched hay (c ∷ text) i j plain (k, (here, next), later) =
    let parts = and_parts (is_plain c) (list_all is_plain text) plain in
    let byte = one_byte c parts.0 in
    let stands = subst (λ bytes. has_bytes_at hay i bytes ≡ true) byte here in
    let front : drop i hay ≡ c ∷ drop (i + 1) hay = text_at hay (c ∷ []) i stands in
    let k_is : k ≡ i + 1 = next ∙ ap (λ bytes. i + length bytes) byte in
    let rest = text_matched hay text k j parts.1 later in
    (front ∙ ap (λ tail. c ∷ tail) (ap (λ at. drop at hay) (sym k_is) ∙ rest.0), omega (arith, rest.1, k_is))

text_matches : (hay text rest : List ℕ) (i : ℕ) → list_all is_plain text ≡ true → drop i hay ≡ text ++ rest
    → Matches hay (joined (map itself text)) i (i + length text)
text_matches hay [] rest i plain here = omega arith
text_matches hay (c ∷ text) rest i plain here =
    let parts = and_parts (is_plain c) (list_all is_plain text) plain in
    let byte = one_byte c parts.0 in
    let later : drop (i + 1) hay ≡ text ++ rest = sym (drop-drop 1 i hay) ∙ ap (drop 1) here in
    let more : i + 1 + length text ≡ i + length (c ∷ text) = omega arith in
    let stands = subst (λ bytes. has_bytes_at hay i bytes ≡ true) (sym byte) (at_text hay (c ∷ []) (text ++ rest) i here) in (
      i + 1,
      (stands, sym (ap (λ bytes. i + length bytes) byte)),
      subst (λ at. Matches hay (joined (map itself text)) (i + 1) at) more (text_matches hay text rest (i + 1) parts.1 later),
    )

within : (hay text rest : List ℕ) (i : ℕ) → 0 < length text → drop i hay ≡ text ++ rest → i < length hay
within hay text rest i some here = elim (cases_lt i (length hay)) [
  | inl less ↦ less
  | inr past ↦ absurd (omega (arith, ap length (sym here ∙ drop_of_length-le hay past), length-append text rest))
]

-- what a search finds stands there
match_stands_at : (plain : Plain) (hay : List ℕ) (i j : ℕ) → IsPlain plain → Matches hay (joined (parts_of plain)) i j
    → StandsIn plain hay
match_stands_at plain hay i j is m =
    let (l, front, rest) = split_parts hay (starts plain.at_start) (map itself plain.text ++ ends plain.at_end) i j m in
    let (k, text, back) = split_parts hay (map itself plain.text) (ends plain.at_end) l j rest in
    let start = start_matches plain.at_start hay i l front in
    let here = text_matched hay plain.text l k is.all text in
    let inside : l < length hay = within hay plain.text (drop k hay) l is.some here.0 in
    let at_front : plain.at_start ≡ true → l ≡ 0
    = λ e. start.0 ∙ start_alone hay i (subst (λ at. at < length hay) start.0 inside) (start.1 e) in
    record {
      before = take l hay;
      behind = drop k hay;
      parts = sym (take-append-drop l hay) ∙ ap (λ (rest : List ℕ). take l hay ++ rest) here.0;
      at_start = λ e. rw (at_front e);
      at_end = λ e. drop_of_length-le hay (end_alone hay k (end_matches plain.at_end hay k j back e));
    }

either : (plain : Plain) (hay : List ℕ) (i j : ℕ) → Matches hay (tree_of plain).value i j
    → Matches hay (joined (parts_of plain)) i j
unfolding in_ranges
either plain hay i j (inl m) = m
either plain hay i j (inr (b, here, never, at)) = absurd (true≢false (sym never))

found_stands : (plain : Plain) (hay : List ℕ) → IsPlain plain → IsSome (find_str (tree_of plain).value hay 0) → StandsIn plain hay
found_stands plain hay is h =
    let found = value_of_IsSome _ h in
    match_stands_at plain hay found.0.start _ is (either plain hay _ _ (find_str_sound (tree_of plain).value hay 0 found.0 found.1).1)

-- a plain character is a character of its own
boundary_at : (before text behind : List ℕ) → 0 < length text → list_all is_plain text ≡ true
    → IsCharBoundary (before ++ (text ++ behind)) (length before)
boundary_at before [] behind some plain = absurd (omega (arith, some))
boundary_at before (c ∷ text) behind some plain =
    let small = low c (and_parts (is_plain c) (list_all is_plain text) plain).0 in
    let byte = get_or-append_seam before c (text ++ behind) 0 in
    (omega (arith, length-append before (c ∷ text ++ behind)), λ _ high. absurd (omega (arith, small, high, byte)))

stands_found : (plain : Plain) (before behind : List ℕ) → IsPlain plain
    → (plain.at_start ≡ true → before ≡ []) → (plain.at_end ≡ true → behind ≡ [])
    → IsSome (find_str (tree_of plain).value (before ++ (plain.text ++ behind)) 0)
stands_found plain before behind is at_start at_end =
    let hay = before ++ (plain.text ++ behind) in
    let i = length before in
    let j = i + length plain.text in
    let start : plain.at_start ≡ true → holds Start hay i ≡ true
    = λ e. subst (λ at. holds Start hay at ≡ true) (sym (ap length (at_start e))) (start_holds hay) in
    let long : length hay ≡ j + length behind
    = omega (arith, length-append before (plain.text ++ behind), length-append plain.text behind) in
    let whole : plain.at_end ≡ true → length hay ≡ j = λ e. omega (arith, long, ap length (at_end e)) in
    let last : plain.at_end ≡ true → holds End hay j ≡ true
    = λ e. subst (λ at. holds End hay at ≡ true) (whole e) (end_holds hay) in
    let text = text_matches hay plain.text behind i is.all (drop-append_seam before (plain.text ++ behind)) in
    let rest = join_parts hay (map itself plain.text) (ends plain.at_end) i j j text (matches_end plain.at_end hay j last) in
    let first = matches_start plain.at_start hay i start in
    let all = join_parts hay (starts plain.at_start) (map itself plain.text ++ ends plain.at_end) i i j first rest in
    find_str_complete (tree_of plain).value hay 0 i j (omega arith) (boundary_at before plain.text behind is.some is.all) (inl all)

found_is : (plain : Plain) (hay : List ℕ) → IsPlain plain
    → has_match (written plain) hay ≡ is_some (find_str (tree_of plain).value hay 0)
unfolding has_match
found_is plain hay is = let (names, read_is) = read_written plain is in rw read_is

-- a plain pattern has a match exactly where its text stands
pub match_stands : (plain : Plain) (hay : List ℕ) → IsPlain plain → (has_match (written plain) hay ≡ true) ↔ StandsIn plain hay
match_stands plain hay is =
    let there : (all : List ℕ) → all ≡ hay → IsSome (find_str (tree_of plain).value all 0) → has_match (written plain) hay ≡ true
    = λ all same found. found_is plain hay is ∙ subst (λ (text : List ℕ). IsSome (find_str (tree_of plain).value text 0)) same found in (
      λ h. found_stands plain hay is (sym (found_is plain hay is) ∙ h),
      λ s. there _ (sym s.parts) (stands_found plain s.before s.behind is s.at_start s.at_end),
    )
