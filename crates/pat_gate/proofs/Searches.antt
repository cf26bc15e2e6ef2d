-- What the DFA answers, and what a search in bytes says of a text.
use Rattle.std.proofs.Common.{◌≡◌, ℕ, ◌<◌, ◌≤◌, Bool, true, false, List, length, All, Option, None, Some, is_some, refl, sym, ap, ◌∙◌, subst, arith}
use Rattle.std.proofs.Common.{⊎_elim, inl, inr, if◌then◌else◌, IsAscii, IsCharBoundary, Fits, w8, get_or}
use Rattle.std.proofs.lemmas.Bool.{cond-true, cond-false, cases_Bool, cases_lt}
use Rattle.std.proofs.lemmas.List.Elements.{All-from_get_or}
use Rattle.regex.proofs.Utf8Lemmas.{test_of_IsCharBoundary, IsCharBoundary-of_test}
use Rattle.regex_dfa.specs.Search.{end_from, entry}
use Rattle.regex_hir.specs.Find.{Match, find_str, first_between}
use Rattle.regex_hir.specs.Re.{Rest, Trace, attempt, accept}
use Rattle.regex_hir.specs.Meaning.{meaning}
use Rattle.regex_hir.specs.Text.{is_boundary}
use Rattle.regex_hir.specs.declared.hir.Hir.{Hir}
use Rattle.regex_extract.specs.Bounds.{IsAnchored}
use Rattle.regex_hir.proofs.AttemptLemmas.{attempt_sound}
use Rattle.regex_hir.proofs.OptionLemmas.{option_cases, none_of_no_value}
use Rattle.regex_hir.proofs.FindLemmas.{first_between_cong, first_between_here, first_between_none, none_of_first_between}
use Rattle.regex_compile.specs.Implements.{Implements}
use Rattle.regex_nfa.specs.Run.{run, find_in}
use Rattle.regex_nfa.specs.declared.nfa.Nfa.{Nfa}
use Rattle.regex_nfa.proofs.SearchLemmas.{run_unanchored}
use Rattle.regex_syntax.proofs.Written.{is_some-option_map}
use Rattle.regex_syntax.specs.Grammar.{Names}
use Rattle.regex_syntax.specs.Verdict.{default_config, Reads}
use Rattle.regex_vm.specs.Found.{first_match}
use Rattle.pat_gate.specs.Searches.{last_start, text_match_at, first_in_text, StartsAtStart, Serves}
use Rattle.pat_gate.proofs.Regexes.{reads_match}

-- what the type of a text says of its bytes
pub are_bytes : (hay : List ℕ) → ((i : ℕ) → Fits w8 (get_or hay i 0)) → All (λ b. b < 256) hay
are_bytes hay h = All-from_get_or (λ b. b < 256) hay 0 (λ i _. omega (arith, h i))

-- a search at one place finds what is there
only_here : (at : Rest) (i : ℕ) → is_some (at i) ≡ is_some (first_between at i i)
only_here at i = ⊎_elim
    (λ (none : at i ≡ None). ap is_some none ∙ sym (ap is_some (first_between_none at i i (λ j low high.
    let same : i ≡ j = omega arith in subst (λ x. at x ≡ None) same none))))
    (λ found. ap is_some found.1 ∙ sym (ap is_some (first_between_here at i i found.0 (omega arith) found.1)))
    (option_cases (at i))

module _ (nfa : Nfa) (hay : List ℕ) where
  -- the DFA finds an end where the NFA has a match
  pub end_is_match : (anchored : Bool) (start : ℕ) → All (λ b. b < 256) hay → start ≤ length hay
      → is_some (end_from nfa hay (length hay) (entry nfa anchored) start)
      ≡ is_some (first_match nfa hay (length hay) start (last_start hay start anchored))
  unfolding find_in
  end_is_match true start bytes inside =
      is_some-option_map (λ (t : Trace). t.end) (run nfa hay (length hay) nfa.start start)
      ∙ only_here (run nfa hay (length hay) nfa.start) start
  end_is_match false start bytes inside =
      is_some-option_map (λ (t : Trace). t.end) (run nfa hay (length hay) nfa.unanchored start)
      ∙ ap is_some (run_unanchored nfa hay (length hay) start bytes (omega arith) inside)
      ∙ is_some-option_map (λ (m : Match). m.trace) (first_match nfa hay (length hay) start (length hay))

  at_boundary : (i : ℕ) → is_boundary hay i ≡ true → text_match_at nfa hay i ≡ run nfa hay (length hay) nfa.start i
  at_boundary i here = cond-true _ _ None here

  -- where bytes hold no match, a text holds none
  pub none_in_text : is_some (first_match nfa hay (length hay) 0 (length hay)) ≡ false → is_some (first_in_text nfa hay) ≡ false
  none_in_text none = ⊎_elim
      (λ (gone : first_match nfa hay (length hay) 0 (length hay) ≡ None).
      ap is_some (first_between_none (text_match_at nfa hay) 0 (length hay) (λ i low high.
      let nothing = none_of_first_between _ 0 (length hay) gone i low high in
      elim (cases_Bool (is_boundary hay i)) [
        | inl t ↦ at_boundary i t ∙ nothing
        | inr f ↦ cond-false _ _ None f
      ])))
      (λ found. absurd (cc (ap is_some found.1)))
      (option_cases (first_match nfa hay (length hay) 0 (length hay)))

  -- each place of an ASCII text is one between characters
  pub ascii_in_text : IsAscii hay → first_match nfa hay (length hay) 0 (length hay) ≡ first_in_text nfa hay
  ascii_in_text ascii = first_between_cong _ _ 0 (length hay) (λ i low high.
      sym (at_boundary i (test_of_IsCharBoundary hay i (high, λ inside lead. absurd (omega (arith, ascii i))))))

  -- what an anchored search finds between characters
  pub at_place : (i : ℕ) → IsCharBoundary hay i
      → is_some (first_match nfa hay (length hay) i i) ≡ is_some (text_match_at nfa hay i)
  at_place i here =
      sym (only_here (run nfa hay (length hay) nfa.start) i)
      ∙ sym (ap is_some (at_boundary i (test_of_IsCharBoundary hay i here)))

  -- inside a character a text has no match
  pub inside_character : (i : ℕ) → i ≤ length hay → ¬ (IsCharBoundary hay i) → is_some (text_match_at nfa hay i) ≡ false
  inside_character i inside not_here = elim (cases_Bool (is_boundary hay i)) [
    | inl t ↦ absurd (not_here (IsCharBoundary-of_test hay i inside t))
    | inr f ↦ ap is_some (cond-false _ _ None f)
  ]

  -- a match at one place is a match in the text
  pub some_in_text : (i : ℕ) → i ≤ length hay → is_some (text_match_at nfa hay i) ≡ true → is_some (first_in_text nfa hay) ≡ true
  some_in_text i inside some = ⊎_elim
      (λ (none : first_in_text nfa hay ≡ None).
      absurd (cc (some, ap is_some (none_of_first_between (text_match_at nfa hay) 0 (length hay) none i (omega arith) inside))))
      (λ found. ap is_some found.1)
      (option_cases (first_in_text nfa hay))

  no_value : {A : Type 0} (o : Option A) → is_some o ≡ false → o ≡ None
  no_value None none = refl
  no_value (Some x) none = absurd (cc none)

  -- without one at any place there is none
  pub none_at_places : ((i : ℕ) → i ≤ length hay → is_some (text_match_at nfa hay i) ≡ false) → is_some (first_in_text nfa hay) ≡ false
  none_at_places none = ap is_some (first_between_none (text_match_at nfa hay) 0 (length hay) (λ i low high. no_value _ (none i high)))

  none_later : StartsAtStart nfa → (i : ℕ) → 0 < i → i ≤ length hay → text_match_at nfa hay i ≡ None
  none_later starts i late inside = elim (cases_Bool (is_boundary hay i)) [
    | inl t ↦ at_boundary i t ∙ no_value _ (starts hay i late inside)
    | inr f ↦ cond-false _ _ None f
  ]

  -- where none starts later, the start alone says whether there is one
  pub found_at_start : StartsAtStart nfa → is_some (first_in_text nfa hay) ≡ is_some (text_match_at nfa hay 0)
  found_at_start starts = ⊎_elim
      (λ (none : text_match_at nfa hay 0 ≡ None).
      ap is_some (first_between_none (text_match_at nfa hay) 0 (length hay) (λ i low high. elim (cases_lt 0 i) [
        | inl late ↦ none_later starts i late high
        | inr not_late ↦ let same : 0 ≡ i = omega arith in subst (λ x. text_match_at nfa hay x ≡ None) same none
      ]))
      ∙ sym (ap is_some none))
      (λ found. ap is_some (first_between_here (text_match_at nfa hay) 0 (length hay) found.0 (omega arith) found.1)
      ∙ sym (ap is_some found.1))
      (option_cases (text_match_at nfa hay 0))

-- the NFA of an anchored pattern has no match that starts later than the text
pub anchored_starts : (nfa : Nfa) (hir : Hir) → Implements nfa (meaning hir) → IsAnchored true (meaning hir) → StartsAtStart nfa
anchored_starts nfa hir implements anchored hay i late inside =
    ap is_some (implements hay i ∙ none_of_no_value _ (λ (t : Trace) here.
    let found = attempt_sound hay (meaning hir) accept i t here in
    let zero : i ≡ 0 = anchored.at hay i found.at inside found.leads in omega arith))

-- the NFA of what the grammar reads in a text serves for it
pub implements_serves : (nfa : Nfa) (text : List ℕ) (hir : Hir) (names : Names) → Reads default_config text hir names
    → Implements nfa (meaning hir) → Serves nfa text
unfolding find_str
implements_serves nfa text hir names reads implements hay bytes =
    ap is_some (first_between_cong (text_match_at nfa hay)
    (λ i. if is_boundary hay i then attempt hay (meaning hir) accept i else None) 0 (length hay)
    (λ i low high. ap (λ o. if is_boundary hay i then o else None) (implements hay i)))
    ∙ reads_match text hir names reads hay bytes
