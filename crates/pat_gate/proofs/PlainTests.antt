-- What the tests of texts say of a plain pattern.
use Rattle.std.proofs.Common.{◌≡◌, ℕ, ◌-◌, List, [], ◌++◌, length, take, drop, Bool, true, false, None, refl, sym, ap, ◌∙◌, ◌↔◌, append-nil, nat_eq, true≢false}
use Rattle.std.proofs.lemmas.Bool.Decides.{Decides-eqb}
use Rattle.std.proofs.lemmas.Slice.Eq.{starts_is, ends_is, slice_eq-Decides}
use Rattle.std.proofs.lemmas.Str.Pattern.{contains_text, starts_text, ends_text}
use Rattle.std.specs.Bool.{MatchBool}
use Rattle.std.specs.Cmp.Lexicographic.{pointwise}
use Rattle.std.specs.Str.Pattern.{HasMatch, FindsText, HasPrefixMatch, FindsTextPrefix, HasSuffixMatch, FindsTextSuffix}
use Rattle.pat_gate.specs.Grammar.{has_match}
use Rattle.pat_gate.specs.Plain.{Plain, IsPlain, StandsIn, written}
use Rattle.pat_gate.proofs.PlainMatching.{match_stands}

same_test : (P : Type 0) (a b : Bool) → (a ≡ true) ↔ P → (b ≡ true) ↔ P → a ≡ b
same_test P true b a_is b_is = sym (b_is.1 (a_is.0 refl))
same_test P false true a_is b_is = a_is.1 (b_is.0 refl)
same_test P false false a_is b_is = refl

-- an end that is free needs nothing
free : {P : Type 0} (tied : Bool) → tied ≡ false → tied ≡ true → P
free tied is_free is_tied = absurd (true≢false (sym is_tied ∙ is_free))

module _ (plain : Plain) (hay : List ℕ) (is : IsPlain plain) (found : Bool) where
  -- found says whether the pattern has a match
  abbrev Tells : Type 0
  Tells = found ≡ has_match (written plain) hay

  tells : (found ≡ true) ↔ StandsIn plain hay → Tells
  tells found_is = same_test (StandsIn plain hay) found (has_match (written plain) hay) found_is (match_stands plain hay is)

  -- the parts where the text is at the start, or at the end
  behind_start : (s : StandsIn plain hay) → plain.at_start ≡ true → hay ≡ plain.text ++ s.behind
  behind_start s at_start = s.parts ∙ ap (λ (before : List ℕ). before ++ (plain.text ++ s.behind)) (s.at_start at_start)

  before_end : (s : StandsIn plain hay) → plain.at_end ≡ true → hay ≡ s.before ++ plain.text
  before_end s at_end =
      s.parts ∙ ap (λ (behind : List ℕ). s.before ++ (plain.text ++ behind)) (s.at_end at_end)
      ∙ ap (λ (text : List ℕ). s.before ++ text) (append-nil plain.text)

  pub contains_tells : plain.at_start ≡ false → plain.at_end ≡ false
      → MatchBool found (HasMatch (FindsText plain.text) hay) (FindsText plain.text hay None) → Tells
  contains_tells free_start free_end cases =
      let inside = contains_text found plain.text hay cases in
      tells (
        λ yes. let (before, behind, parts) = inside.0 yes in
            record { before = before; behind = behind; parts = parts; at_start = free plain.at_start free_start; at_end = free plain.at_end free_end },
        λ s. inside.1 (s.before, s.behind, s.parts),
      )

  pub starts_with_tells : plain.at_start ≡ true → plain.at_end ≡ false
      → MatchBool found (HasPrefixMatch (FindsTextPrefix plain.text) hay) (FindsTextPrefix plain.text hay None) → Tells
  starts_with_tells at_start free_end cases =
      let front = starts_is Decides-eqb hay plain.text found (starts_text found plain.text hay cases) in
      tells (
        λ yes. record {
          before = [];
          behind = drop (length plain.text) hay;
          parts = front.0 yes;
          at_start = λ _. refl;
          at_end = free plain.at_end free_end;
        },
        λ s. front.1 s.behind (behind_start s at_start),
      )

  pub ends_with_tells : plain.at_start ≡ false → plain.at_end ≡ true
      → MatchBool found (HasSuffixMatch (FindsTextSuffix plain.text) hay) (FindsTextSuffix plain.text hay None) → Tells
  ends_with_tells free_start at_end cases =
      let back = ends_is Decides-eqb hay plain.text found (ends_text found plain.text hay cases) in
      let before = take (length hay - length plain.text) hay in
      tells (
        λ yes. record {
          before = before;
          behind = [];
          parts = back.0 yes ∙ ap (λ (rest : List ℕ). before ++ rest) (sym (append-nil plain.text));
          at_start = free plain.at_start free_start;
          at_end = λ _. refl;
        },
        λ s. back.1 s.before (before_end s at_end),
      )

  pub equal_tells : plain.at_start ≡ true → plain.at_end ≡ true → found ≡ pointwise nat_eq hay plain.text → Tells
  equal_tells at_start at_end equal =
      let same = slice_eq-Decides Decides-eqb hay plain.text found equal in
      tells (
        λ yes. record { before = []; behind = []; parts = same.0 yes ∙ sym (append-nil plain.text); at_start = λ _. refl; at_end = λ _. refl },
        λ s. same.1 (before_end s at_end ∙ ap (λ (before : List ℕ). before ++ plain.text) (s.at_start at_start)),
      )
