-- A probe, one text on; and its patterns have numbers below 17.
use Rattle.std.proofs.Common.{◌≡◌, ℕ, suc, ◌+◌, ◌-◌, ◌*◌, ◌<◌, ◌≤◌, Bool, true, false, eqb, List, [], ◌∷◌, ◌++◌, length, get_or, drop, map}
use Rattle.std.proofs.Common.{Option, Some, None, Result, Ok, Err, refl, sym, ap, subst, ◌∙◌, arith, length-append, length-drop}
use Rattle.std.specs.Prelude.{not, if◌then◌else◌, bytes_eq, codes, option_map}
use Rattle.std.specs.Borrow.{Bor}
use Rattle.std.specs.List.{list_all}
use Rattle.std.specs.Option.{option_or}
use Rattle.std.proofs.lemmas.Bool.Decides.{nat_tests}
use Rattle.std.proofs.lemmas.List.{drop_more, get_or-map, length-map}
use Rattle.std.proofs.lemmas.List.Folds.{list_all-append}
use Rattle.std.proofs.Math.ListN.{drop_of_length-le}
use Rattle.probe_lang.specs.Values.{is_few}
use Rattle.probe_lang.specs.Words.{term_of, term_of_word, without_spaces, found_name, between}
use Rattle.probe_lang.specs.Braces.{pattern_in}
use Rattle.probe_lang.specs.Grammar.{Reading, Parsed, read_from, read_on, is_last, with_word, with_pattern, parsed, nothing_read, probe_of}
use Rattle.probe_lang.specs.Steps.{after}
use Rattle.probe_lang.specs.declared.reading.Step.{Step}
use Rattle.probe_lang.specs.declared.word.Word.{Word}
use Rattle.probe_lang.specs.declared.word.Word.TheVariants.{Always, Never, Found, And, Or, Fru}
use Rattle.probe_lang.specs.declared.term.Term.{Term}
use Rattle.probe_lang.specs.declared.term.Term.TheVariants.{Operand, Pattern, Operator, MatchOne}
use Rattle.probe_lang.specs.declared.pattern_text.Member.{Member}

-- ---- one text on

last_is : (texts : List (List ℕ)) (n : ℕ) → length texts ≡ n → is_last texts ≡ eqb n 0
last_is [] n e = rw (sym e) refl
last_is (text ∷ texts) n e = grind (arith, nat_tests)

none_left : (at size : ℕ) → at < size → eqb (size - (at + 1)) 0 ≡ eqb (at + 1) size
none_left at size below = grind (arith, nat_tests)

from_step : (wants : Bool) (at : ℕ) (reading now : Reading) (text : List ℕ) (texts : List (List ℕ)) (last : Bool) (term : Option Term) (step : Step)
    → is_last texts ≡ last → term_of text ≡ term
    → ((p : ℕ) (later : Bool → Reading → Result Parsed ℕ) → read_on wants p reading last term later ≡ after step wants p now later)
    → read_from wants at reading (text ∷ texts) ≡ after step wants at now (λ w r. read_from w (at + 1) r texts)
unfolding read_from
from_step true at reading now text texts last term step l t told = rw (l, t) (told at (λ w r. read_from w (at + 1) r texts))
from_step false at reading now text texts last term step l t told = rw (l, t) (told at (λ w r. read_from w (at + 1) r texts))

-- what the text at a position does, where it is the term
pub step_at : (wants : Bool) (at : ℕ) (reading now : Reading) (texts : List (Bor (List ℕ))) (d : Bor (List ℕ)) (last : Bool) (term : Option Term) (step : Step)
    → at < length texts → last ≡ eqb (at + 1) (length texts) → term ≡ term_of (get_or texts at d).now
    → ((p : ℕ) (later : Bool → Reading → Result Parsed ℕ) → read_on wants p reading last term later ≡ after step wants p now later)
    → read_from wants at reading (drop at (map (λ text. text.now) texts))
    ≡ after step wants at now (λ w r. read_from w (at + 1) r (drop (at + 1) (map (λ text. text.now) texts)))
step_at wants at reading now texts d last term step below l t told =
    let seen : List (List ℕ) = map (λ text. text.now) texts in
    let text = (get_or texts at d).now in
    let size : length seen ≡ length texts = length-map texts (λ text. text.now) in
    let first : drop at seen ≡ text ∷ drop (at + 1) seen =
    drop_more seen at [] (omega (arith, size)) ∙ ap (λ (x : List ℕ). x ∷ drop (at + 1) seen) (get_or-map (λ text. text.now) texts at d [] below) in
    let left : length (drop (at + 1) seen) ≡ length texts - (at + 1) = omega (arith, size, length-drop (at + 1) seen) in
    let ends : is_last (drop (at + 1) seen) ≡ last = last_is (drop (at + 1) seen) _ left ∙ none_left at (length texts) below ∙ sym l in
    ap (read_from wants at reading) first ∙ from_step wants at reading now text (drop (at + 1) seen) last term step ends (sym t) told

none_behind : (at : ℕ) (texts : List (Bor (List ℕ))) → length texts ≤ at → drop at (map (λ text. text.now) texts) ≡ []
none_behind at texts past = drop_of_length-le (map (λ text. text.now) texts) (omega (arith, past, length-map texts (λ text. text.now)))

-- at the end an operand is wanted, or the probe is read
pub wants_at_end : (at : ℕ) (reading : Reading) (texts : List (Bor (List ℕ))) → length texts ≤ at
    → read_from true at reading (drop at (map (λ text. text.now) texts)) ≡ Err at
unfolding read_from
wants_at_end at reading texts past = ap (read_from true at reading) (none_behind at texts past)

pub read_at_end : (at : ℕ) (reading : Reading) (texts : List (Bor (List ℕ))) → length texts ≤ at
    → read_from false at reading (drop at (map (λ text. text.now) texts)) ≡ Ok (parsed reading false)
unfolding read_from
read_at_end at reading texts past = ap (read_from false at reading) (none_behind at texts past)

-- ---- the numbers of the patterns

pub counted_on : (wants : Bool) (at old new : ℕ) → 2 * old + (if wants then 1 else 0) ≤ at + 1 → new ≤ old + (if wants then 1 else 0)
    → 2 * new + (if not wants then 1 else 0) ≤ at + 1 + 1
counted_on true at old new counted more = omega arith
counted_on false at old new counted more = omega arith

abbrev few_term : Option Term → Bool
few_term None = true
few_term (Some (Operand word)) = is_few word
few_term (Some (Pattern members)) = true
few_term (Some (Operator word)) = is_few word
few_term (Some MatchOne) = true

-- no text is the pattern of a number
term_is_few : (text : List ℕ) → few_term (term_of text) ≡ true
unfolding term_of_word
term_is_few text =
    let word = without_spaces text in
    by (bytes_eq word (codes "TRUE")) (bytes_eq word (codes "FALSE")) (bytes_eq word (codes "AND")) (bytes_eq word (codes "OR"))
    (bytes_eq word (codes "MATCH_ONE"))
    (found_name word) (pattern_in (between (codes "xyz.openbmc_project.FruDevice({") (codes "})") word))
  where
    by : (t f a o m : Bool) (name : Option (List ℕ)) (members : Option (List Member))
        → few_term (if t then Some (Operand Always) else if f then Some (Operand Never) else if a then Some (Operator And) else if o then Some (Operator Or)
        else if m then Some MatchOne else option_or (option_map (λ name. Operand (Found name)) name) (option_map Pattern members)) ≡ true
    by true f a o m name members = refl
    by false true a o m name members = refl
    by false false true o m name members = refl
    by false false false true m name members = refl
    by false false false false true name members = refl
    by false false false false false (Some name) members = refl
    by false false false false false None (Some members) = refl
    by false false false false false None None = refl

one_more : (words : List Word) (word : Word) → list_all is_few words ≡ true → is_few word ≡ true → list_all is_few (words ++ word ∷ []) ≡ true
one_more words word few one = list_all-append is_few words (word ∷ []) ∙ rw (few, one) refl

step_is_few : (wants : Bool) (at left : ℕ) (reading : Reading) (last : Bool) (term : Option Term) (p : Parsed) (later : Bool → Reading → Result Parsed ℕ)
    → ((w : Bool) (r : Reading) → later w r ≡ Ok p → list_all is_few r.words ≡ true
    → 2 * length r.patterns + (if w then 1 else 0) ≤ at + 1 + 1 → list_all is_few p.0.words ≡ true)
    → few_term term ≡ true → read_on wants at reading last term later ≡ Ok p → list_all is_few reading.words ≡ true
    → 2 * length reading.patterns + (if wants then 1 else 0) ≤ at + 1 → at + suc left ≤ 33 → list_all is_few p.0.words ≡ true
step_is_few true at left reading last (Some (Operand word)) p later next one read few counted size =
    next false (with_word reading word) read (one_more reading.words word few one) (omega arith)
step_is_few true at left reading last (Some (Pattern members)) p later next one read few counted size =
    let number : is_few (Fru (length reading.patterns)) ≡ true = grind (arith, nat_tests) in
    let more : length (reading.patterns ++ members ∷ []) ≡ length reading.patterns + 1 = length-append reading.patterns (members ∷ []) in
    next false (with_pattern reading members) read (one_more reading.words (Fru (length reading.patterns)) few number) (omega (arith, more))
step_is_few true at left reading last (Some (Operator word)) p later next one read few counted size = absurd (cc)
step_is_few true at left reading last (Some MatchOne) p later next one read few counted size = absurd (cc)
step_is_few true at left reading last None p later next one read few counted size = absurd (cc)
step_is_few false at left reading last (Some (Operator word)) p later next one read few counted size =
    next true (with_word reading word) read (one_more reading.words word few one) (omega arith)
step_is_few false at left reading true (Some MatchOne) p later next one read few counted size =
    let same : parsed reading true ≡ p = cc in
    subst (λ (q : Parsed). list_all is_few q.0.words ≡ true) same few
step_is_few false at left reading false (Some MatchOne) p later next one read few counted size = absurd (cc)
step_is_few false at left reading last (Some (Operand word)) p later next one read few counted size = absurd (cc)
step_is_few false at left reading last (Some (Pattern members)) p later next one read few counted size = absurd (cc)
step_is_few false at left reading last None p later next one read few counted size = absurd (cc)

-- the words of a probe that is read, where those so far have few patterns
words_are_few : (texts : List (List ℕ)) (wants : Bool) (at : ℕ) (reading : Reading) (p : Parsed) → read_from wants at reading texts ≡ Ok p
    → list_all is_few reading.words ≡ true → 2 * length reading.patterns + (if wants then 1 else 0) ≤ at + 1 → at + length texts ≤ 33
    → list_all is_few p.0.words ≡ true
unfolding read_from
words_are_few [] true at reading p read few counted size = absurd (cc)
words_are_few [] false at reading p read few counted size =
    let same : parsed reading false ≡ p = cc in
    subst (λ (q : Parsed). list_all is_few q.0.words ≡ true) same few
words_are_few (text ∷ texts) true at reading p read few counted size =
    step_is_few true at (length texts) reading (is_last texts) (term_of text) p (λ w r. read_from w (at + 1) r texts)
    (λ w r later so_far counted. words_are_few texts w (at + 1) r p later so_far counted (omega arith)) (term_is_few text) read few counted size
words_are_few (text ∷ texts) false at reading p read few counted size =
    step_is_few false at (length texts) reading (is_last texts) (term_of text) p (λ w r. read_from w (at + 1) r texts)
    (λ w r later so_far counted. words_are_few texts w (at + 1) r p later so_far counted (omega arith)) (term_is_few text) read few counted size

pub probe_is_few : (texts : List (Bor (List ℕ))) (p : Parsed) → length texts ≤ 33 → probe_of (map (λ text. text.now) texts) ≡ Ok p
    → list_all is_few p.0.words ≡ true
probe_is_few texts p size read =
    words_are_few (map (λ text. text.now) texts) true 0 nothing_read p read refl (omega arith) (omega (arith, size, length-map texts (λ text. text.now)))
