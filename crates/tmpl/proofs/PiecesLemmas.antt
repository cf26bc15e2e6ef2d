-- Pieces, one stretch on.
use Rattle.std.proofs.Common.{◌≡◌, ℕ, suc, ◌+◌, ◌-◌, ◌<◌, ◌≤◌, Bool, true, false, List, [], ◌∷◌, ◌++◌, length, drop, take, get_or, map}
use Rattle.std.proofs.Common.{Option, Some, None}
use Rattle.std.proofs.Common.{refl, ap, sym, ◌∙◌, arith, cond, length-drop, length-take-le}
use Rattle.std.specs.Prelude.{◌&&◌, ◌==◌, nat_lt, nat_le, if◌then◌else◌, Ok, Err, slice_index, not, position, unwrap_or, IsUtf8, IsCharBoundary}
use Rattle.std.specs.List.{list_all, list_any, position_or_len, prefix_len}
use Rattle.std.proofs.lemmas.Bool.{le-leb}
use Rattle.std.proofs.lemmas.Bool.Decides.{nat_tests}
use Rattle.std.proofs.lemmas.List.{drop-drop, get_or-drop, length-map, length-take}
use Rattle.std.proofs.lemmas.List.Folds.{length-prefix_len}
use Rattle.std.proofs.lemmas.List.Sums.{prefix_len-le-length, prefix_len_passes, prefix_len_stops}
use Rattle.std.proofs.lemmas.Str.{IsCharBoundary-before_ascii, IsCharBoundary-after_ascii, IsCharBoundary-end}
use Rattle.tmpl.specs.Chains.{chain_behind}
use Rattle.tmpl.specs.Operations.{operations_of, operations_len, divides_by_zero}
use Rattle.tmpl.specs.Words.{starts_word, is_word_byte, word_of}
use Rattle.tmpl.specs.declared.operation.Operation.{Operation}
use Rattle.tmpl.specs.declared.template.TmplFault.TheVariants.{TemplateSyntax}
use Rattle.tmpl.specs.declared.word.Word.{Word}
use Rattle.tmpl.specs.Templates.{Piece, Plain, Substitution, begins_substitution, first_word, is_dollar, piece_at, pieces_of}
use Rattle.tmpl.specs.Templates.{is_plain, is_right, is_template, template_of, longest_template, is_single, is_one_substitution, asks_index}
use Rattle.tmpl.specs.Stretches.{EndsText}
use Rattle.tmpl.proofs.ChainsLemmas.{chain_found}

abbrev piece_of : Piece × ℕ → Piece
piece_of link = link.0

pub no_pieces : pieces_of [] ≡ []
unfolding pieces_of chain_behind
no_pieces = refl

-- a byte of plain text
plain_next : (byte : ℕ) (text : List ℕ) → begins_substitution (byte ∷ text) ≡ false → pieces_of (byte ∷ text) ≡ Plain byte ∷ pieces_of text
unfolding pieces_of piece_at
plain_next byte text none = ap (map piece_of) (chain_found piece_at (byte ∷ text) (Plain byte) 1 (rw none refl) (omega arith) (omega arith))

-- plain text up to the next dollar
plain_run : (text : List ℕ)
    → pieces_of text ≡ map Plain (take (position_or_len is_dollar text) text) ++ pieces_of (drop (position_or_len is_dollar text) text)
plain_run [] = refl
plain_run (byte ∷ text) = by (is_dollar byte) refl (plain_run text)
  where
    by : (dollar : Bool) → is_dollar byte ≡ dollar
        → pieces_of text ≡ map Plain (take (position_or_len is_dollar text) text) ++ pieces_of (drop (position_or_len is_dollar text) text)
        → pieces_of (byte ∷ text) ≡ map Plain (take (cond (not dollar) (1 + position_or_len is_dollar text) 0) (byte ∷ text))
        ++ pieces_of (drop (cond (not dollar) (1 + position_or_len is_dollar text) 0) (byte ∷ text))
    by true e later = refl
    by false e later =
        let size : 1 + position_or_len is_dollar text ≡ suc (position_or_len is_dollar text) = omega arith in
        rw size (plain_next byte text (rw e refl) ∙ ap (λ (pieces : List Piece). Plain byte ∷ pieces) later)

-- plain text, over its first byte and up to the next dollar
pub plain_is : (text : List ℕ) → 0 < length text → begins_substitution text ≡ false
    → pieces_of text ≡ map Plain (take (1 + position_or_len is_dollar (drop 1 text)) text)
    ++ pieces_of (drop (1 + position_or_len is_dollar (drop 1 text)) text)
plain_is [] some none = absurd (omega arith)
plain_is (byte ∷ text) some none =
    let size : 1 + position_or_len is_dollar text ≡ suc (position_or_len is_dollar text) = omega arith in
    rw size (plain_next byte text none ∙ ap (λ (pieces : List Piece). Plain byte ∷ pieces) (plain_run text))

-- a substitution, and what stands behind it
pub substitution_is : (text marked behind rest : List ℕ) (size : ℕ) → text ≡ 36 ∷ marked → starts_word (slice_index marked 0) ≡ true
    → behind ≡ drop (length (first_word marked)) marked → length behind + length (first_word marked) ≡ length marked
    → size ≡ operations_len behind → size ≤ length behind → rest ≡ drop size behind
    → pieces_of text ≡ Substitution (word_of (first_word marked)) (operations_of behind) ∷ pieces_of rest
unfolding pieces_of piece_at
substitution_is text marked behind rest size is word behind_is whole size_is within rest_is =
    let ops : operations_len (drop (length (first_word marked)) marked) ≡ size = ap operations_len (sym behind_is) ∙ sym size_is in
    let n = 1 + length (first_word marked) + operations_len (drop (length (first_word marked)) marked) in
    let found = chain_found piece_at (36 ∷ marked) (Substitution (word_of (first_word marked)) (operations_of (drop (length (first_word marked)) marked))) n
    (rw word refl) (omega arith) (omega (arith, ops, whole)) in
    let count : n ≡ suc (length (first_word marked) + size) = omega (arith, ops) in
    let left : drop n (36 ∷ marked) ≡ rest =
    ap (λ (k : ℕ). drop k (36 ∷ marked)) count ∙ sym (drop-drop size (length (first_word marked)) marked) ∙ ap (drop size) (sym behind_is) ∙ sym rest_is in
    ap pieces_of is ∙ ap (map piece_of) found
    ∙ ap (λ (xs : List ℕ). Substitution (word_of (first_word marked)) (operations_of (drop (length (first_word marked)) marked)) ∷ pieces_of xs) left
    ∙ ap (λ (xs : List ℕ). Substitution (word_of (first_word marked)) (operations_of xs) ∷ pieces_of rest) (sym behind_is)

-- a text that begins with a substitution is not plain
pub not_plain : (byte : ℕ) (text : List ℕ) → begins_substitution (byte ∷ text) ≡ true → list_all is_plain (pieces_of (byte ∷ text)) ≡ false
unfolding pieces_of chain_behind piece_at
not_plain byte text begins = rw begins refl

pub plain_first : (byte : ℕ) (text : List ℕ) → begins_substitution (byte ∷ text) ≡ false → pieces_of (byte ∷ text) ≡ Plain byte ∷ pieces_of text
plain_first = plain_next

-- of plain text all is right, all is plain, and nothing asks for the index
pub plain_right : (text : List ℕ) → list_all is_right (map Plain text) ≡ true
plain_right [] = refl
plain_right (byte ∷ text) = plain_right text

pub plain_plain : (text : List ℕ) → list_all is_plain (map Plain text) ≡ true
plain_plain [] = refl
plain_plain (byte ∷ text) = plain_plain text

pub plain_asks_none : (text : List ℕ) → list_any asks_index (map Plain text) ≡ false
plain_asks_none [] = refl
plain_asks_none (byte ∷ text) = plain_asks_none text

-- what is plain is right
pub plain_is_right : (pieces : List Piece) → list_all is_plain pieces ≡ true → list_all is_right pieces ≡ true
plain_is_right [] plain = refl
plain_is_right (Plain byte ∷ pieces) plain = plain_is_right pieces plain
plain_is_right (Substitution word operations ∷ pieces) plain = absurd (cc)

pub right_alone : (word : Word) (operations : List Operation) → list_all (λ operation. not (divides_by_zero operation)) operations
    ≡ list_all is_right (Substitution (Some word) operations ∷ [])
right_alone word operations = by (list_all (λ operation. not (divides_by_zero operation)) operations)
  where
    by : (b : Bool) → b ≡ (b && true)
    by true = refl
    by false = refl

-- ---- plain text

pub dollar_found : (text : List ℕ) (at : ℕ) → Some at ≡ position is_dollar text → at ≡ position_or_len is_dollar text
dollar_found text at e = by (nat_lt (position_or_len is_dollar text) (length text)) e
  where
    by : (b : Bool) → Some at ≡ cond b (Some (position_or_len is_dollar text)) None → at ≡ position_or_len is_dollar text
    by true e = ap (λ (o : Option ℕ). unwrap_or o 0) e
    by false e = absurd (cc)

pub dollar_missing : (text : List ℕ) → None ≡ position is_dollar text → position_or_len is_dollar text ≡ length text
dollar_missing text e = by (nat_lt (position_or_len is_dollar text) (length text)) refl e
  where
    by : (b : Bool) → nat_lt (position_or_len is_dollar text) (length text) ≡ b → None ≡ cond b (Some (position_or_len is_dollar text)) None
        → position_or_len is_dollar text ≡ length text
    by true below e = absurd (cc)
    by false below e = grind (arith, nat_tests, below, prefix_len-le-length (λ byte. not (is_dollar byte)) text)

-- a text may be cut in front of a dollar
pub plain_cut : (text : List ℕ) (n : ℕ) → n ≡ 1 + position_or_len is_dollar (drop 1 text) → n ≤ length text → IsCharBoundary text n
plain_cut text n is within = by (nat_lt n (length text)) refl
  where
    by : (b : Bool) → nat_lt n (length text) ≡ b → IsCharBoundary text n
    by true below =
        let less : n < length text = grind (arith, nat_tests, below) in
        let p = position_or_len is_dollar (drop 1 text) in
        let inside : p < length (drop 1 text) = omega (arith, length-drop 1 text) in
        let stops = prefix_len_stops (λ byte. not (is_dollar byte)) (drop 1 text) 0 inside in
        let there : get_or (drop 1 text) p 0 ≡ get_or text n 0 = get_or-drop 1 text p 0 ∙ ap (λ (i : ℕ). get_or text i 0) (sym is) in
        let dollar : get_or (drop 1 text) p 0 ≡ 36 = grind (arith, nat_tests, stops) in
        IsCharBoundary-before_ascii text n less (omega (arith, there, dollar))
    by false below =
        let end : n ≡ length text = grind (arith, nat_tests, below) in
        rw end (IsCharBoundary-end text)

pub plain_stretch : (text plain rest : List ℕ) (n : ℕ) → 0 < length text → begins_substitution text ≡ false
    → n ≡ 1 + position_or_len is_dollar (drop 1 text) → plain ≡ take n text → rest ≡ drop n text → length rest < length text
    → n ≤ length text
    → (pieces_of text ≡ map Plain plain ++ pieces_of rest) × (0 < length (map Plain plain)) × (length rest < length text)
    × ((plain ≡ take (length plain) text) × (length plain ≤ length text) × (rest ≡ drop (length plain) text))
plain_stretch text plain rest n some none is plain_is_taken rest_is shorter within =
    let run = length-map plain (λ (byte : ℕ). Plain byte) in
    let size : length plain ≡ n = ap length plain_is_taken ∙ length-take-le n text within in (
      rw (plain_is_taken, rest_is, is) (plain_is text some none),
      omega (arith, run, ap length plain_is_taken, length-take n text, ap length rest_is, length-drop n text),
      shorter,
      (rw size plain_is_taken, omega (arith, size), rw size rest_is),
    )

-- ---- substitutions

pub no_dollar : (text : List ℕ) → ((rest : List ℕ) → text ≡ 36 ∷ rest → ⊥) → begins_substitution text ≡ false
no_dollar [] lacks = refl
no_dollar (byte ∷ text) lacks = by (is_dollar byte) refl
  where
    by : (b : Bool) → is_dollar byte ≡ b → (b && starts_word (slice_index (byte ∷ text) 1)) ≡ false
    by true e = absurd (lacks text (ap (λ (x : ℕ). x ∷ text) (grind (arith, nat_tests, e))))
    by false e = refl

pub no_word : (text marked : List ℕ) → text ≡ 36 ∷ marked → starts_word (slice_index marked 0) ≡ false → begins_substitution text ≡ false
no_word text marked is none = rw (is, none) refl

word_byte : (byte : ℕ) → is_word_byte byte ≡ true → byte < 128
word_byte byte is = grind (arith, nat_tests, is)

-- a text may be cut behind a word
pub word_cut : (marked : List ℕ) → IsUtf8 marked → starts_word (slice_index marked 0) ≡ true → IsCharBoundary marked (length (first_word marked))
word_cut marked utf8 starts =
    let p = prefix_len is_word_byte marked in
    let size : length (first_word marked) ≡ p = length-prefix_len is_word_byte marked in
    let some : 0 < p = some_word marked starts in
    let last = word_byte (get_or marked (p - 1) 0) (prefix_len_passes is_word_byte marked (p - 1) 0 (omega arith)) in
    let at : p ≡ (p - 1) + 1 = omega arith in
    rw (size, at) (IsCharBoundary-after_ascii marked (p - 1) utf8 (omega (arith, prefix_len-le-length is_word_byte marked)) last)
  where
    some_word : (marked : List ℕ) → starts_word (slice_index marked 0) ≡ true → 0 < prefix_len is_word_byte marked
    some_word [] starts = absurd (cc)
    some_word (byte ∷ marked) starts =
        let word : is_word_byte byte ≡ true = rw starts refl in
        rw word (omega arith)

pub substitution_at : (text marked word behind rest : List ℕ) (read : Option Word) (length_is size : ℕ) → text ≡ 36 ∷ marked
    → starts_word (slice_index marked 0) ≡ true → length_is ≡ length (first_word marked) → word ≡ take length_is marked → behind ≡ drop length_is marked
    → length behind + length_is ≡ length marked → size ≡ operations_len behind → size ≤ length behind → rest ≡ drop size behind
    → length rest + size ≡ length behind → read ≡ word_of word
    → (pieces_of text ≡ Substitution read (operations_of behind) ∷ pieces_of rest)
    × (0 < length (Substitution read (operations_of behind) ∷ [])) × (length rest < length text) × (EndsText text behind × EndsText text rest)
substitution_at text marked word behind rest read length_is size is starts length_eq word_is behind_is whole size_is within rest_is left read_is =
    let first : take length_is marked ≡ first_word marked =
    ap (λ (n : ℕ). take n marked) (length_eq ∙ length-prefix_len is_word_byte marked) in
    let known : read ≡ word_of (first_word marked) = read_is ∙ ap word_of (word_is ∙ first) in
    let split = substitution_is text marked behind rest size is starts (rw length_eq at behind_is) (omega (arith, whole, length_eq)) size_is within rest_is in
    let front : behind ≡ drop (suc length_is) text = behind_is ∙ sym (ap (drop (suc length_is)) is) in
    let back : rest ≡ drop (suc length_is + size) text =
    rest_is ∙ ap (drop size) front ∙ drop-drop size (suc length_is) text in (
      rw known split,
      omega arith,
      omega (arith, left, whole, ap length is),
      ((suc length_is, omega (arith, whole, ap length is), front), (suc length_is + size, omega (arith, within, whole, ap length is), back)),
    )

-- ---- the end, and one stretch alone

pub empty_is : (text : List ℕ) → length text ≡ 0 → text ≡ []
empty_is [] empty = refl
empty_is (byte ∷ text) empty = absurd (omega (arith, empty))

pub end_pieces : (text : List ℕ) → text ≡ [] → pieces_of text ≡ []
end_pieces text end = ap pieces_of end ∙ no_pieces

pub single_end : (text : List ℕ) → text ≡ [] → is_single text ≡ false
unfolding is_single
single_end text end = ap is_one_substitution (end_pieces text end)

pub single_plain : (text run rest : List ℕ) → pieces_of text ≡ map Plain run ++ pieces_of rest → 0 < length (map Plain run) → is_single text ≡ false
unfolding is_single
single_plain text [] rest split some = absurd (omega arith)
single_plain text (byte ∷ run) rest split some = ap is_one_substitution split

pub single_substitution : (text rest : List ℕ) (word : Option Word) (operations : List Operation)
    → pieces_of text ≡ Substitution word operations ∷ pieces_of rest
    → is_single text ≡ (length rest == 0)
unfolding is_single pieces_of chain_behind piece_at
single_substitution text [] word operations split = ap is_one_substitution split
single_substitution text (byte ∷ rest) word operations split = ap is_one_substitution split ∙ grind arith

-- ---- what is a template

pub empty_not : (text : List ℕ) → length text ≡ 0 → template_of text ≡ Err TemplateSyntax
unfolding is_template
empty_not text empty = rw empty refl

pub wrong_not : (text : List ℕ) → list_all is_right (pieces_of text) ≡ false → template_of text ≡ Err TemplateSyntax
unfolding is_template
wrong_not text wrong = by (nat_le 1 (length text)) (nat_le (length text) longest_template) (list_all is_right (pieces_of text)) wrong
  where
    by : (a b d : Bool) → d ≡ false → (if a && b && d then Ok text else Err TemplateSyntax) ≡ Err TemplateSyntax
    by true true true e = absurd (cc)
    by true true false e = refl
    by true false d e = refl
    by false b d e = refl

pub long_not : (text : List ℕ) → longest_template < length text → template_of text ≡ Err TemplateSyntax
unfolding is_template
long_not text long = by (nat_le 1 (length text)) (nat_le (length text) longest_template) (list_all is_right (pieces_of text)) (grind (arith, nat_tests))
  where
    by : (a b d : Bool) → b ≡ false → (if a && b && d then Ok text else Err TemplateSyntax) ≡ Err TemplateSyntax
    by true true d e = absurd (cc)
    by true false d e = refl
    by false b d e = refl

pub right_is : (text : List ℕ) → 0 < length text → length text ≤ longest_template → list_all is_right (pieces_of text) ≡ true → is_template text ≡ true
unfolding is_template
right_is text some few right = rw (le-leb 1 (length text) (omega arith), le-leb (length text) longest_template few, right) refl

pub right_read : (text held : List ℕ) → is_template text ≡ true → held ≡ text → template_of text ≡ Ok held
right_read text held right is = rw right (ap Ok (sym is))
