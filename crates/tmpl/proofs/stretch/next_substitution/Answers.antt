-- A dollar, a word and operations.
use Rattle.std.proofs.Common.{◌≡◌, ℕ, List, true, length, sym, ap, ◌∙◌, arith, None, Some}
use Rattle.std.specs.Prelude.{slice_index}
use Rattle.std.proofs.lemmas.Str.{IsCharBoundary-from_drop}
use Rattle.std.proofs.lemmas.Str.Pattern.{strip_prefix_char}
use Rattle.tmpl.specs.Operations.{operations_len}
use Rattle.tmpl.specs.Words.{starts_word}
use Rattle.tmpl.specs.Templates.{first_word}
use Rattle.tmpl.proofs.PiecesLemmas.{no_dollar, no_word, word_cut, substitution_at}
use Rattle.tmpl.proofs.stretch.next_substitution.Goals as goal

pub returns-in_err-marked : goal.returns-in_err-marked
returns-in_err-marked c =
    rw c.from_residual.ensures (no_dollar c.args.text.now (strip_prefix_char 36 c.args.text.now None c.in_err-marked.ensures.cases (omega arith)))

pub returns-then-not-begins_word : goal.returns-then-not-begins_word
returns-then-not-begins_word c =
    let marked = c.in_ok-marked.marked in
    let is = strip_prefix_char 36 c.args.text.now (Some marked) c.in_ok-marked.ensures.cases (omega arith) in
    no_word c.args.text.now marked.now is
    (ap (λ (xs : List ℕ). starts_word (slice_index xs 0)) (sym c.as_bytes.ensures.value) ∙ sym c.if-not-begins_word.ensures)

pub split_at-requires : goal.split_at-requires
split_at-requires c =
    let marked = c.in_ok-marked.marked.now in
    let word : starts_word (slice_index marked 0) ≡ true =
    ap (λ (xs : List ℕ). starts_word (slice_index xs 0)) (sym c.as_bytes.ensures.value) ∙ sym c.if-not-begins_word.ensures in
    let size : c.word_len.result ≡ length (first_word marked) =
    c.word_len.ensures ∙ ap (λ (xs : List ℕ). length (first_word xs)) c.as_bytes-2.ensures.value in
    rw size (word_cut marked (rw c.as_bytes.ensures.value at c.as_bytes.ensures.utf8) word)

pub split_at-requires-2 : goal.split_at-requires-2
split_at-requires-2 c =
    let same = c.as_bytes-3.ensures.value in
    IsCharBoundary-from_drop c.split_at.result.1.now c.operations_len.result (rw same at c.operations_len.ensures.within)
    (rw same at (c.operations_len.ensures.cut c.as_bytes-3.ensures.utf8))

pub returns : goal.returns
returns c =
    let marked = c.in_ok-marked.marked in
    let is = strip_prefix_char 36 c.args.text.now (Some marked) c.in_ok-marked.ensures.cases (omega arith) in
    let word : starts_word (slice_index marked.now 0) ≡ true =
    ap (λ (xs : List ℕ). starts_word (slice_index xs 0)) (sym c.as_bytes.ensures.value) ∙ sym c.if-not-begins_word.ensures in
    let size : c.word_len.result ≡ length (first_word marked.now) =
    c.word_len.ensures ∙ ap (λ (xs : List ℕ). length (first_word xs)) c.as_bytes-2.ensures.value in
    let behind = c.split_at.result.1.now in
    let ops : c.operations_len.result ≡ operations_len behind = c.operations_len.ensures.exact ∙ ap operations_len c.as_bytes-3.ensures.value in
    let within = rw c.as_bytes-3.ensures.value at c.operations_len.ensures.within in
    let all = substitution_at c.args.text.now marked.now c.split_at.result.0.now behind c.split_at-2.result.1.now c.read.result c.word_len.result
    c.operations_len.result is word size c.split_at.ensures.front c.split_at.ensures.back c.split_at.ensures.back_len ops within
    c.split_at-2.ensures.back c.split_at-2.ensures.back_len c.read.ensures in
    rw (sym c.as_bytes-4.ensures.value) at all
