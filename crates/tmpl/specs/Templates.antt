-- Templates: plain text with substitutions, each a `$` and a word, and maybe operations behind it.
use Rattle.std.specs.Prelude.{ℕ, ◌+◌, Bool, true, false, ◌==◌, ◌&&◌, nat_le, not, if◌then◌else◌, List, [], ◌∷◌, length, drop, map, slice_index}
use Rattle.std.specs.Prelude.{Option, Some, None, Result, Ok, Err}
use Rattle.std.specs.Option.{is_some}
use Rattle.std.specs.List.{list_all, list_any, take_while}
use Rattle.tmpl.specs.Chains.{chain}
use Rattle.tmpl.specs.Operations.{operations_of, operations_len, divides_by_zero}
use Rattle.tmpl.specs.Words.{starts_word, is_word_byte, word_of}
use Rattle.tmpl.specs.declared.operation.Operation.{Operation}
use Rattle.tmpl.specs.declared.word.Word.{Word}
use Rattle.tmpl.specs.declared.word.Word.TheVariants as words
use Rattle.tmpl.specs.declared.template.TmplFault.{TmplFault}
use Rattle.tmpl.specs.declared.template.TmplFault.TheVariants.{TemplateSyntax}

-- the most bytes of a template
abbrev pub longest_template : ℕ
longest_template = 128

-- a byte of plain text, or a substitution, which has no word where its word is unknown
pub data Piece : Type 0 where
  Plain : (byte : ℕ) → Piece
  Substitution : (word : Option Word) (operations : List Operation) → Piece

abbrev pub is_dollar : ℕ → Bool
is_dollar byte = byte == 36

-- a substitution begins with a `$` in front of a letter or `_`; any other `$` is plain text
abbrev pub begins_substitution : List ℕ → Bool
begins_substitution text = is_dollar (slice_index text 0) && starts_word (slice_index text 1)

-- the longest word at the front of a text, and the text behind it
abbrev pub first_word : List ℕ → List ℕ
first_word text = take_while is_word_byte text

abbrev pub behind_word : List ℕ → List ℕ
behind_word text = drop (length (first_word text)) text

-- the substitution of a text behind its `$`, with the number of bytes that it takes
abbrev pub substitution_in : List ℕ → Piece × ℕ
substitution_in text =
    (Substitution (word_of (first_word text)) (operations_of (behind_word text)), 1 + length (first_word text) + operations_len (behind_word text))

-- the piece at the front of a text that is not empty, with the number of bytes that it takes
unfoldable pub piece_at : List ℕ → Option (Piece × ℕ)
piece_at text = Some (if begins_substitution text then substitution_in (drop 1 text) else (Plain (slice_index text 0), 1))

-- the pieces of a text
unfoldable pub pieces_of : List ℕ → List Piece
pieces_of text = map (λ found. found.0) (chain piece_at text)

-- a word has to be known, and nothing is divided by 0
abbrev pub is_right : Piece → Bool
is_right (Plain byte) = true
is_right (Substitution word operations) = is_some word && list_all (λ operation. not (divides_by_zero operation)) operations

-- whether a text is a template: it has 1 to 128 bytes, and each of its pieces is right
unfoldable pub is_template : List ℕ → Bool
is_template text = nat_le 1 (length text) && nat_le (length text) longest_template && list_all is_right (pieces_of text)

-- what is read of a text
abbrev pub template_of : List ℕ → Result (List ℕ) TmplFault
template_of text = if is_template text then Ok text else Err TemplateSyntax

abbrev pub is_plain : Piece → Bool
is_plain (Plain byte) = true
is_plain (Substitution word operations) = false

-- whether it has no substitution
unfoldable pub is_fixed : List ℕ → Bool
is_fixed text = list_all is_plain (pieces_of text)

abbrev pub is_one_substitution : List Piece → Bool
is_one_substitution [] = false
is_one_substitution (Plain byte ∷ pieces) = false
is_one_substitution (Substitution word operations ∷ []) = true
is_one_substitution (Substitution word operations ∷ piece ∷ pieces) = false

-- whether it is one substitution and nothing else
unfoldable pub is_single : List ℕ → Bool
is_single text = is_one_substitution (pieces_of text)

abbrev pub is_index : Option Word → Bool
is_index None = false
is_index (Some words.Bus) = false
is_index (Some words.Address) = false
is_index (Some words.Index) = true
is_index (Some (words.Field name)) = false

abbrev pub asks_index : Piece → Bool
asks_index (Plain byte) = false
asks_index (Substitution word operations) = is_index word

-- whether the word of one of its substitutions is `index`
unfoldable pub uses_index : List ℕ → Bool
uses_index text = list_any asks_index (pieces_of text)
