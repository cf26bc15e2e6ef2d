-- The grammar of probes: operands and operators in turn, with an operand at both ends, and MATCH_ONE behind the last.
use Rattle.std.specs.Prelude.{ℕ, ◌≡◌, ◌+◌, ⊤, Bool, true, false, List, [], ◌∷◌, ◌++◌, length, Option, Some, None, Result, Ok, Err}
use Rattle.probe_lang.specs.Values.{Probe}
use Rattle.probe_lang.specs.Words.{term_of}
use Rattle.probe_lang.specs.declared.word.Word.{Word}
use Rattle.probe_lang.specs.declared.word.Word.TheVariants.{Fru}
use Rattle.probe_lang.specs.declared.term.Term.{Term}
use Rattle.probe_lang.specs.declared.term.Term.TheVariants.{Operand, Pattern, Operator, MatchOne}
use Rattle.probe_lang.specs.declared.pattern_text.Member.{Member}
use Rattle.probe_lang.specs.declared.probe.ProbeFault.{ProbeFault}
use Rattle.probe_lang.specs.declared.probe.ProbeFault.TheVariants.{ProbeSyntax, OutOfMemory}

-- the most texts of a probe
abbrev pub most_texts : ℕ
most_texts = 33

-- what is read of the texts of a probe: its words, and its patterns by number
pub record Reading : Type 0 where
  pub words : List Word
  pub patterns : List (List Member)

abbrev pub nothing_read : Reading
nothing_read = record { words = []; patterns = [] }

abbrev pub with_word : Reading → Word → Reading
with_word reading word = record { words = reading.words ++ word ∷ []; patterns = reading.patterns }

-- a pattern more, under the next number
abbrev pub with_pattern : Reading → List Member → Reading
with_pattern reading members = record { words = reading.words ++ Fru (length reading.patterns) ∷ []; patterns = reading.patterns ++ members ∷ [] }

-- a probe and its patterns by number
abbrev pub Parsed : Type 0
Parsed = Probe × List (List Member)

abbrev pub parsed : Reading → Bool → Parsed
parsed reading match_one = (record { words = reading.words; match_one = match_one }, reading.patterns)

-- no text is left
abbrev pub is_last : List (List ℕ) → Bool
is_last [] = true
is_last (text ∷ texts) = false

-- what follows a term at this position, where an operand is wanted or else an operator: the reading of the texts behind it, or its
-- position, where it is no word or stands in a wrong place
abbrev pub read_on : Bool → ℕ → Reading → Bool → Option Term → (Bool → Reading → Result Parsed ℕ) → Result Parsed ℕ
read_on true at reading last (Some (Operand word)) later = later false (with_word reading word)
read_on true at reading last (Some (Pattern members)) later = later false (with_pattern reading members)
read_on true at reading last (Some (Operator word)) later = Err at
read_on true at reading last (Some MatchOne) later = Err at
read_on true at reading last None later = Err at
read_on false at reading last (Some (Operator word)) later = later true (with_word reading word)
read_on false at reading true (Some MatchOne) later = Ok (parsed reading true)
read_on false at reading false (Some MatchOne) later = Err at
read_on false at reading last (Some (Operand word)) later = Err at
read_on false at reading last (Some (Pattern members)) later = Err at
read_on false at reading last None later = Err at

-- the texts from this position on; at their end no operand is wanted
unfoldable pub read_from : Bool → ℕ → Reading → List (List ℕ) → Result Parsed ℕ
read_from true at reading [] = Err at
read_from false at reading [] = Ok (parsed reading false)
read_from wants_operand at reading (text ∷ texts) =
    read_on wants_operand at reading (is_last texts) (term_of text) (λ wants_operand reading. read_from wants_operand (at + 1) reading texts)

-- the probe of texts, or the position of the first that is wrong, from 0; the number of texts where one operand more was wanted
abbrev pub probe_of : List (List ℕ) → Result Parsed ℕ
probe_of texts = read_from true 0 nothing_read texts

-- what is answered of texts; want of memory says nothing of them
abbrev pub GivesProbe : Result Parsed ProbeFault → Result Parsed ℕ → Type 0
GivesProbe (Ok parsed) read = read ≡ Ok parsed
GivesProbe (Err (ProbeSyntax at)) read = read ≡ Err at
GivesProbe (Err OutOfMemory) read = ⊤
