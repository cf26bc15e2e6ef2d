-- The first word of a line, and what is answered of the line.
use Rattle.std.proofs.Common.{true, ◌≡◌, ◌≢◌, ◌∙◌, refl, sym, ap, subst, ℕ, ◌+◌, ◌<◌, ◌≤◌, List, [], ◌∷◌, ◌++◌, length, get_or, take, drop, arith}
use Rattle.std.specs.Prelude.{codes, Option, Some, None, option_map, position, Result, Ok, Err}
use Rattle.std.specs.Str.{chars, is_utf8}
use Rattle.std.proofs.lemmas.Bool.Decides.{nat_tests}
use Rattle.std.proofs.lemmas.Slice.Eq.{bytes_eq-Decides}
use Rattle.std.proofs.lemmas.Bool.{ne_eqb, eqb-true}
use Rattle.std.proofs.lemmas.List.{take-append-drop, drop_more}
use Rattle.std.proofs.lemmas.List.Quantifiers.{position-Some}
use Rattle.bmc_text.specs.Words.{split_space, digits, number}
use Rattle.bmc_script.proofs.NamesLemmas.{is_space, parts_at}
use Rattle.bmc_script.specs.Commands.{GivesCommand, is_blank, verb_command, words_of, command_of}
use Rattle.bmc_script.specs.Commands.{plug_of, unplug_of, config_of, read_of, lose_of, ticks_of, show_of}
use Rattle.bmc_script.specs.declared.command.Command.{Command}
use Rattle.bmc_script.specs.declared.command.Command.TheVariants.{Nothing}
use Rattle.bmc_script.specs.declared.command.ScriptFault.{ScriptFault}
use Rattle.bmc_script.specs.declared.command.ScriptFault.TheVariants.{UnknownCommand, BadArguments, PlaceRange, TickLimit, BadHex, OutOfMemory}

-- what is read is answered as it is
pub as_read : (answer read : Result Command ScriptFault) → read ≡ answer → GivesCommand answer read
as_read (Ok command) read is = is
as_read (Err UnknownCommand) read is = is
as_read (Err BadArguments) read is = is
as_read (Err PlaceRange) read is = is
as_read (Err TickLimit) read is = is
as_read (Err BadHex) read is = is
as_read (Err OutOfMemory) read is = tt

-- a blank line asks for nothing
pub blank_line : (line : List ℕ) → is_blank line ≡ true → command_of line ≡ Ok Nothing
unfolding command_of
blank_line [] is = refl
blank_line (first ∷ rest) is = rw is refl

-- four bytes are a list of them
pub four_bytes : (bytes : List ℕ) → length bytes ≡ 4
    → bytes ≡ get_or bytes 0 0 ∷ get_or bytes 1 0 ∷ get_or bytes 2 0 ∷ get_or bytes 3 0 ∷ []
four_bytes (a ∷ b ∷ c ∷ d ∷ []) four = refl
four_bytes others four = absurd (omega arith)

-- five bytes or more are a list of five, and the rest
pub five_bytes : (bytes : List ℕ) → 5 ≤ length bytes
    → bytes ≡ get_or bytes 0 0 ∷ get_or bytes 1 0 ∷ get_or bytes 2 0 ∷ get_or bytes 3 0 ∷ get_or bytes 4 0 ∷ drop 5 bytes
five_bytes (a ∷ b ∷ c ∷ d ∷ e ∷ rest) five = refl
five_bytes others five = absurd (omega arith)

-- the same of seven bytes
pub seven_front : (bytes : List ℕ) → 7 ≤ length bytes
    → bytes
    ≡ get_or bytes 0 0 ∷ get_or bytes 1 0 ∷ get_or bytes 2 0 ∷ get_or bytes 3 0 ∷ get_or bytes 4 0 ∷ get_or bytes 5 0 ∷ get_or bytes 6 0
    ∷ drop 7 bytes
seven_front (a ∷ b ∷ c ∷ d ∷ e ∷ f ∷ g ∷ rest) seven = refl
seven_front others seven = absurd (omega arith)

-- six bytes are a list of them
pub six_bytes : (bytes : List ℕ) → length bytes ≡ 6
    → bytes ≡ get_or bytes 0 0 ∷ get_or bytes 1 0 ∷ get_or bytes 2 0 ∷ get_or bytes 3 0 ∷ get_or bytes 4 0 ∷ get_or bytes 5 0 ∷ []
six_bytes (a ∷ b ∷ c ∷ d ∷ e ∷ f ∷ []) six = refl
six_bytes others six = absurd (omega arith)

-- seven bytes are a list of them
pub seven_bytes : (bytes : List ℕ) → length bytes ≡ 7
    → bytes ≡ get_or bytes 0 0 ∷ get_or bytes 1 0 ∷ get_or bytes 2 0 ∷ get_or bytes 3 0 ∷ get_or bytes 4 0 ∷ get_or bytes 5 0 ∷ get_or bytes 6 0 ∷ []
seven_bytes (a ∷ b ∷ c ∷ d ∷ e ∷ f ∷ g ∷ []) seven = refl
seven_bytes others seven = absurd (omega arith)

-- nine bytes are a list of them
pub nine_bytes : (bytes : List ℕ) → length bytes ≡ 9
    → bytes
    ≡ get_or bytes 0 0 ∷ get_or bytes 1 0 ∷ get_or bytes 2 0 ∷ get_or bytes 3 0 ∷ get_or bytes 4 0 ∷ get_or bytes 5 0 ∷ get_or bytes 6 0
    ∷ get_or bytes 7 0 ∷ get_or bytes 8 0 ∷ []
nine_bytes (a ∷ b ∷ c ∷ d ∷ e ∷ f ∷ g ∷ h ∷ i ∷ []) nine = refl
nine_bytes others nine = absurd (omega arith)

-- the command of a line that is split so
abbrev split_command : List ℕ → Option (List ℕ × List ℕ) → Result Command ScriptFault
split_command line (Some parts) = verb_command parts.0 parts.1
split_command line None = verb_command line []

words_split : (line : List ℕ) (parts : Option (List ℕ × List ℕ)) → split_space line ≡ parts → words_of line ≡ split_command line parts
unfolding words_of
words_split line (Some parts) is = rw is refl
words_split line None is = rw is refl

-- a line at the place of its first space
words_at : (line : List ℕ) (at : ℕ) → split_space line ≡ Some (take at line, drop (at + 1) line)
    → words_of line ≡ verb_command (take at line) (drop (at + 1) line)
words_at line at is = words_split line (Some (take at line, drop (at + 1) line)) is

-- a line that begins with a verb and a space is read as such
pub read_line : (rest : List ℕ) → command_of (codes "read" ++ 32 ∷ rest) ≡ read_of rest
unfolding command_of
read_line rest = let line = codes "read" ++ 32 ∷ rest in words_at line 4 (parts_at line 4 (omega arith))

pub plug_line : (rest : List ℕ) → command_of (codes "plug" ++ 32 ∷ rest) ≡ plug_of rest
unfolding command_of
plug_line rest = let line = codes "plug" ++ 32 ∷ rest in words_at line 4 (parts_at line 4 (omega arith))

pub unplug_line : (rest : List ℕ) → command_of (codes "unplug" ++ 32 ∷ rest) ≡ unplug_of rest
unfolding command_of
unplug_line rest = let line = codes "unplug" ++ 32 ∷ rest in words_at line 6 (parts_at line 6 (omega arith))

pub config_line : (rest : List ℕ) → command_of (codes "config" ++ 32 ∷ rest) ≡ config_of rest
unfolding command_of
config_line rest = let line = codes "config" ++ 32 ∷ rest in words_at line 6 (parts_at line 6 (omega arith))

pub lose_line : (rest : List ℕ) → command_of (codes "lose" ++ 32 ∷ rest) ≡ lose_of rest
unfolding command_of
lose_line rest = let line = codes "lose" ++ 32 ∷ rest in words_at line 4 (parts_at line 4 (omega arith))

pub tick_line : (rest : List ℕ) → command_of (codes "tick" ++ 32 ∷ rest) ≡ ticks_of rest
unfolding command_of
tick_line rest = let line = codes "tick" ++ 32 ∷ rest in words_at line 4 (parts_at line 4 (omega arith))

pub show_line : (rest : List ℕ) → command_of (codes "show" ++ 32 ∷ rest) ≡ show_of rest
unfolding command_of
show_line rest = let line = codes "show" ++ 32 ∷ rest in words_at line 4 (parts_at line 4 (omega arith))

-- what a line is read as, is answered of it
pub gives_line : (line : List ℕ) (answer read : Result Command ScriptFault) → command_of line ≡ read → GivesCommand answer read
    → GivesCommand answer (command_of line)
gives_line line answer read is gives = subst (GivesCommand answer) (sym is) gives

-- a line that is not blank has words
pub words_line : (line : List ℕ) → 0 < length line → get_or line 0 0 ≢ 35 → command_of line ≡ words_of line
unfolding command_of
words_line [] some other = absurd (omega arith)
words_line (first ∷ rest) some other = rw (ne_eqb first 35 other) refl

-- a word is none of the seven verbs
abbrev pub IsNoVerb : List ℕ → Type 0
IsNoVerb word =
    (word ≢ codes "plug") × (word ≢ codes "unplug") × (word ≢ codes "config")
    × (word ≢ codes "read") × (word ≢ codes "lose") × (word ≢ codes "tick") × (word ≢ codes "show")

pub no_verb : (word rest : List ℕ) → IsNoVerb word → verb_command word rest ≡ Err UnknownCommand
no_verb word rest (no_plug, no_unplug, no_config, no_read, no_lose, no_tick, no_show) = grind (arith, nat_tests, bytes_eq-Decides)

-- a verb that stands alone has bad arguments
pub plug_alone : verb_command (codes "plug") [] ≡ Err BadArguments
unfolding plug_of
plug_alone = refl

pub unplug_alone : verb_command (codes "unplug") [] ≡ Err BadArguments
unfolding unplug_of
unplug_alone = refl

pub config_alone : verb_command (codes "config") [] ≡ Err BadArguments
unfolding config_of number digits
config_alone = refl

pub read_alone : verb_command (codes "read") [] ≡ Err BadArguments
unfolding read_of
read_alone = refl

pub lose_alone : verb_command (codes "lose") [] ≡ Err BadArguments
unfolding lose_of is_utf8 chars
lose_alone = refl

pub tick_alone : verb_command (codes "tick") [] ≡ Err BadArguments
unfolding ticks_of number digits
tick_alone = refl

pub show_alone : verb_command (codes "show") [] ≡ Err BadArguments
unfolding show_of
show_alone = refl

-- a line begins with none of the seven verbs and a space
abbrev pub BeginsWithNoVerb : List ℕ → Type 0
BeginsWithNoVerb line = (rest : List ℕ) →
    (line ≢ codes "plug" ++ 32 ∷ rest) × (line ≢ codes "unplug" ++ 32 ∷ rest) × (line ≢ codes "config" ++ 32 ∷ rest)
    × (line ≢ codes "read" ++ 32 ∷ rest) × (line ≢ codes "lose" ++ 32 ∷ rest) × (line ≢ codes "tick" ++ 32 ∷ rest)
    × (line ≢ codes "show" ++ 32 ∷ rest)

-- no verb has a space
spaced : (line : List ℕ) (at : ℕ) → position is_space line ≡ Some at → IsNoVerb line
spaced line at is = (
  no (codes "plug") refl,
  no (codes "unplug") refl,
  no (codes "config") refl,
  no (codes "read") refl,
  no (codes "lose") refl,
  no (codes "tick") refl,
  no (codes "show") refl,
)
  where
    no : (verb : List ℕ) → position is_space verb ≡ None → line ≢ verb
    no verb none same = let found : Some at ≡ None = sym is ∙ ap (position is_space) same ∙ none in cc

-- what stands before the first space is no verb
front_no_verb : (line front back : List ℕ) → line ≡ front ++ 32 ∷ back → BeginsWithNoVerb line → IsNoVerb front
front_no_verb line front back halves others =
    let (plug, unplug, config, read, lose, tick, show) = others back in (
      no (codes "plug") plug,
      no (codes "unplug") unplug,
      no (codes "config") config,
      no (codes "read") read,
      no (codes "lose") lose,
      no (codes "tick") tick,
      no (codes "show") show,
    )
  where
    no : (verb : List ℕ) → line ≢ verb ++ 32 ∷ back → front ≢ verb
    no verb other same = other (halves ∙ ap (λ (word : List ℕ). word ++ 32 ∷ back) same)

-- a line at the place of its first space, if it has one
abbrev cut : List ℕ → Option ℕ → Option (List ℕ × List ℕ)
cut line found = option_map (λ at. (take at line, drop (at + 1) line)) found

other_at : (line : List ℕ) (found : Option ℕ) → position is_space line ≡ found → BeginsWithNoVerb line → words_of line ≡ verb_command line []
other_at line None is others = words_split line None (ap (cut line) is)
other_at line (Some at) is others =
    let front = take at line in
    let back = drop (at + 1) line in
    let found = position-Some is_space line at 0 is in
    let space : get_or line at 0 ≡ 32 = eqb-true (get_or line at 0) 32 found.1 in
    let halves : line ≡ front ++ 32 ∷ back = sym (take-append-drop at line)
    ∙ ap (λ (rest : List ℕ). front ++ rest) (drop_more line at 0 found.0 ∙ ap (λ (byte : ℕ). byte ∷ back) space) in
    words_at line at (ap (cut line) is) ∙ no_verb front back (front_no_verb line front back halves others)
    ∙ sym (no_verb line [] (spaced line at is))

-- a line that begins with no verb and a space has the fault of its one word, whether it has a space or not
pub other_line : (line : List ℕ) → BeginsWithNoVerb line → words_of line ≡ verb_command line []
other_line line others = other_at line (position is_space line) refl others
