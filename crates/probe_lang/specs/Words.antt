-- The words of a probe, as they are written.
use Rattle.std.specs.Prelude.{ℕ, ◌-◌, Bool, nat_eq, nat_le, not, ◌&&◌, if◌then◌else◌, List, ◌++◌, length, take, drop, slice_range, codes, bytes_eq}
use Rattle.std.specs.Prelude.{Option, Some, None, option_map}
use Rattle.std.specs.Option.{option_or}
use Rattle.std.specs.List.{list_any, prefix_len, suffix_len}
use Rattle.bmc_base.specs.Names.{longest_name}
use Rattle.probe_lang.specs.declared.term.Term.{Term}
use Rattle.probe_lang.specs.declared.term.Term.TheVariants.{Operand, Pattern, Operator, MatchOne}
use Rattle.probe_lang.specs.declared.word.Word.TheVariants.{Always, Never, Found, And, Or}
use Rattle.probe_lang.specs.Braces.{pattern_in}

abbrev pub is_space : ℕ → Bool
is_space byte = nat_eq byte 32

-- a text without the spaces at its start and at its end
unfoldable pub without_spaces : List ℕ → List ℕ
without_spaces text = let front = take (length text - suffix_len is_space text) text in drop (prefix_len is_space front) front

-- what stands between a head and a tail, where a text has both
unfoldable pub between : List ℕ → List ℕ → List ℕ → Option (List ℕ)
between head tail text =
    let middle = slice_range text (length head) (length text - length tail) in
    if bytes_eq text (head ++ middle ++ tail) then Some middle else None

-- whether FOUND may ask for a name: it has 1 to 64 bytes, and no quote (39)
abbrev pub is_quotable : List ℕ → Bool
is_quotable name = nat_le 1 (length name) && nat_le (length name) longest_name && not (list_any (nat_eq 39) name)

-- the name that a word FOUND('..') asks for
abbrev pub quoted_name : Option (List ℕ) → Option (List ℕ)
quoted_name None = None
quoted_name (Some name) = if is_quotable name then Some name else None

unfoldable pub found_name : List ℕ → Option (List ℕ)
found_name word = quoted_name (between (codes "FOUND('") (codes "')") word)

-- what a word is that has no spaces at its ends: a constant, a configuration, a pattern, an operator or MATCH_ONE; or none
unfoldable pub term_of_word : List ℕ → Option Term
term_of_word word =
    if bytes_eq word (codes "TRUE") then Some (Operand Always)
    else if bytes_eq word (codes "FALSE") then Some (Operand Never)
    else if bytes_eq word (codes "AND") then Some (Operator And)
    else if bytes_eq word (codes "OR") then Some (Operator Or)
    else if bytes_eq word (codes "MATCH_ONE") then Some MatchOne
    else option_or (option_map (λ name. Operand (Found name)) (found_name word))
    (option_map Pattern (pattern_in (between (codes "xyz.openbmc_project.FruDevice({") (codes "})") word)))

-- what one text of a probe is
abbrev pub term_of : List ℕ → Option Term
term_of text = term_of_word (without_spaces text)
