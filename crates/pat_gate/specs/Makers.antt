-- What is seen of a maker of patterns, and what making one does.
use Rattle.std.specs.Prelude.{ℕ, ◌≡◌, Bool, nat_eq, List, [], ◌∷◌, ◌++◌, Result, Ok, Err, ⊤}
use Rattle.std.specs.List.{list_any}
use Rattle.std.specs.Cmp.Lexicographic.{pointwise}
use Rattle.bmc_base.specs.Counts.{raised}
use Rattle.pat_gate.specs.Grammar.{IsPattern, IsBad}
use Rattle.regex_compile.specs.declared.error.Error as compiler
use Rattle.regex_compile.specs.declared.error.Error.TheVariants as compiled
use Rattle.pat_gate.specs.declared.make_fault.MakeFault.{MakeFault}
use Rattle.pat_gate.specs.declared.make_fault.MakeFault.TheVariants.{PatternSyntax, PatternTooLarge, OutOfMemory}

-- how many calls failed, and the texts that were refused as too large
pub record Maker : Type 0 where
  pub faults : ℕ
  pub refused : List (List ℕ)

-- a maker that was not called yet
abbrev pub new_maker : Maker
new_maker = record { faults = 0; refused = [] }

-- the call failed, and its text joins the refused ones
abbrev pub with_refused : Maker → List ℕ → Maker
with_refused maker text = record { faults = raised maker.faults 1; refused = maker.refused ++ text ∷ [] }

-- one call: the pattern that the grammar reads in the text, or why there is none; where no text is refused, the maker is as it was
abbrev pub Makes : Maker → Maker → List ℕ → Result (List ℕ) MakeFault → Type 0
Makes old new text (Ok compiled) = (compiled ≡ text) × IsPattern text × (new ≡ old)
Makes old new text (Err PatternSyntax) = IsBad text × (new ≡ old)
Makes old new text (Err PatternTooLarge) = new ≡ with_refused old text
Makes old new text (Err OutOfMemory) = new ≡ old

-- what building the pattern of a text answers: only a text that the grammar reads is too large
abbrev pub Builds : List ℕ → Result (List ℕ) MakeFault → Type 0
Builds text (Ok compiled) = (compiled ≡ text) × IsPattern text
Builds text (Err PatternSyntax) = IsBad text
Builds text (Err PatternTooLarge) = IsPattern text
Builds text (Err OutOfMemory) = ⊤

-- the fault for an error of the compiler: only memory is none of the pattern's
abbrev pub of_compiler : compiler.Error → MakeFault
of_compiler compiled.TooBig = PatternTooLarge
of_compiler compiled.Malformed = PatternTooLarge
of_compiler compiled.OutOfMemory = OutOfMemory

-- the texts that are refused whatever the grammar says of them, and what is seen of the maker of the others
pub record Listing : Type 0 where
  pub too_large : List (List ℕ)
  pub maker : Maker

-- whether a text is one of these
abbrev pub is_listed : List (List ℕ) → List ℕ → Bool
is_listed texts text = list_any (λ other. pointwise nat_eq other text) texts

-- the text was too large, or there was no memory to list it
abbrev pub IsRefusal : MakeFault → Type 0
IsRefusal PatternSyntax = ⊥
IsRefusal PatternTooLarge = ⊤
IsRefusal OutOfMemory = ⊤
