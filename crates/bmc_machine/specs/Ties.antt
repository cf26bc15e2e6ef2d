-- Verdicts are tied to the items that they stand beside.
use Rattle.std.specs.Prelude.{ℕ, ◌≡◌, ⊤, List, [], ◌∷◌}
use Rattle.std.specs.List.{flat_map}
use Rattle.bmc_text.specs.Items.{Item, Line, LineTooLong, Block, BlockTooLong, BlockShort}
use Rattle.cfg_json.specs.Documents.{config_read}
use Rattle.cfg_json.specs.Verdicts.{Verdict, Accepted, TiedToReading, large_in}

-- a verdict on the patterns of a configuration; of other items nothing is said
abbrev pub IsTied : Item → Verdict → Type 0
IsTied (Block bytes) verdict = TiedToReading (config_read bytes) verdict
IsTied (Line bytes) verdict = verdict ≡ Accepted
IsTied LineTooLong verdict = verdict ≡ Accepted
IsTied BlockTooLong verdict = verdict ≡ Accepted
IsTied BlockShort verdict = verdict ≡ Accepted

-- verdicts on the first of these items, one each
abbrev pub AreTied : List Item → List Verdict → Type 0
AreTied items [] = ⊤
AreTied [] (verdict ∷ verdicts) = ⊥
AreTied (item ∷ items) (verdict ∷ verdicts) = IsTied item verdict × AreTied items verdicts

-- the texts that verdicts call too large, in their order
abbrev pub large_texts : List Verdict → List (List ℕ)
large_texts verdicts = flat_map large_in verdicts
