-- The pieces that are left answer as all do.
use Rattle.std.proofs.Common.{◌≡◌, length}
use denote.Shadow.{shadow}
use denote.Text.{Utf8}
use Rattle.std.specs.List.{list_any}
use Rattle.tmpl.specs.Templates.{pieces_of, asks_index}
use Rattle.tmpl.proofs.stretch.uses_index.Given as goal

abbrev pub invariant-loop-stretch : goal.invariant-loop-stretch
invariant-loop-stretch l = record {
  told : list_any asks_index (pieces_of l.rest) ≡ list_any asks_index (pieces_of l.text);
  utf8 : shadow (Utf8 l.rest);
}

abbrev pub decreases-loop-stretch : goal.decreases-loop-stretch
decreases-loop-stretch l = length l.rest
