-- The text so far, and what is left.
use Rattle.std.proofs.Common.{◌≡◌, length}
use denote.Shadow.{shadow}
use denote.Text.{Utf8}
use Rattle.tmpl.specs.Rendering.{fields_of, rendered_behind}
use Rattle.tmpl.proofs.render.push_rest.Given as goal

abbrev pub invariant-loop-stretch : goal.invariant-loop-stretch
invariant-loop-stretch l = record {
  told : rendered_behind l.spot.place (fields_of l.spot.fru) l.spot.index l.out.bytes l.rest
      ≡ rendered_behind l.spot.place (fields_of l.spot.fru) l.spot.index l.initial.out.bytes l.text;
  utf8 : shadow (Utf8 l.rest);
}

abbrev pub decreases-loop-stretch : goal.decreases-loop-stretch
decreases-loop-stretch l = length l.rest
