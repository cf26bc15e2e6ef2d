-- The patterns so far are made of the first texts, of which the grammar reads each, and the maker is as it was.
use Rattle.std.proofs.Common.{◌≡◌, take}
use Rattle.std.specs.List.{All, flat_map}
use Rattle.pat_gate.specs.Grammar.{IsPattern}
use Rattle.probe_lang.specs.Matches.{texts_of}
use Rattle.cfg_json.proofs.config.make_patterns.Given as goal

abbrev pub invariant-loop-text : goal.invariant-loop-text
invariant-loop-text g l = record {
  made : l.patterns.items ≡ take l.text-index l.texts;
  read : All IsPattern (flat_map texts_of (take l.text-index l.texts));
  same : g.M.PatternMaker.seen l.maker ≡ g.M.PatternMaker.seen l.fn.maker;
}
