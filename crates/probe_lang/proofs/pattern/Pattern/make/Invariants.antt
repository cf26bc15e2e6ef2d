use Rattle.std.proofs.Common.{◌≡◌, take}
use Rattle.std.specs.List.{All}
use Rattle.pat_gate.specs.Grammar.{IsPattern}
use Rattle.probe_lang.specs.Matches.{texts_of}
use Rattle.probe_lang.proofs.pattern.Pattern.make.Given as goal

abbrev pub invariant-loop-member : goal.invariant-loop-member
invariant-loop-member g l = record {
  made : l.pattern ≡ take l.member-index l.members;
  read : All IsPattern (texts_of (take l.member-index l.members));
  same : g.M.PatternMaker.seen l.maker ≡ g.M.PatternMaker.seen l.fn.maker;
}
