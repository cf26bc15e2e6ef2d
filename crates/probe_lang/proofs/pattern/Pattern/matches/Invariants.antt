use Rattle.std.proofs.Common.{◌≡◌, true, take}
use Rattle.std.specs.List.{list_all}
use Rattle.bmc_base.specs.Steps.{with_matches}
use Rattle.probe_lang.specs.Matches.{member_matches}
use Rattle.probe_lang.proofs.pattern.Pattern.matches.Given as goal

abbrev pub invariant-loop-part : goal.invariant-loop-part
invariant-loop-part g l = record {
  all : list_all (member_matches l.place l.fru) (take l.part-index l.part-items) ≡ true;
  counted : l.steps ≡ with_matches l.fn.steps 1;
}
