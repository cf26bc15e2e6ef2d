use Rattle.std.proofs.Common.{◌≡◌, ◌++◌, ◌||◌, List, drop}
use Rattle.std.specs.List.{list_any}
use Rattle.bmc_base.specs.Steps.{with_matches}
use Rattle.probe_lang.specs.Matches.{matches}
use Rattle.probe_lang.specs.declared.pattern_text.Member.{Member}
use Rattle.match_rows.specs.Matching.{pattern_hits}
use Rattle.match_rows.proofs.matching.append_hits.Given as goal

abbrev pub invariant-loop-pattern_number : goal.invariant-loop-pattern_number
invariant-loop-pattern_number g l = record {
  found : l.hits ++ pattern_hits l.place l.fru l.number l.pattern_number (drop l.pattern_number l.pattern-items)
      ≡ l.initial.hits ++ pattern_hits l.place l.fru l.number 0 l.pattern-items;
  any : (l.is_match || list_any (λ (members : List Member). matches members l.place l.fru) (drop l.pattern_number l.pattern-items))
      ≡ list_any (λ (members : List Member). matches members l.place l.fru) l.pattern-items;
  counted : l.steps ≡ with_matches l.fn.steps l.pattern_number;
}
