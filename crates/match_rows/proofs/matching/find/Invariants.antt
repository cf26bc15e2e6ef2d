use Rattle.std.proofs.Common.{◌≡◌, ◌++◌, drop, take}
use Rattle.bmc_base.specs.Steps.{with_matches}
use Rattle.match_rows.specs.Matching.{config_hits, hits_of, config_channels, channels_of, pattern_count}
use Rattle.match_rows.proofs.matching.find.Given as goal

abbrev pub invariant-loop-number : goal.invariant-loop-number
invariant-loop-number g l = record {
  found : l.hits ++ config_hits l.place l.fru l.number (drop l.number l.shelf) ≡ hits_of l.shelf l.place l.fru;
  opened : l.channels ++ config_channels l.place l.fru l.number (drop l.number l.shelf) ≡ channels_of l.shelf l.place l.fru;
  counted : l.steps ≡ with_matches l.fn.steps (pattern_count (take l.number l.shelf));
}
