use Rattle.std.proofs.Common.{◌≡◌, ◌+◌, ◌≤◌, ◌++◌, length, take}
use Rattle.fru_area.specs.Readings.{seen}
use Rattle.fru_area.specs.Areas.{area_fields}
use Rattle.fru_area.proofs.AreasLemmas.{so_far}
use Rattle.fru_area.proofs.WalksLemmas.{GoesOn}
use Rattle.fru_area.proofs.area.append_area.Given as goal

-- the list so far and the fields of the rest are those of all; each field takes a byte
abbrev pub invariant-loop-raw : goal.invariant-loop-raw
invariant-loop-raw g l = record {
  fields :
      GoesOn l.area l.rest (so_far l.area l.english l.names l.number l.list)
      (seen (λ more. l.fn.list ++ more) (area_fields l.area l.english l.fn.names l.bytes l.start));
  number : l.number + length l.rest ≤ length l.bytes + 1;
  front : take (length l.fn.list) l.list ≡ l.fn.list;
}

abbrev pub decreases-loop-raw : goal.decreases-loop-raw
decreases-loop-raw g l = length l.rest
