use Rattle.std.proofs.Common.{◌≡◌, ◌-◌, ◌^◌, min, length, take}
use Rattle.std.specs.List.{flat_map}
use Rattle.fru_record.specs.Building.{field_of_text}
use Rattle.fru_record.proofs.layout.fields_len.Given as goal

abbrev pub invariant-loop-text : goal.invariant-loop-text
invariant-loop-text l = l.len ≡ min (length (flat_map field_of_text (take l.text-index l.texts))) (2 ^ 64 - 1)
