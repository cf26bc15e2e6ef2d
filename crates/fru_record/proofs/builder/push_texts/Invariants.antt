use Rattle.std.proofs.Common.{◌≡◌, ◌<◌, ℕ, List, ◌++◌, take, get_or}
use Rattle.std.specs.List.{flat_map}
use Rattle.std.specs.Str.{IsUtf8}
use Rattle.fru_record.specs.Building.{field_of_text}
use Rattle.fru_record.proofs.builder.push_texts.Given as goal

abbrev pub invariant-loop-text : goal.invariant-loop-text
invariant-loop-text l = record {
  written : l.bytes.items ≡ l.fn.bytes.items ++ flat_map field_of_text (take l.text-index l.texts);
  utf8 : (k : ℕ) (d : List ℕ) → k < l.text-index → IsUtf8 (get_or l.texts k d);
}
