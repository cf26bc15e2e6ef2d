-- Where the areas of a record that is built lie.
use Rattle.std.specs.Prelude.{ℕ, ◌≡◌, ◌≤◌, ◌+◌, ◌*◌, List, [], ◌∷◌, min, Bool, ◌==◌, ◌||◌, nat_lt, if◌then◌else◌}
use Rattle.fru_area.specs.Headers.{format_version, unit, longest_record}
use Rattle.fru_record.specs.Building.{most_units, units_of, chassis_body, board_body, product_body}
use Rattle.fru_record.specs.Parts.{chassis_texts, board_texts, product_texts}
use Rattle.fru_record.specs.TextRules.{AreWritable}
use Rattle.fru_record.specs.declared.layout.Layout.{Layout}
use Rattle.fru_record.specs.declared.parts.Parts.{Parts}

-- where an area of so many units begins, behind those before it, or 0 where it is absent
abbrev pub offset_at : ℕ → ℕ → ℕ
offset_at before units = if units == 0 then 0 else before

-- how many units the areas take; more than an area can have count as one more
pub record IsLayout (parts : Parts) (layout : Layout) : Type 0 where
  pub chassis : layout.chassis ≡ min (units_of (chassis_body parts.chassis)) (most_units + 1)
  pub board : layout.board ≡ min (units_of (board_body parts.board)) (most_units + 1)
  pub product : layout.product ≡ min (units_of (product_body parts.product)) (most_units + 1)

-- an area would begin where no offset names it, or the record has too many bytes
abbrev pub is_long_layout : Layout → Bool
is_long_layout layout =
    nat_lt most_units (offset_at (1 + layout.chassis) layout.board) || nat_lt most_units (offset_at (1 + layout.chassis + layout.board) layout.product)
    || nat_lt longest_record (unit * (1 + layout.chassis + layout.board + layout.product))

-- the offsets of a header fit a byte
pub record HasOffsets (layout : Layout) : Type 0 where
  pub chassis : layout.chassis ≤ most_units
  pub board : layout.board ≤ most_units
  pub product : layout.product ≤ most_units
  pub board_at : offset_at (1 + layout.chassis) layout.board ≤ most_units
  pub product_at : offset_at (1 + layout.chassis + layout.board) layout.product ≤ most_units

-- a header without its checksum
abbrev pub header_start : Layout → List ℕ
header_start layout =
    format_version ∷ 0 ∷ offset_at 1 layout.chassis ∷ offset_at (1 + layout.chassis) layout.board
    ∷ offset_at (1 + layout.chassis + layout.board) layout.product ∷ 0 ∷ 0 ∷ []

-- the parts have a record of these sizes, and their texts can be written
pub record IsBuildable (parts : Parts) (layout : Layout) : Type 0 where
  pub offsets : HasOffsets layout
  pub chassis : layout.chassis ≡ units_of (chassis_body parts.chassis)
  pub board : layout.board ≡ units_of (board_body parts.board)
  pub product : layout.product ≡ units_of (product_body parts.product)
  pub chassis_writable : AreWritable (chassis_texts parts.chassis)
  pub board_writable : AreWritable (board_texts parts.board)
  pub product_writable : AreWritable (product_texts parts.product)
