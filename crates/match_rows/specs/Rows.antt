-- The entries that are present, and room for more.
use Rattle.std.specs.Prelude.{ℕ, List}
use Rattle.std.specs.List.{prefix_len}
use Rattle.std.specs.Ordering.{is_lt}
use Rattle.bmc_base.specs.Places.{Place, place_cmp}
use Rattle.probe_lang.specs.declared.rows.Entry.{Entry}

-- entries, and room for so many more
pub record RowsView : Type 0 where
  pub entries : List Entry
  pub spare : ℕ

-- how many entries at the front come before a place
abbrev pub count_before : Place → List Entry → ℕ
count_before place entries = prefix_len (λ (entry : Entry). is_lt (place_cmp entry.place place)) entries
