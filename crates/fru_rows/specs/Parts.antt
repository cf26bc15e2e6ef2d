-- Entries in two lists.
use Rattle.std.specs.Prelude.{◌≡◌, Bool, true, false, not, min, List, [], ◌∷◌}
use Rattle.std.specs.List.{list_all}
use Rattle.std.specs.Ordering.{is_lt}
use Rattle.bmc_base.specs.Places.{place_cmp}
use Rattle.probe_lang.specs.declared.rows.Entry.{Entry}
use Rattle.probe_lang.specs.Presents.{holds_place, with_entry, are_by_place}
use Rattle.match_rows.specs.Rows.{RowsView}
use Rattle.fru_rows.specs.Idle.{is_idle}

-- all entries of two lists, by place
abbrev pub joined : List Entry → List Entry → List Entry
joined [] others = others
joined (entry ∷ entries) others = with_entry entry (joined entries others)

-- both lists are by place, and no place is in both
pub record AreApart (entries others : List Entry) : Type 0 where
  pub order : are_by_place entries ≡ true
  pub order_others : are_by_place others ≡ true
  pub free : list_all (λ (entry : Entry). not (holds_place others entry.place)) entries ≡ true

-- one list has the busy entries, and the other the idle ones
pub record AreSorted (entries others : List Entry) : Type 0 where
  pub apart : AreApart entries others
  pub all_busy : list_all (λ (entry : Entry). not (is_idle entry)) entries ≡ true
  pub all_idle : list_all is_idle others ≡ true

-- what is seen of two lists: all their entries, and room for so many more in either
abbrev pub rows_of : RowsView → RowsView → RowsView
rows_of rows others = record { entries = joined rows.entries others.entries; spare = min rows.spare others.spare }

-- whether an entry of the first list comes next
abbrev pub comes_first : List Entry → List Entry → Bool
comes_first [] others = false
comes_first (entry ∷ entries) [] = true
comes_first (entry ∷ entries) (other ∷ others) = is_lt (place_cmp entry.place other.place)
