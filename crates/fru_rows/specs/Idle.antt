-- The FRUs of which nothing is known but their records.
use Rattle.std.specs.Prelude.{Bool, not, ◌&&◌, ◌==◌, List, length, filter}
use Rattle.probe_lang.specs.declared.rows.Entry.{Entry}

-- no pattern matches it, and it gives no channels
abbrev pub is_idle : Entry → Bool
is_idle entry = length entry.hits == 0 && length entry.channels == 0

-- those with hits or channels
abbrev pub busy : List Entry → List Entry
busy entries = filter (λ (entry : Entry). not (is_idle entry)) entries

-- the others
abbrev pub idle : List Entry → List Entry
idle entries = filter is_idle entries
