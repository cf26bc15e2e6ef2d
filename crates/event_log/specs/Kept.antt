-- Which entries a log keeps. The oldest is first.
use Rattle.std.specs.Prelude.{ℕ, nat_lt, Bool, true, false, if◌then◌else◌, List, [], ◌∷◌, filter, count_by}
use Rattle.event_log.specs.declared.entry.Class.{Class}
use Rattle.event_log.specs.declared.entry.Class.TheVariants.{Error, Info}
use Rattle.event_log.specs.declared.entry.LogEntry.{LogEntry}

-- whether two classes are the same
abbrev pub class_eq : Class → Class → Bool
class_eq Error Error = true
class_eq Error Info = false
class_eq Info Error = false
class_eq Info Info = true

-- whether an entry is of this class
abbrev pub is_of : Class → LogEntry → Bool
is_of class entry = class_eq class entry.class

-- the entries of this class
abbrev pub of_class : Class → List LogEntry → List LogEntry
of_class class entries = filter (is_of class) entries

-- how many errors may be kept at the most
abbrev pub most_errors : ℕ
most_errors = 1000

-- how many infos are kept
abbrev pub info_cap : ℕ
info_cap = 10

-- how many entries of a class are kept, where so many errors are
abbrev pub cap_of : ℕ → Class → ℕ
cap_of error_cap Error = error_cap
cap_of error_cap Info = info_cap

-- the entries with fewer later ones of their class than are kept of it
abbrev pub kept : ℕ → List LogEntry → List LogEntry
kept error_cap [] = []
kept error_cap (entry ∷ later) =
    if nat_lt (count_by (is_of entry.class) later) (cap_of error_cap entry.class) then entry ∷ kept error_cap later
    else kept error_cap later
