-- Laws of what is found and reachable.
use Rattle.std.specs.Prelude.{ℕ, ◌≡◌, ◌≤◌, ◌<◌, ⊤, Bool, true, false, List, [], ◌∷◌, ◌++◌, length, Some}
use Rattle.probe_lang.specs.Sights.{Sight}
use Rattle.found_set.specs.declared.row.Row.{Row}
use Rattle.found_set.specs.Found.{Rule, number_of, is_named_found, is_reached, root_buses, facts}
use Rattle.found_set.specs.Rows.{row_sight, sights_of, is_idle}

-- the hits and channels of a row are those that are seen of its record
pub record IsKept (row : Row) (sight : Sight) : Type 0 where
  pub place : row.place ≡ sight.place
  pub matched : (config pattern : ℕ) → (row_sight row).matched config pattern ≡ sight.matched config pattern
  pub opened : (config bus : ℕ) → (row_sight row).opened config bus ≡ sight.opened config bus

abbrev pub AreKept : List Row → List Sight → Type 0
AreKept [] [] = ⊤
AreKept [] (sight ∷ sights) = ⊥
AreKept (row ∷ rows) [] = ⊥
AreKept (row ∷ rows) (sight ∷ sights) = IsKept row sight × AreKept rows sights

-- over what is kept, the facts are those of a scan of the records
abbrev pub KeptIsScan : Type 0
KeptIsScan = (rules : List Rule) (rows : List Row) (sights : List Sight) → AreKept rows sights → facts rules (sights_of rows) ≡ facts rules sights

-- an idle row changes no fact, wherever it is
abbrev pub IdleRow : Type 0
IdleRow = (rules : List Rule) (before after : List Row) (row : Row) → is_idle row ≡ true
    → facts rules (sights_of (before ++ row ∷ after)) ≡ facts rules (sights_of (before ++ after))

-- root buses are reachable, whatever is found
abbrev pub RootsAreReached : Type 0
RootsAreReached = (rules : List Rule) (sights : List Sight) (bus : ℕ) → bus < root_buses → is_reached rules sights bus ≡ true

-- FOUND of the own name is false, and of the name of a later configuration: those before alone have a mark
abbrev pub LaterIsNotFound : Type 0
LaterIsNotFound = (rules : List Rule) (before : List Bool) (name : List ℕ) (number : ℕ)
    → number_of rules name ≡ Some number → length before ≤ number → is_named_found rules before name ≡ false
