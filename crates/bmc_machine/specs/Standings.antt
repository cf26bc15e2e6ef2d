-- What a history leaves at one moment: the configurations, and the FRUs that are present.
use Rattle.std.specs.Prelude.{ℕ, Bool, not, if◌then◌else◌, List, [], ◌∷◌, filter, Result, Ok, Err}
use Rattle.std.specs.List.{list_any}
use Rattle.std.specs.Ordering.{is_lt, is_eq}
use Rattle.bmc_base.specs.Places.{Place, place_cmp}
use Rattle.fru_area.specs.declared.field.Field.{Field}
use Rattle.fru_area.specs.declared.fault.FruFault.{FruFault}
use Rattle.fru_record.specs.Records.{record_of}
use Rattle.cfg_json.specs.Configs.{Config}

-- a FRU that is present: where it is, and the bytes of its record
pub record Fru : Type 0 where
  pub place : Place
  pub bytes : List ℕ

abbrev pub fields_in : Result (List Field) FruFault → List Field
fields_in (Ok fields) = fields
fields_in (Err rule) = []

-- the fields of a FRU, read from its bytes
abbrev pub fields_of : Fru → List Field
fields_of fru = fields_in (record_of fru.bytes)

abbrev pub is_at : Place → Fru → Bool
is_at place fru = is_eq (place_cmp place fru.place)

abbrev pub is_present : List Fru → Place → Bool
is_present frus place = list_any (is_at place) frus

-- with this FRU among them, by place
abbrev pub put : Fru → List Fru → List Fru
put fru [] = fru ∷ []
put fru (other ∷ frus) = if is_lt (place_cmp fru.place other.place) then fru ∷ other ∷ frus else other ∷ put fru frus

-- without the one at this place
abbrev pub without : Place → List Fru → List Fru
without place frus = filter (λ fru. not (is_at place fru)) frus

-- the configurations in the order in which they were accepted, the FRUs that are present by place, and whether any FRU was ever plugged
pub record Standing : Type 0 where
  pub configs : List Config
  pub frus : List Fru
  pub plugged : Bool
