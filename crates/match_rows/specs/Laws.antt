-- An entry shows what a new look at its record shows.
use Rattle.std.specs.Prelude.{◌≡◌, List}
use Rattle.bmc_base.specs.Places.{Place}
use Rattle.fru_area.specs.declared.field.Field.{Field}
use Rattle.probe_lang.specs.Sights.{entry_sight}
use Rattle.cfg_json.specs.Configs.{Config}
use Rattle.match_rows.specs.Matching.{entry_of, sight_of}

abbrev pub EntryShowsRecord : Type 0
EntryShowsRecord = (configs : List Config) (place : Place) (fields : List Field)
    → entry_sight (entry_of configs place fields) ≡ sight_of configs place fields
