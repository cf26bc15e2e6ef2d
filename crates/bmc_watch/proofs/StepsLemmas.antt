-- What each kind of step leaves.
use Rattle.std.proofs.Common.{◌≡◌, ℕ, List, [], ◌∷◌, ◌++◌, map, length, Bool, true, false, not, cond, Option, Some, None, Ok, Err, refl, ap, ap₂, sym, ◌∙◌}
use Rattle.std.specs.Prelude.{Result, nat_le, is_some, ◌||◌}
use Rattle.std.specs.Ordering.{is_lt, is_eq}
use Rattle.std.proofs.lemmas.List.{length-map}
use Rattle.bmc_base.specs.Places.{Place, place_cmp}
use Rattle.fru_area.specs.Readings.{GivesFault}
use Rattle.fru_area.specs.declared.field.Field.{Field}
use Rattle.fru_area.specs.declared.fault.FruFault.{FruFault}
use Rattle.fru_area.specs.declared.fault.FruFault.TheVariants as rules
use Rattle.fru_record.specs.Records.{record_of}
use Rattle.probe_lang.specs.Presents.{with_entry, without_entry, holds_place}
use Rattle.probe_lang.specs.declared.rows.Entry.{Entry}
use Rattle.cfg_json.specs.Configs.{Config}
use Rattle.cfg_json.specs.Shelves.{number_of, most_configs}
use Rattle.match_rows.specs.Matching.{entry_of}
use Rattle.bmc_report.specs.declared.refusal.Refusal.{Refusal}
use Rattle.bmc_report.specs.declared.refusal.Refusal.TheVariants.{ConfigAfterPlug, DuplicateName, ConfigLimit, Occupied, FruLimit, NotPresent}
use Rattle.bmc_machine.specs.Standings.{Fru, fields_in, put, without, is_present}
use Rattle.bmc_machine.specs.Histories.{Step, Configure, Plug, Unplug, after_step, standing}
use Rattle.bmc_machine.specs.Refusals.{record_refusal, plug_refusal, most_frus, refusal_by_limit, ◌or_else◌, refusal_after}
use Rattle.bmc_watch.specs.Watches.{WatchView, fru_entry, view_refusal, WatchStands, Moves}
use Rattle.bmc_watch.specs.Steps.{AddsFru, AddsUnless, with_fru, RemovesFru, Tries}
use Rattle.bmc_watch.proofs.WatchesLemmas.{limit_is, accepted, refused}

-- ---- FRUs and their entries

present_is : (configs : List Config) (frus : List Fru) (place : Place) → holds_place (map (fru_entry configs) frus) place ≡ is_present frus place
present_is configs [] place = refl
present_is configs (fru ∷ frus) place = ap (λ (later : Bool). is_eq (place_cmp place fru.place) || later) (present_is configs frus place)

put_is : (configs : List Config) (fru : Fru) (frus : List Fru)
    → with_entry (fru_entry configs fru) (map (fru_entry configs) frus) ≡ map (fru_entry configs) (put fru frus)
put_is configs fru [] = refl
put_is configs fru (other ∷ frus) = by (is_lt (place_cmp fru.place other.place)) (put_is configs fru frus)
  where
    by : (is_before : Bool) → with_entry (fru_entry configs fru) (map (fru_entry configs) frus) ≡ map (fru_entry configs) (put fru frus)
        → cond is_before (fru_entry configs fru ∷ fru_entry configs other ∷ map (fru_entry configs) frus)
        (fru_entry configs other ∷ with_entry (fru_entry configs fru) (map (fru_entry configs) frus))
        ≡ map (fru_entry configs) (cond is_before (fru ∷ other ∷ frus) (other ∷ put fru frus))
    by true rest = refl
    by false rest = ap (λ (entries : List Entry). fru_entry configs other ∷ entries) rest

without_is : (configs : List Config) (place : Place) (frus : List Fru)
    → without_entry place (map (fru_entry configs) frus) ≡ map (fru_entry configs) (without place frus)
without_is configs place [] = refl
without_is configs place (fru ∷ frus) = by (is_eq (place_cmp place fru.place)) (without_is configs place frus)
  where
    by : (is_here : Bool) → without_entry place (map (fru_entry configs) frus) ≡ map (fru_entry configs) (without place frus)
        → cond (not is_here) (fru_entry configs fru ∷ without_entry place (map (fru_entry configs) frus)) (without_entry place (map (fru_entry configs) frus))
        ≡ map (fru_entry configs) (cond (not is_here) (fru ∷ without place frus) (without place frus))
    by true rest = rest
    by false rest = ap (λ (entries : List Entry). fru_entry configs fru ∷ entries) rest

-- whether a FRU is present, by what is known
is_known : (view : WatchView) (past : List Step) (place : Place) (held : Bool) → WatchStands view past → holds_place view.entries place ≡ held
    → is_present (standing past).frus place ≡ held
is_known view past place held stood is =
    sym (ap (λ (entries : List Entry). holds_place entries place) stood.entries
    ∙ present_is (standing past).configs (standing past).frus place) ∙ is

-- ---- plugs

-- whether no more FRUs may come
abbrev is_full : List Step → Bool
is_full past = nat_le most_frus (length (standing past).frus)

-- the refusal by a limit that the boards would pass after a plug
abbrev over : List Step → Place → List ℕ → Option Refusal
over past place bytes = refusal_by_limit (after_step (standing past) (Plug place bytes))

abbrev refused_bytes : List Step → Place → List ℕ → Option Refusal
refused_bytes past place bytes = plug_refusal (is_full past) (record_of bytes) or_else over past place bytes

-- a place that is held is refused
pub occupied : (old new : WatchView) (place : Place) (bytes : List ℕ) → holds_place old.entries place ≡ true → new ≡ record old { changes = [] }
    → Tries old (Plug place bytes) (Some Occupied) new
occupied old new place bytes held left =
    refused old new (Plug place bytes) Occupied
    (λ past stood. ap (λ (there : Bool). cond there (Some Occupied) (refused_bytes past place bytes)) (is_known old past place true stood held)) left

-- a fault that is a rule's is what reading gives
pub breaks_by : {X : Type 0} (rule : FruFault) (refusal : Refusal) (read : Result X FruFault) → record_refusal rule ≡ Some refusal → GivesFault rule read
    → read ≡ Err rule
breaks_by rules.OutOfMemory refusal read is gives = absurd (cc)
breaks_by rules.FruShort refusal read is gives = gives
breaks_by rules.FruTooLong refusal read is gives = gives
breaks_by rules.HeaderVersion refusal read is gives = gives
breaks_by rules.HeaderChecksum refusal read is gives = gives
breaks_by (rules.AreaOutside area) refusal read is gives = gives
breaks_by (rules.AreaVersion area) refusal read is gives = gives
breaks_by (rules.AreaLength area) refusal read is gives = gives
breaks_by (rules.AreaChecksum area) refusal read is gives = gives
breaks_by (rules.FieldOutside area) refusal read is gives = gives
breaks_by (rules.NoEnd area) refusal read is gives = gives

-- bytes that break a rule are refused by it
pub broken : (old new : WatchView) (place : Place) (bytes : List ℕ) (rule : FruFault) (refusal : Refusal) → holds_place old.entries place ≡ false
    → GivesFault rule (record_of bytes) → record_refusal rule ≡ Some refusal → new ≡ record old { changes = [] }
    → Tries old (Plug place bytes) (Some refusal) new
broken old new place bytes rule refusal free breaks is left =
    refused old new (Plug place bytes) refusal
    (λ past stood. ap (λ (there : Bool). cond there (Some Occupied) (refused_bytes past place bytes)) (is_known old past place false stood free)
    ∙ ap (λ (first : Option Refusal). first or_else over past place bytes)
    (ap (plug_refusal (is_full past)) (breaks_by rule refusal (record_of bytes) is breaks) ∙ is)) left

-- as many FRUs are known as stand
known_full : (view : WatchView) (past : List Step) (full : Bool) → WatchStands view past → nat_le most_frus (length view.entries) ≡ full → is_full past ≡ full
known_full view past full stood is =
    ap (nat_le most_frus) (sym (ap (λ (entries : List Entry). length entries) stood.entries
    ∙ length-map (standing past).frus (fru_entry (standing past).configs))) ∙ is

-- no more FRUs may come
pub frus_full : (old new : WatchView) (place : Place) (bytes : List ℕ) (fields : List Field) → holds_place old.entries place ≡ false
    → record_of bytes ≡ Ok fields → nat_le most_frus (length old.entries) ≡ true → new ≡ record old { changes = [] }
    → Tries old (Plug place bytes) (Some FruLimit) new
frus_full old new place bytes fields free whole full left =
    refused old new (Plug place bytes) FruLimit
    (λ past stood. ap (λ (there : Bool). cond there (Some Occupied) (refused_bytes past place bytes)) (is_known old past place false stood free)
    ∙ ap (λ (first : Option Refusal). first or_else over past place bytes)
    (ap (plug_refusal (is_full past)) whole ∙ ap (λ (full : Bool). plug_refusal full (Ok fields)) (known_full old past true stood full))) left

-- what is known with a FRU whose record is whole
known_with : (old : WatchView) (past : List Step) (place : Place) (bytes : List ℕ) (fields : List Field) → WatchStands old past → record_of bytes ≡ Ok fields
    → with_entry (entry_of old.configs place fields) old.entries
    ≡ map (fru_entry (standing past).configs) (put (record { place = place; bytes = bytes }) (standing past).frus)
known_with old past place bytes fields stood whole =
    ap (λ (configs : List Config). with_entry (entry_of configs place fields) old.entries) stood.configs
    ∙ ap (λ (entries : List Entry). with_entry (entry_of (standing past).configs place fields) entries) stood.entries
    ∙ ap (λ (read : Result (List Field) FruFault). with_entry (entry_of (standing past).configs place (fields_in read))
    (map (fru_entry (standing past).configs) (standing past).frus)) (sym whole)
    ∙ put_is (standing past).configs (record { place = place; bytes = bytes }) (standing past).frus

-- a FRU whose record is whole is refused by a limit alone
by_limit : (old : WatchView) (past : List Step) (place : Place) (bytes : List ℕ) (fields : List Field) → WatchStands old past
    → holds_place old.entries place ≡ false
    → record_of bytes ≡ Ok fields → nat_le most_frus (length old.entries) ≡ false
    → refusal_after past (Plug place bytes) ≡ over past place bytes
by_limit old past place bytes fields stood free whole room =
    ap (λ (there : Bool). cond there (Some Occupied) (refused_bytes past place bytes)) (is_known old past place false stood free)
    ∙ ap (λ (first : Option Refusal). first or_else over past place bytes)
    (ap (plug_refusal (is_full past)) whole ∙ ap (λ (full : Bool). plug_refusal full (Ok fields)) (known_full old past false stood room))

-- a FRU is added whose record is whole
plugged : (old new : WatchView) (place : Place) (bytes : List ℕ) (fields : List Field) → holds_place old.entries place ≡ false
    → record_of bytes ≡ Ok fields → nat_le most_frus (length old.entries) ≡ false → AddsFru place fields old new → Tries old (Plug place bytes) None new
unfolding standing
plugged old new place bytes fields free whole room adds = record {
  tried = λ past stood.
      let configs = adds.configs ∙ stood.configs in
      let entries = adds.entries ∙ known_with old past place bytes fields stood whole in
      let reason : refusal_after past (Plug place bytes) ≡ None =
      by_limit old past place bytes fields stood free whole room
      ∙ limit_is new (after_step (standing past) (Plug place bytes)) configs entries ∙ adds.fits in
      accepted old new past (Plug place bytes) stood reason reason (λ name tick. refl) refl configs entries adds.plugged adds.moves;
  left = tt;
}

-- or its boards would pass a limit
over_limit : (old new : WatchView) (place : Place) (bytes : List ℕ) (fields : List Field) (refusal : Refusal) → holds_place old.entries place ≡ false
    → record_of bytes ≡ Ok fields → nat_le most_frus (length old.entries) ≡ false → view_refusal (with_fru old place fields) ≡ Some refusal
    → new ≡ record old { changes = [] } → Tries old (Plug place bytes) (Some refusal) new
over_limit old new place bytes fields refusal free whole room is left =
    refused old new (Plug place bytes) refusal
    (λ past stood. by_limit old past place bytes fields stood free whole room
    ∙ limit_is (with_fru old place fields) (after_step (standing past) (Plug place bytes)) stood.configs
    (known_with old past place bytes fields stood whole) ∙ is) left

pub plugged_unless : (refusal : Option Refusal) (old new : WatchView) (place : Place) (bytes : List ℕ) (fields : List Field)
    → holds_place old.entries place ≡ false → record_of bytes ≡ Ok fields → nat_le most_frus (length old.entries) ≡ false
    → AddsUnless refusal place fields old new → Tries old (Plug place bytes) refusal new
plugged_unless None old new place bytes fields free whole room adds = plugged old new place bytes fields free whole room adds
plugged_unless (Some refusal) old new place bytes fields free whole room tries =
    over_limit old new place bytes fields refusal free whole room tries.0 tries.1

-- ---- unplugs

-- a place that is free is refused
pub not_present : (old new : WatchView) (place : Place) → holds_place old.entries place ≡ false → new ≡ record old { changes = [] }
    → Tries old (Unplug place) (Some NotPresent) new
not_present old new place free left =
    refused old new (Unplug place) NotPresent
    (λ past stood. ap (λ (there : Bool). cond there None (Some NotPresent)) (is_known old past place false stood free)) left

pub unplugged : (old new : WatchView) (place : Place) → holds_place old.entries place ≡ true → RemovesFru place old new → Tries old (Unplug place) None new
unfolding standing
unplugged old new place held removes = record {
  tried = λ past stood.
      let reason : refusal_after past (Unplug place) ≡ None =
      ap (λ (there : Bool). cond there None (Some NotPresent)) (is_known old past place true stood held) in
      accepted old new past (Unplug place) stood reason reason (λ name tick. refl) refl (removes.configs ∙ stood.configs)
      (removes.entries ∙ ap (without_entry place) stood.entries ∙ without_is (standing past).configs place (standing past).frus)
      (removes.plugged ∙ stood.plugged) removes.moves;
  left = tt;
}

-- ---- configurations

-- why a configuration is refused where this stands
abbrev by_tests : Bool → Bool → Bool → Option Refusal → Option Refusal
by_tests after_plug duplicate full limit =
    cond after_plug (Some ConfigAfterPlug) (cond duplicate (Some DuplicateName) (cond full (Some ConfigLimit) limit))

-- the refusal by a limit that the boards would pass with one more
abbrev over_with : List Step → Config → Option Refusal
over_with past config = refusal_by_limit (after_step (standing past) (Configure config))

tests_are : (view : WatchView) (past : List Step) (config : Config) → WatchStands view past
    → refusal_after past (Configure config)
    ≡ by_tests view.plugged (is_some (number_of view.configs config.name)) (nat_le most_configs (length view.configs))
    (over_with past config)
tests_are view past config stood =
    ap₂ (λ (plugged : Bool) (configs : List Config). by_tests plugged (is_some (number_of configs config.name)) (nat_le most_configs (length configs))
    (over_with past config)) (sym stood.plugged) (sym stood.configs)

pub after_plug : (old new : WatchView) (config : Config) → old.plugged ≡ true → new ≡ record old { changes = [] }
    → Tries old (Configure config) (Some ConfigAfterPlug) new
after_plug old new config is left =
    refused old new (Configure config) ConfigAfterPlug
    (λ past stood. tests_are old past config stood
    ∙ ap (λ (test : Bool). by_tests test (is_some (number_of old.configs config.name)) (nat_le most_configs (length old.configs))
    (over_with past config)) is) left

pub duplicate : (old new : WatchView) (config : Config) → old.plugged ≡ false → is_some (number_of old.configs config.name) ≡ true
    → new ≡ record old { changes = [] } → Tries old (Configure config) (Some DuplicateName) new
duplicate old new config is_new has left =
    refused old new (Configure config) DuplicateName
    (λ past stood. tests_are old past config stood ∙ ap₂ (λ (plugged named : Bool). by_tests plugged named
    (nat_le most_configs (length old.configs)) (over_with past config)) is_new has)
    left

pub full : (old new : WatchView) (config : Config) → old.plugged ≡ false → is_some (number_of old.configs config.name) ≡ false
    → nat_le most_configs (length old.configs) ≡ true → new ≡ record old { changes = [] } → Tries old (Configure config) (Some ConfigLimit) new
full old new config is_new other many left =
    refused old new (Configure config) ConfigLimit
    (λ past stood. tests_are old past config stood
    ∙ ap₂ (λ (plugged named : Bool). by_tests plugged named (nat_le most_configs (length old.configs)) (over_with past config)) is_new other
    ∙ ap (λ (full : Bool). by_tests false false full (over_with past config)) many) left

no_frus : (configs : List Config) (frus : List Fru) (entries : List Entry) → entries ≡ [] → entries ≡ map (fru_entry configs) frus → frus ≡ []
no_frus configs [] entries none same = refl
no_frus configs (fru ∷ frus) entries none same = absurd (let no = sym none ∙ same in cc)

-- a configuration that comes before any FRU is refused by a limit alone
config_by_limit : (old : WatchView) (past : List Step) (config : Config) → WatchStands old past → old.plugged ≡ false → number_of old.configs config.name ≡ None
    → nat_le most_configs (length old.configs) ≡ false → refusal_after past (Configure config) ≡ over_with past config
config_by_limit old past config stood never other few =
    tests_are old past config stood
    ∙ ap₂ (λ (plugged named : Bool). by_tests plugged named (nat_le most_configs (length old.configs)) (over_with past config)) never (ap is_some other)
    ∙ ap (λ (full : Bool). by_tests false false full (over_with past config)) few

-- no FRU is known with one more either
none_with : (old : WatchView) (past : List Step) (config : Config) → WatchStands old past → old.entries ≡ []
    → old.entries ≡ map (fru_entry ((standing past).configs ++ config ∷ [])) (standing past).frus
none_with old past config stood none =
    none ∙ sym (ap (map (fru_entry ((standing past).configs ++ config ∷ [])))
    (no_frus (standing past).configs (standing past).frus old.entries none stood.entries))

-- a configuration is accepted while no FRU is present
pub configured : (old new : WatchView) (config : Config) → old.plugged ≡ false → old.entries ≡ [] → number_of old.configs config.name ≡ None
    → nat_le most_configs (length old.configs) ≡ false → new.configs ≡ old.configs ++ config ∷ [] → new.entries ≡ old.entries → new.plugged ≡ old.plugged
    → view_refusal new ≡ None → Moves old new → Tries old (Configure config) None new
unfolding standing
configured old new config never none other few configs entries same fits moves = record {
  tried = λ past stood.
      let configs_are = configs ∙ ap (λ (configs : List Config). configs ++ config ∷ []) stood.configs in
      let entries_are = entries ∙ none_with old past config stood none in
      let reason : refusal_after past (Configure config) ≡ None =
      config_by_limit old past config stood never other few
      ∙ limit_is new (after_step (standing past) (Configure config)) configs_are entries_are ∙ fits in
      accepted old new past (Configure config) stood reason reason (λ name tick. refl) refl configs_are entries_are (same ∙ stood.plugged) moves;
  left = tt;
}

-- or the boards would pass a limit with it
pub config_over_limit : (old new : WatchView) (config : Config) (refusal : Refusal) → old.plugged ≡ false → old.entries ≡ []
    → number_of old.configs config.name ≡ None → nat_le most_configs (length old.configs) ≡ false
    → view_refusal (record old { configs = old.configs ++ config ∷ [] }) ≡ Some refusal → new ≡ record old { changes = [] }
    → Tries old (Configure config) (Some refusal) new
config_over_limit old new config refusal never none other few is left =
    refused old new (Configure config) refusal
    (λ past stood. config_by_limit old past config stood never other few
    ∙ limit_is (record old { configs = old.configs ++ config ∷ [] }) (after_step (standing past) (Configure config))
    (ap (λ (configs : List Config). configs ++ config ∷ []) stood.configs) (none_with old past config stood none) ∙ is) left
