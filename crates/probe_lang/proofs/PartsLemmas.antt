-- The compiled members of a pattern.
use Rattle.std.proofs.Common.{◌≡◌, ℕ, false, List, refl, sym, subst}
use Rattle.fru_area.specs.declared.field.Field.{Field}
use Rattle.fru_record.specs.Lookups.{AreNamed}
use Rattle.fru_record.proofs.LookupsLemmas.{text_named-none}
use Rattle.bmc_base.specs.Places.{Place}
use Rattle.probe_lang.specs.Matches.{text_at, is_wanted, member_matches}
use Rattle.probe_lang.specs.Parts.{key_text, IsKey, NamesNoPart, NamesNoField}
use Rattle.probe_lang.specs.declared.key.Key.{Key}
use Rattle.probe_lang.specs.declared.key.Key.TheVariants.{Unknown}
use Rattle.probe_lang.specs.declared.pattern_text.Member.{Member}
use Rattle.probe_lang.specs.declared.pattern_text.Want.{Want}

nothing-fails : (want : Want) (place : Place) (fields : List Field) (text : List ℕ) → NamesNoPart text → NamesNoField text → AreNamed fields
    → is_wanted want (text_at place fields text) ≡ false
nothing-fails want place fields text no_part no_field named = rw (no_part.0, no_part.1, text_named-none fields text named no_field) refl

-- a member whose key names nothing matches no record
pub unknown-fails : (key : Key) (text : List ℕ) (want : Want) (member : Member) (place : Place) (fields : List Field)
    → record { key = key_text key; want = want } ≡ member → key ≡ Unknown text → IsKey key → AreNamed fields → member_matches place fields member ≡ false
unknown-fails key text want member place fields is unknown of_key named =
    let facts : IsKey (Unknown text) = subst IsKey unknown of_key in
    rw (sym is, unknown) (nothing-fails want place fields text facts.0 facts.1 named)
