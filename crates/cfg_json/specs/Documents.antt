-- The configuration that a document gives, or its first broken rule.
use Rattle.std.specs.Prelude.{ℕ, ◌&&◌, if◌then◌else◌, List, codes, Option, Some, None, Result, Ok, Err}
use Rattle.std.specs.Str.{is_utf8}
use Rattle.std.specs.List.{list_any}
use Rattle.serde_json.specs.Read.{read}
use Rattle.serde_json.specs.Data.{Data}
use Rattle.serde_json.specs.Find.{get}
use Rattle.serde_json.specs.Written.{has_float}
use Rattle.probe_lang.specs.Grammar.{Parsed}
use Rattle.cfg_json.specs.Configs.{Config}
use Rattle.cfg_json.specs.Values.{◌>>=◌, required, object_only, short_text}
use Rattle.cfg_json.specs.Probes.{probe_in}
use Rattle.cfg_json.specs.Exposes.{exposes_of, has_moving}
use Rattle.cfg_json.specs.declared.expose.Expose.{Expose}
use Rattle.cfg_json.specs.declared.config_fault.ConfigFault.{ConfigFault}
use Rattle.cfg_json.specs.declared.config_fault.ConfigFault.TheVariants.{NotJson, Fraction, MuxMatchOne}

-- the parts of a configuration, in which a probe for one place alone goes with no channel that moves with the place
abbrev pub put_together : List ℕ → Parsed → List Expose → Result Config ConfigFault
put_together name parsed exposes =
    if parsed.0.match_one && list_any has_moving exposes then Err MuxMatchOne
    else Ok (record { name = name; probe = parsed.0; patterns = parsed.1; exposes = exposes })

-- the configuration of a document whose numbers are whole
unfoldable pub config_in : Data → Result Config ConfigFault
config_in document =
    object_only document >>= λ members.
    required (get (codes "Name") members) >>= short_text >>= λ name.
    required (get (codes "Probe") members) >>= probe_in >>= λ parsed.
    exposes_of (get (codes "Exposes") members) >>= λ exposes.
    put_together name parsed exposes

-- the configuration of a document that was read, or the first broken rule: a number that is no whole number of 64 bits
-- comes before all else
unfoldable pub config_of : Option Data → Result Config ConfigFault
config_of None = Err NotJson
config_of (Some document) = if has_float document then Err Fraction else config_in document

-- the document of bytes: a text in UTF-8 that the reader of JSON takes, nested to 127 at the most
abbrev pub document_of : List ℕ → Option Data
document_of bytes = if is_utf8 bytes then read bytes else None

-- the configuration of bytes, whatever a maker says of its patterns
abbrev pub config_read : List ℕ → Result Config ConfigFault
config_read bytes = config_of (document_of bytes)
