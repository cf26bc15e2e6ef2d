-- Names in a document, which are templates.
use Rattle.std.specs.Prelude.{ℕ, if◌then◌else◌, List, Result, Ok, Err}
use Rattle.serde_json.specs.Data.{Data}
use Rattle.tmpl.specs.Templates.{is_template, longest_template}
use Rattle.cfg_json.specs.declared.config_fault.ConfigFault.{ConfigFault}
use Rattle.cfg_json.specs.declared.config_fault.ConfigFault.TheVariants.{TemplateSyntax}
use Rattle.cfg_json.specs.Values.{◌>>=◌, text_only, with_length}

-- a template
abbrev pub template_only : List ℕ → Result (List ℕ) ConfigFault
template_only text = if is_template text then Ok text else Err TemplateSyntax

-- a name that is rendered: a template of 1 to 128 bytes
abbrev pub template_name : Data → Result (List ℕ) ConfigFault
template_name value = text_only value >>= with_length 1 longest_template >>= template_only
