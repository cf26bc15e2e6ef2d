-- The command, as clap's definitions see it.
use Rattle.std.specs.Prelude.{true, Some, codes}
use Rattle.clap.specs.Words.{App, Rule, new_app, new_rule, with_rule}
use Rattle.clap.specs.Simple.{on_top}
use Rattle.clap.specs.declared.builder.action.ArgAction.TheVariants.{SetTrue, Append}
use Rattle.clap.specs.declared.builder.value_parser.ValueParser.TheVariants.{Unsigned}

-- `--strict`, a flag
abbrev pub strict : Rule
strict = record (new_rule (codes "strict")) { long = Some (codes "strict"); action = Some SetTrue }

-- `--log-cap N`, where N is a whole number from 1 to 1,000
abbrev pub log_cap : Rule
log_cap = record (new_rule (codes "log_cap")) { long = Some (codes "log-cap"); parser = Some (Unsigned 1 1000) }

-- `--sample N`, where N is a whole number from 0 to 2,147,483,647
abbrev pub sample : Rule
sample = record (new_rule (codes "sample")) { long = Some (codes "sample"); parser = Some (Unsigned 0 2147483647) }

-- any number of texts
abbrev pub config : Rule
config = record (new_rule (codes "config")) { action = Some Append }

-- a command without arguments, which reads the words after the program's name
abbrev pub bare_command : App
bare_command = on_top (λ shape. record shape { no_binary_name = true }) (new_app (codes "bmcreplay"))

-- the command, with these four arguments
abbrev pub bmcreplay : App
bmcreplay = with_rule (with_rule (with_rule (with_rule bare_command strict) log_cap) sample) config
