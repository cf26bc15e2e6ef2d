-- What a compiled pattern is made of.
use Rattle.std.specs.Prelude.{ℕ, List, ⊤}
use Rattle.pat_gate.specs.Plain.{IsPlain, written}
use Rattle.pat_gate.specs.declared.form.Form.{Form}
use Rattle.pat_gate.specs.declared.form.Form.TheVariants.{Plain, Regex}

-- the text of the pattern
abbrev pub form_text : Form → List ℕ
form_text (Plain plain) = written plain
form_text (Regex engine) = engine

-- the form is that text's: it is plain, or an engine keeps its own
abbrev pub IsForm : Form → Type 0
IsForm (Plain plain) = IsPlain plain
IsForm (Regex engine) = ⊤
