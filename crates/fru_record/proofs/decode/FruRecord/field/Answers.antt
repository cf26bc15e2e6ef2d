use Rattle.std.proofs.Common.{sym, ap₂, ◌∙◌, List, ℕ}
use Rattle.fru_area.specs.declared.field.Field.{Field}
use Rattle.fru_record.specs.Lookups.{text_named}
use Rattle.fru_record.proofs.LookupsLemmas.{text_named-none}
use Rattle.fru_record.proofs.decode.FruRecord.field.Goals as goal

pub returns-in_err-read : goal.returns-in_err-read
returns-in_err-read c =
    rw c.from_residual.ensures (sym (text_named-none c.args.self.now c.args.name.now (rw c.self.view_is at c.self.invariant) c.in_err-read.ensures.none))

pub returns : goal.returns
returns c =
    c.text_named.ensures
    ∙ ap₂ (λ (fields : List Field) (name : List ℕ). text_named fields name) (c.as_slice-fields.ensures ∙ c.self.view_is) c.in_ok-read.ensures.found.1
