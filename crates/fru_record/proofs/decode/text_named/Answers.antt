use Rattle.std.proofs.Common.{Some, None, ap, ◌∙◌}
use Rattle.fru_area.specs.Names.{name_text}
use Rattle.fru_record.proofs.LookupsLemmas.{text_named-found}
use Rattle.fru_record.proofs.decode.text_named.Goals as goal

pub returns-in_err-field : goal.returns-in_err-field
returns-in_err-field c =
    rw c.from_residual.ensures (text_named-found c.args.fields.now (name_text c.args.name) None c.in_err-field.ensures)

pub returns : goal.returns
returns c =
    ap Some c.as_str.ensures.text ∙ text_named-found c.args.fields.now (name_text c.args.name) (Some c.in_ok-field.field.now) c.in_ok-field.ensures
