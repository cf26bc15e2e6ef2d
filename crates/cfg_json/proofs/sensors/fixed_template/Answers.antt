-- The decimal digits of a number are a template.
use Rattle.std.proofs.Common.{arith}
use Rattle.cfg_json.proofs.SensorsLemmas.{digits_read}
use Rattle.cfg_json.proofs.sensors.fixed_template.Goals as goal

pub returns-in_err-parse : goal.returns-in_err-parse
returns-in_err-parse c =
    absurd (digits_read c.args.number c.format.result.now c.in_err-parse.field-0.0 (omega arith) c.format.ensures.text c.in_err-parse.ensures)
