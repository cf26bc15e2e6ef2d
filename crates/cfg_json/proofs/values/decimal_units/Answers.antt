-- A decimal is between the bounds, or not.
use Rattle.std.proofs.Common.{◌∙◌, ap, sym, Bool, ℤ, Result, Ok, Err, if◌then◌else◌, SFits, w64, to_z, of_z, rules}
use Rattle.bmc_base.specs.declared.milli.Milli.{Milli}
use Rattle.cfg_json.specs.declared.config_fault.ConfigFault.{ConfigFault}
use Rattle.cfg_json.specs.declared.config_fault.ConfigFault.TheVariants.{OutOfRange}
use Rattle.cfg_json.proofs.UnitsLemmas.{decimal_where}
use Rattle.cfg_json.proofs.values.decimal_units.Goals as goal

-- what is answered of a decimal, by whether it is between the bounds
abbrev answer : Bool → ℤ → Result Milli ConfigFault
answer between value = if between then Ok (record { 0 = to_z w64 (of_z w64 value) }) else Err OutOfRange

pub returns-then-is_between : goal.returns-then-is_between
returns-then-is_between c =
    let fits : SFits w64 c.in-Some.thousandths = search rules in
    sym (decimal_where c.args.least c.args.most c.from.result c.from-2.result c.in-Some.thousandths c.args.text.now c.is_between.result
    c.ranges.least c.ranges.most fits c.from.ensures c.from-2.ensures (sym c.decimal.ensures ∙ c.in-Some.is) (sym c.is_between.ensures)
    ∙ ap (λ (between : Bool). answer between c.in-Some.thousandths) c.if-is_between.true)

pub returns-else-is_between : goal.returns-else-is_between
returns-else-is_between c =
    let fits : SFits w64 c.in-Some.thousandths = search rules in
    sym (decimal_where c.args.least c.args.most c.from.result c.from-2.result c.in-Some.thousandths c.args.text.now c.is_between.result
    c.ranges.least c.ranges.most fits c.from.ensures c.from-2.ensures (sym c.decimal.ensures ∙ c.in-Some.is) (sym c.is_between.ensures)
    ∙ ap (λ (between : Bool). answer between c.in-Some.thousandths) c.if-is_between.false)
