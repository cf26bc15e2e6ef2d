-- The elements of a list whose length was checked.
use Rattle.std.proofs.Common.{Ok, Err}
use Rattle.cfg_json.proofs.FaultsLemmas.{list_passed_on}
use Rattle.cfg_json.proofs.ListsLemmas.{list_checked}
use Rattle.cfg_json.proofs.values.list.Goals as goal

pub returns-in_err-check_length-in-Array : goal.returns-in_err-check_length-in-Array
returns-in_err-check_length-in-Array c =
    list_passed_on c.in_err-check_length-in-Array.field-0.0 _ c.from_residual.result c.from_residual.ensures.1
    (list_checked c.args.least c.args.most c.args.value.now c.in-Array.items c.as_slice-items.result.now (Err c.in_err-check_length-in-Array.field-0.0)
    c.in-Array.is
    c.as_slice-items.ensures.value c.in_err-check_length-in-Array.ensures)

pub returns-in_ok-check_length-in-Array : goal.returns-in_ok-check_length-in-Array
returns-in_ok-check_length-in-Array c =
    list_checked c.args.least c.args.most c.args.value.now c.in-Array.items c.as_slice-items.result.now (Ok tt) c.in-Array.is
    c.as_slice-items.ensures.value c.in_ok-check_length-in-Array.ensures
