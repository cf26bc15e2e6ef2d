-- What a field that was found says of the first field.
use Rattle.std.proofs.Common.{◌≡◌, ℕ, List, Option, Result, Ok, ap, sym, ◌∙◌}
use Rattle.fru_area.specs.declared.area.RawField.{RawField}
use Rattle.fru_area.specs.declared.fault.FruFault.{FruFault}
use Rattle.fru_area.specs.RawFields.{found_view}
use Rattle.fru_area.specs.Walks.{Raw}

pub first-found :
    (first : Result (Option (Raw × List ℕ)) FruFault) (found is : Option RawField) → Ok (found_view found) ≡ first → found ≡ is →
    first ≡ Ok (found_view is)
first-found first found is exact same = sym exact ∙ ap (λ o. Ok (found_view o)) same
