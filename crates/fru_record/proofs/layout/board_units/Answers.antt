use Rattle.std.proofs.Common.{[], ◌∷◌, ◌/◌, ◌%◌, refl}
use Rattle.fru_record.proofs.layout.board_units.Goals as goal

pub returns-in-Some : goal.returns-in-Some
returns-in-Some c =
    rw c.in-Some.is (c.area_units.ensures
    (0 ∷ c.in-Some.part.minutes % 256 ∷ c.in-Some.part.minutes / 256 % 256 ∷ c.in-Some.part.minutes / 65536 % 256 ∷ []) refl)
