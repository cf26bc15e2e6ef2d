-- What a call answers, where what is read has been seen.
use Rattle.std.proofs.Common.{◌≡◌, List, [], ◌++◌, Result, Ok, Err, ap}
use Rattle.fru_area.specs.declared.fault.FruFault.{FruFault}
use Rattle.fru_area.specs.declared.fault.FruFault.TheVariants as faults
use Rattle.fru_area.specs.Readings.{GivesFault, seen}

gives_fault : {X : Type 0} (fault : FruFault) (read : Result X FruFault) → read ≡ Err fault → GivesFault fault read
gives_fault faults.OutOfMemory read is = tt
gives_fault faults.FruShort read is = is
gives_fault faults.FruTooLong read is = is
gives_fault faults.HeaderVersion read is = is
gives_fault faults.HeaderChecksum read is = is
gives_fault (faults.AreaOutside area) read is = is
gives_fault (faults.AreaVersion area) read is = is
gives_fault (faults.AreaLength area) read is = is
gives_fault (faults.AreaChecksum area) read is = is
gives_fault (faults.FieldOutside area) read is = is
gives_fault (faults.NoEnd area) read is = is

-- a fault of what is seen is one of what is read
pub GivesFault-seen :
    {X Y : Type 0} (view : X → Y) (read : Result X FruFault) (fault : FruFault) → seen view read ≡ Err fault → GivesFault fault read
GivesFault-seen view (Ok x) fault is = absurd (cc)
GivesFault-seen view (Err other) fault is = let same : other ≡ fault = cc in gives_fault fault (Err other) (ap Err same)

-- what is appended to no fields is what is read
pub read-appended :
    {X : Type 0} (read : Result (List X) FruFault) (old new : List X) → old ≡ [] → seen (λ more. old ++ more) read ≡ Ok new → read ≡ Ok new
read-appended (Ok more) old new none is = rw none at is
read-appended (Err fault) old new none is = absurd (cc)
