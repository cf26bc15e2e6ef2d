-- What a call answers, against what reading gives.
use Rattle.std.specs.Prelude.{◌≡◌, ⊤, List, ◌++◌, Result, Ok, Err}
use Rattle.fru_area.specs.declared.fault.FruFault.{FruFault}
use Rattle.fru_area.specs.declared.fault.FruFault.TheVariants.{OutOfMemory}

-- want of memory says nothing of what is read; another fault is the one that reading gives
abbrev pub GivesFault : {X : Type 0} → FruFault → Result X FruFault → Type 0
GivesFault OutOfMemory read = ⊤
GivesFault fault read = read ≡ Err fault

-- the call answered what reading gives, unless memory ran out
abbrev pub Gives : {X : Type 0} → Result X FruFault → Result X FruFault → Type 0
Gives (Ok x) read = read ≡ Ok x
Gives (Err fault) read = GivesFault fault read

-- a result with what is seen of its value
abbrev pub seen : {X Y : Type 0} → (X → Y) → Result X FruFault → Result Y FruFault
seen view (Ok x) = Ok (view x)
seen view (Err fault) = Err fault

-- the call appended to a list what reading gives, unless memory ran out
abbrev pub Appends : {X : Type 0} → Result ⊤ FruFault → (old new : List X) → Result (List X) FruFault → Type 0
Appends (Ok done) old new read = seen (λ more. old ++ more) read ≡ Ok new
Appends (Err fault) old new read = GivesFault fault read

-- whether reading gives something, or its fault
abbrev pub checked : {X : Type 0} → Result X FruFault → Result ⊤ FruFault
checked (Ok x) = Ok tt
checked (Err fault) = Err fault
