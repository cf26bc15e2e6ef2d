-- Ids that do not fall, after an entry more and after some are dropped.
use Rattle.std.proofs.Common.{ℕ, zero, suc, ◌-◌, ◌≤◌, Bool, true, false, cond, List, [], ◌∷◌, ◌++◌, length, drop, arith}
use Rattle.circular_buffer.specs.Buffer.{keep_last}
use Rattle.event_log.specs.declared.entry.Class.{Class}
use Rattle.event_log.specs.declared.entry.LogEntry.{LogEntry}
use Rattle.event_log.specs.Kept.{is_of}
use Rattle.event_log.specs.Rising.{IsRising}
use Rattle.event_log.specs.Updates.{class_with}

-- between wider bounds
pub rising_from : (low new high : ℕ) (entries : List LogEntry) → new ≤ low → IsRising low entries high → IsRising new entries high
rising_from low new high [] under rises = omega (arith, under, rises)
rising_from low new high (entry ∷ later) under rises = (omega (arith, under, rises.0), rises.1)

rising_to : (low high new : ℕ) (entries : List LogEntry) → high ≤ new → IsRising low entries high → IsRising low entries new
rising_to low high new [] over rises = omega (arith, over, rises)
rising_to low high new (entry ∷ later) over rises = (rises.0, rising_to entry.id high new later over rises.1)

-- an entry more
rising_push : (low high : ℕ) (entries : List LogEntry) (entry : LogEntry) → high ≤ entry.id → IsRising low entries high
    → IsRising low (entries ++ entry ∷ []) entry.id
rising_push low high [] entry over rises = (omega (arith, over, rises), omega arith)
rising_push low high (first ∷ later) entry over rises = (rises.0, rising_push first.id high later entry over rises.1)

-- some of the first dropped
pub rising_drop : (n low high : ℕ) (entries : List LogEntry) → IsRising low entries high → IsRising low (drop n entries) high
rising_drop zero low high entries rises = rises
rising_drop (suc n) low high [] rises = rises
rising_drop (suc n) low high (entry ∷ later) rises =
    rising_drop n low high later (rising_from entry.id low high later rises.0 rises.1)

-- the entries of a class, with one more
pub rising_with : (class : Class) (cap high : ℕ) (entries : List LogEntry) (entry : LogEntry) → high ≤ entry.id → IsRising 0 entries high
    → IsRising 0 (class_with class cap entries entry) entry.id
rising_with class cap high entries entry over rises = with_by (is_of class entry)
  where
    with_by : (is : Bool) → IsRising 0 (cond is (keep_last cap (entries ++ entry ∷ [])) entries) entry.id
    with_by true = rising_drop (length (entries ++ entry ∷ []) - cap) 0 entry.id _ (rising_push 0 high entries entry over rises)
    with_by false = rising_to 0 high entry.id entries over rises
