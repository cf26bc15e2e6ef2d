use Rattle.std.proofs.Common.{◌≡◌, ◌≤◌, ℕ, Bool, false, [], take, drop, length}
use Rattle.bmc_base.specs.Steps.{IsWithin}
use Rattle.found_set.specs.Marks.{is_marked, AreTrue}
use Rattle.found_set.specs.Found.{found_from}
use Rattle.found_set.specs.Earlier.{StillHold}
use Rattle.found_set.proofs.find.found_by.Given as goal

abbrev pub invariant-loop-i : goal.invariant-loop-i
invariant-loop-i g l = record {
  many : length l.found ≡ 256;
  told : (test : ℕ → ℕ → Bool) → AreTrue l.marks test → StillHold l.earlier.found l.earlier.touched l.rules test
      → found_from l.rules (drop l.i l.rules) test (take l.i l.found) ≡ found_from l.rules l.rules test [];
  none : (n : ℕ) → l.i ≤ n → is_marked l.found n ≡ false;
  same : l.has_changed ≡ false → take l.i l.found ≡ take l.i l.earlier.found;
  counted : IsWithin l.fn.steps l.steps l.i;
}
