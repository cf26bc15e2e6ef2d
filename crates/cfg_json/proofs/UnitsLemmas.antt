-- Decimals in thousandths, from so many units to so many.
use Rattle.std.proofs.Common.{◌≡◌, ◌∙◌, ℕ, ℤ, pos, ◌*ℤ◌, Bool, true, false, List, Some, Ok, Err, if◌then◌else◌, refl, sym, ap, arith, w32, w64}
use Rattle.std.proofs.Common.{to_z, of_z}
use Rattle.std.proofs.Common.{SFits}
use Rattle.std.proofs.lemmas.Int.{ints, to_z-of_z}
use Rattle.bmc_base.specs.declared.milli.Milli.{Milli}
use Rattle.bmc_text.specs.Words.{decimal_units}
use Rattle.cfg_json.specs.declared.config_fault.ConfigFault.TheVariants.{OutOfRange}
use Rattle.cfg_json.specs.Values.{◌>>=◌, is_between, decimal_units_within}

-- a bound in units, as the code has it in thousandths
milli_bound : (units from : ℤ) → SFits w32 units → from ≡ to_z w32 (of_z w32 units)
    → to_z w64 (of_z w64 (to_z w64 (of_z w64 from) *ℤ pos 1000)) ≡ units *ℤ pos 1000
milli_bound units from fits same =
    ap (λ (z : ℤ). to_z w64 (of_z w64 (to_z w64 (of_z w64 z) *ℤ pos 1000))) (same ∙ to_z-of_z w32 units fits) ∙ omega (arith, ints, fits)

-- a decimal that is read, by whether it is between the bounds
pub decimal_where : (least most from_least from_most value : ℤ) (text : List ℕ) (between : Bool) → SFits w32 least → SFits w32 most → SFits w64 value
    → from_least ≡ to_z w32 (of_z w32 least) → from_most ≡ to_z w32 (of_z w32 most) → decimal_units 3 text ≡ Some value
    → is_between (to_z w64 (of_z w64 (to_z w64 (of_z w64 from_least) *ℤ pos 1000))) (to_z w64 (of_z w64 (to_z w64 (of_z w64 from_most) *ℤ pos 1000)))
    (to_z w64 (of_z w64 value)) ≡ between
    → decimal_units_within least most text ≡ (if between then Ok (record { 0 = to_z w64 (of_z w64 value) }) else Err OutOfRange)
decimal_where least most from_least from_most value text between fits_least fits_most fits low high read is =
    let narrow : to_z w64 (of_z w64 value) ≡ value = to_z-of_z w64 value fits in
    let test : is_between (least *ℤ pos 1000) (most *ℤ pos 1000) value ≡ between =
    sym (λ i. is_between (milli_bound least from_least fits_least low i) (milli_bound most from_most fits_most high i) (narrow i)) ∙ is in
    rw (read, narrow, test) (by between)
  where
    by : (between : Bool)
        → ◌>>=◌ {B = Milli} (if between then Ok value else Err OutOfRange) (λ thousandths. Ok (record { 0 = thousandths }))
        ≡ (if between then Ok (record { 0 = value }) else Err OutOfRange)
    by true = refl
    by false = refl
