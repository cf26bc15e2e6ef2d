-- The rows of stepwise controllers, one after another. Their settings that are read are valid, and reading one names no pattern.
use Rattle.std.proofs.Common.{◌≡◌, ◌∙◌, ◌≤◌, ◌<◌, ◌+◌, ℕ, suc, ℤ, pos, neg_ℤ, Bool, true, false, List, [], ◌∷◌, ◌++◌, length, map, take, get_or, nat_le}
use Rattle.std.proofs.Common.{Result, Ok, Err, if◌then◌else◌, ◌&&◌, refl, sym, ap, ap₂, subst, arith, codes}
use Rattle.std.specs.List.{All}
use Rattle.std.proofs.Math.ListN.{set, replicate}
use Rattle.std.proofs.Math.Seq.{take-append_seam}
use Rattle.std.proofs.lemmas.List.{take-take, length-map, length-take-le, map_more}
use Rattle.std.proofs.lemmas.List.Elements.{All-nil, All-cons, All-head, All-tail}
use Rattle.std.proofs.lemmas.Bool.{leb-true}
use Rattle.std.proofs.lemmas.Int.{ints}
use Rattle.bmc_base.specs.declared.milli.Milli.{Milli}
use Rattle.serde_json.specs.Data.{Data}
use Rattle.serde_json.specs.Find.{get}
use Rattle.serde_json.specs.View.{view}
use Rattle.serde_json.specs.declared.value.Value.{Value}
use Rattle.ctl_face.specs.Ranges.{IsMilli, IsRise, IsValidRow, IsValidStep}
use Rattle.ctl_face.specs.declared.setting.StepRow.{StepRow}
use Rattle.ctl_face.specs.declared.setting.StepSetting.{StepSetting}
use Rattle.cfg_json.specs.declared.config_fault.ConfigFault.{ConfigFault}
use Rattle.cfg_json.specs.declared.config_fault.ConfigFault.TheVariants.{OutOfRange}
use Rattle.cfg_json.specs.Values.{◌>>=◌, required, list_only, with_length, list_within, each, milli_within, any_milli, no_units}
use Rattle.cfg_json.specs.Stepwises.{most_rows, rows_of, in_milli, unused_row, twenty_rows, hysteresis_of, stepwise_of}
use Rattle.cfg_json.proofs.PartsLemmas.{NamesNoPattern, then_none, each_none, required_none, list_none, length_none, member_none, milli_none, any_none}
use Rattle.cfg_json.proofs.SensorsLemmas.{seam}
use Rattle.cfg_json.proofs.SettingsLemmas.{then_ok, milli_in, milli_or_in}

-- ---- rows, one after another

rows_size : (readings outputs : List Milli) → length outputs ≡ length readings → length (rows_of readings outputs) ≡ length readings
rows_size [] outputs same = refl
rows_size (reading ∷ readings) [] same = absurd (omega arith)
rows_size (reading ∷ readings) (output ∷ outputs) same = ap suc (rows_size readings outputs (omega arith))

rows_more : (readings outputs : List Milli) (reading output : Milli) → length outputs ≡ length readings
    → rows_of (readings ++ reading ∷ []) (outputs ++ output ∷ []) ≡ rows_of readings outputs ++ record { reading = reading; output = output } ∷ []
rows_more [] [] reading output same = refl
rows_more [] (first ∷ outputs) reading output same = absurd (omega arith)
rows_more (first ∷ readings) [] reading output same = absurd (omega arith)
rows_more (first ∷ readings) (other ∷ outputs) reading output same =
    ap (λ (rows : List StepRow). record { reading = first; output = other } ∷ rows) (rows_more readings outputs reading output (omega arith))

-- a row more stands in its slot
pub row_more : (rows : List StepRow) (readings outputs : List ℤ) (i : ℕ) (reading output : ℤ) → i < length readings → length readings ≤ 20
    → length outputs ≡ length readings → reading ≡ get_or readings i (pos 0) → output ≡ get_or outputs i (pos 0)
    → rows ≡ twenty_rows (rows_of (map in_milli (take i readings)) (map in_milli (take i outputs)))
    → set rows i (record { reading = record { 0 = reading }; output = record { 0 = output } })
    ≡ twenty_rows (rows_of (map in_milli (take (i + 1) readings)) (map in_milli (take (i + 1) outputs)))
row_more rows readings outputs i reading output less few same here there is =
    let row : StepRow = record { reading = record { 0 = reading }; output = record { 0 = output } } in
    let front : List StepRow = rows_of (map in_milli (take i readings)) (map in_milli (take i outputs)) in
    let some : length (map in_milli (take i readings)) ≡ i = length-map (take i readings) in_milli ∙ length-take-le i readings (omega arith) in
    let many : length (map in_milli (take i outputs)) ≡ i = length-map (take i outputs) in_milli ∙ length-take-le i outputs (omega arith) in
    let size : length front ≡ i = rows_size (map in_milli (take i readings)) (map in_milli (take i outputs)) (many ∙ sym some) ∙ some in
    let last : map in_milli (take (i + 1) readings) ≡ map in_milli (take i readings) ++ in_milli reading ∷ [] =
    map_more in_milli readings i (pos 0) less ∙ ap (λ (z : ℤ). map in_milli (take i readings) ++ in_milli z ∷ []) (sym here) in
    let final : map in_milli (take (i + 1) outputs) ≡ map in_milli (take i outputs) ++ in_milli output ∷ [] =
    map_more in_milli outputs i (pos 0) (omega arith) ∙ ap (λ (z : ℤ). map in_milli (take i outputs) ++ in_milli z ∷ []) (sym there) in
    let parts : rows_of (map in_milli (take (i + 1) readings)) (map in_milli (take (i + 1) outputs)) ≡ front ++ row ∷ [] =
    ap₂ (λ (readings outputs : List Milli). rows_of readings outputs) last final
    ∙ rows_more (map in_milli (take i readings)) (map in_milli (take i outputs)) (in_milli reading) (in_milli output) (many ∙ sym some) in
    sym (ap twenty_rows parts ∙ seam 20 20 front row unused_row (omega arith) (omega arith)
    ∙ ap₂ (λ (rows : List StepRow) (n : ℕ). set rows n row) (sym is) size)

-- ---- what is valid

-- elements that are read are as many as there are
pub each_size : {B : Type 0} (read : Data → Result B ConfigFault) (values : List Data) (out : List B) → each read values ≡ Ok out
    → length out ≡ length values
each_size read [] out e = let same : [] ≡ out = cc in ap length (sym same)
each_size read (value ∷ values) out e =
    let first = then_ok (read value) _ out e in
    let later = then_ok (each read values) _ out first.later in
    let same : first.value ∷ later.value ≡ out = cc (later.later) in
    ap length (sym same) ∙ ap suc (each_size read values later.value later.reads)

-- and something holds of each, if it holds of what is read
each_all : {B : Type 0} (Fact : B → Type 0) (read : Data → Result B ConfigFault) → ((value : Data) (x : B) → read value ≡ Ok x → Fact x)
    → (values : List Data) (out : List B) → each read values ≡ Ok out → All Fact out
each_all Fact read holds [] out e = let same : [] ≡ out = cc in subst (All Fact) same (All-nil Fact)
each_all Fact read holds (value ∷ values) out e =
    let first = then_ok (read value) _ out e in
    let later = then_ok (each read values) _ out first.later in
    let same : first.value ∷ later.value ≡ out = cc (later.later) in
    subst (All Fact) same (All-cons Fact first.value later.value (holds value first.value first.reads)
    (each_all Fact read holds values later.value later.reads))

-- how many elements a list has
pub record IsListed (least most : ℕ) (values : List Data) : Type 0 where
  pub some : least ≤ length values
  pub few : length values ≤ most

pub listed_is : (least most : ℕ) (value : Data) (out : List Data) → list_within least most value ≡ Ok out → IsListed least most out
listed_is least most value out e =
    let items = then_ok (list_only value) (with_length least most) out e in
    by items.value (nat_le least (length items.value)) (nat_le (length items.value) most) refl refl items.later
  where
    by : (items : List Data) (some few : Bool) → nat_le least (length items) ≡ some → nat_le (length items) most ≡ few
        → (if some && few then Ok items else Err OutOfRange) ≡ Ok out → IsListed least most out
    by items true true some few e =
        let same : items ≡ out = cc in
        subst (IsListed least most) same (record { some = leb-true least (length items) some; few = leb-true (length items) most few })
    by items true false some few e = absurd (cc)
    by items false few_is some few e = absurd (cc)

-- thousandths that are read are as many as those of a list that was asked for so many
pub same_size : (count : ℕ) (value : Data) (elements : List Value) (readings outputs : List ℤ) → count ≡ length readings
    → list_within count count value ≡ Ok (map view elements) → each any_milli (map view elements) ≡ Ok (map in_milli outputs)
    → length outputs ≡ length readings
same_size count value elements readings outputs counted listed read =
    let is = listed_is count count value (map view elements) listed in
    let size : length (map in_milli outputs) ≡ length (map view elements) = each_size any_milli (map view elements) (map in_milli outputs) read in
    omega (arith, counted, is.some, is.few, size, length-map outputs in_milli)

abbrev IsAny : Milli → Type 0
IsAny m = IsMilli m.0

any_in : (value : Data) (m : Milli) → any_milli value ≡ Ok m → IsAny m
any_in value m e = let is = milli_in (neg_ℤ (pos 1000000)) (pos 1000000) value m e in (is.low, is.high)

rows_valid : (readings outputs : List Milli) → All IsAny readings → All IsAny outputs → All IsValidRow (rows_of readings outputs)
rows_valid [] outputs all others = All-nil IsValidRow
rows_valid (reading ∷ readings) [] all others = All-nil IsValidRow
rows_valid (reading ∷ readings) (output ∷ outputs) all others =
    All-cons IsValidRow (record { reading = reading; output = output }) (rows_of readings outputs)
    (All-head IsAny reading readings all, All-head IsAny output outputs others)
    (rows_valid readings outputs (All-tail IsAny reading readings all) (All-tail IsAny output outputs others))

-- the slots at the front have the rows
in_use : (rows : List StepRow) → length rows ≤ 20 → take (length rows) (twenty_rows rows) ≡ rows
in_use rows few = take-take (length rows) 20 (rows ++ replicate 20 unused_row) few ∙ take-append_seam rows (replicate 20 unused_row)

hysteresis_in : (key : List ℕ) (members : Data) (m : Milli) → hysteresis_of key members ≡ Ok m → IsRise m.0
hysteresis_in key members m e =
    let is = milli_or_in (pos 0) (pos 1000000) (get key members) m (record { low = omega (arith, ints); high = omega (arith, ints) }) e in
    (is.low, is.high)

pub stepwise_valid : (members : Data) (setting : StepSetting) → stepwise_of members ≡ Ok setting → IsValidStep setting
stepwise_valid members setting e =
    let readings = then_ok (required (get (codes "Reading") members) >>= list_within 1 most_rows >>= each any_milli) _ setting e in
    let size = length readings.value in
    let listed = then_ok (required (get (codes "Reading") members) >>= list_within 1 most_rows) (each any_milli) readings.value readings.reads in
    let found = then_ok (required (get (codes "Reading") members)) (list_within 1 most_rows) listed.value listed.reads in
    let outputs = then_ok (required (get (codes "Output") members) >>= list_within size size >>= each any_milli) _ setting readings.later in
    let others = then_ok (required (get (codes "Output") members) >>= list_within size size) (each any_milli) outputs.value outputs.reads in
    let other = then_ok (required (get (codes "Output") members)) (list_within size size) others.value others.reads in
    let positive = then_ok (hysteresis_of (codes "PositiveHysteresis") members) _ setting outputs.later in
    let negative = then_ok (hysteresis_of (codes "NegativeHysteresis") members) _ setting positive.later in
    let is = listed_is 1 20 found.value listed.value found.later in
    let so_many : size ≡ length listed.value = each_size any_milli listed.value readings.value listed.later in
    let as_many = listed_is size size other.value others.value other.later in
    let counted : length outputs.value ≡ length others.value = each_size any_milli others.value outputs.value others.later in
    let rows : List StepRow = rows_of readings.value outputs.value in
    let rows_many : length rows ≡ size = rows_size readings.value outputs.value (omega (arith, as_many.some, as_many.few, counted)) in
    let valid : All IsValidRow rows = rows_valid readings.value outputs.value (each_all IsAny any_milli any_in listed.value readings.value listed.later)
    (each_all IsAny any_milli any_in others.value outputs.value others.later) in
    let used : take size (twenty_rows rows) ≡ rows =
    ap (λ (n : ℕ). take n (twenty_rows rows)) (sym rows_many) ∙ in_use rows (omega (arith, is.few, so_many, rows_many)) in
    let read : StepSetting = record { rows = twenty_rows rows; count = size; positive = positive.value; negative = negative.value } in
    let same : read ≡ setting = cc (negative.later) in
    subst IsValidStep same (record {
      some_rows = omega (arith, is.some, so_many);
      few_rows = omega (arith, is.few, so_many);
      rows = subst (All IsValidRow) (sym used) valid;
      positive = hysteresis_in (codes "PositiveHysteresis") members positive.value positive.reads;
      negative = hysteresis_in (codes "NegativeHysteresis") members negative.value negative.reads;
    })

-- ---- no pattern is named

column_none : (least most : ℕ) (key : List ℕ) (members : Data)
    → NamesNoPattern (required (get key members) >>= list_within least most >>= each any_milli)
column_none least most key members =
    then_none (required (get key members) >>= list_within least most) _
    (then_none (required (get key members)) _ (required_none (get key members))
    (λ value. then_none (list_only value) _ (list_none value) (length_none least most))) (each_none any_milli any_none)

hysteresis_none : (key : List ℕ) (members : Data) → NamesNoPattern (hysteresis_of key members)
hysteresis_none key members = member_none no_units (milli_within (pos 0) (pos 1000000)) (milli_none (pos 0) (pos 1000000)) (get key members)

pub step_setting_none : (members : Data) → NamesNoPattern (stepwise_of members)
step_setting_none members =
    then_none (required (get (codes "Reading") members) >>= list_within 1 most_rows >>= each any_milli) _
    (column_none 1 most_rows (codes "Reading") members) (λ readings.
    then_none (required (get (codes "Output") members) >>= list_within (length readings) (length readings) >>= each any_milli) _
    (column_none (length readings) (length readings) (codes "Output") members) (λ outputs.
    then_none (hysteresis_of (codes "PositiveHysteresis") members) _ (hysteresis_none (codes "PositiveHysteresis") members) (λ positive.
    then_none (hysteresis_of (codes "NegativeHysteresis") members) _ (hysteresis_none (codes "NegativeHysteresis") members) (λ negative. tt))))
