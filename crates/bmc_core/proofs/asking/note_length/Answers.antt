use Rattle.std.proofs.Common.{rules, arith, ◌≡◌, ◌<◌, List, ℕ, true, length, set, subst, sym}
use Rattle.bmc_report.specs.declared.change.Change.{Change}
use Rattle.bmc_report.specs.declared.change.Change.TheVariants as changes_of
use Rattle.bmc_report.specs.declared.live_kind.LiveKind.TheVariants as kinds
use Rattle.bmc_core.specs.Acting.{NotesLength}
use Rattle.bmc_core.proofs.AskingLemmas.{sensor_noted}
use Rattle.bmc_core.proofs.asking.note_length.Goals as goal

pub returns-in-Sensor : goal.returns-in-Sensor
returns-in-Sensor c =
    let lengths = c.args.lengths.now in
    let name = c.in-Item.name in
    let gone = c.in-Item.gone in
    let is : c.args.change.now ≡ changes_of.Item gone kinds.Sensor name = search rules in
    let within : length name < length lengths = omega (arith, c.told-lengths, c.as_str.ensures.limit) in
    subst (λ (change : Change). NotesLength lengths change (set lengths (length c.as_str.result.now) true)) (sym is)
    (subst (λ (text : List ℕ). NotesLength lengths (changes_of.Item gone kinds.Sensor name) (set lengths (length text) true)) (sym c.as_str.ensures.text)
    (sensor_noted lengths gone name within))
