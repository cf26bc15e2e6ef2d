use Rattle.std.proofs.Common.{ℕ, ◌<◌, ◌≤◌, ◌/◌, arith, ◌∙◌, FitsSigned, w64}
use Rattle.std.proofs.lemmas.Int.{to_z-of_z}
use Rattle.jiff.proofs.SpanFacts.{signed_arith, date_add-days, can_add-days}
use Rattle.fru_record.proofs.DatesLemmas.{IsEpochDay-later, IsDay-later}
use Rattle.fru_record.proofs.date.manufacture_date.Goals as goal

most_days : (minutes : ℕ) → minutes < 16777216 → minutes / 1440 ≤ 11650
most_days minutes h = omega arith

pub unwrap-requires : goal.unwrap-requires
unwrap-requires c =
    let most = most_days c.args.minutes c.requires in
    let fits : FitsSigned w64 c.from-days.result = omega (arith, signed_arith, c.from-days.ensures) in
    let only = simp to_z-of_z at c.days.ensures in
    c.checked_add.ensures.succeeds.1 ((can_add-days c.date.result c.from-days.result c.days.result only).1
    (IsEpochDay-later c.date.result _ c.from-days.result c.date.ensures c.from-days.ensures most))

pub returns : goal.returns
returns c =
    let most = most_days c.args.minutes c.requires in
    let fits : FitsSigned w64 c.from-days.result = omega (arith, signed_arith, c.from-days.ensures) in
    let only = simp to_z-of_z at c.days.ensures in
    let later = rw c.unwrap.ensures at c.checked_add.ensures.value in
    IsDay-later c.date.result c.unwrap.result c.args.minutes c.from-days.result c.requires c.date.ensures c.from-days.ensures
    (later ∙ date_add-days c.date.result c.from-days.result c.days.result only)
