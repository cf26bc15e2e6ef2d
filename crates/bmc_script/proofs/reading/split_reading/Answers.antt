use Rattle.std.proofs.Common.{◌≡◌, ◌≢◌, ◌-◌, ◌≤◌, sym, length, get_or, take, arith, rules}
use Rattle.std.specs.Prelude.{Some, None, pos, neg_ℤ}
use Rattle.bmc_script.specs.Readings.{reading_parts, EndsInDigits}
use Rattle.bmc_script.proofs.ReadingsLemmas.{plain_reading, minus_reading, no_reading}
use Rattle.bmc_script.proofs.reading.split_reading.Goals as goal

pub returns-in-32-2 : goal.returns-in-32-2
returns-in-32-2 c =
    let front = c.in_ok-front.front.now in
    let ends : EndsInDigits c.args.text.now front c.in_ok-front.number = search rules in
    let space : get_or front (length front - 2) 0 ≡ 32 = search rules in
    let minus : get_or front (length front - 1) 0 ≡ 45 = search rules in
    let is = minus_reading c.args.text.now front c.in_ok-front.number ends c.in-32-2.len_at_least space minus in
    search (is, rules)

pub returns-in-32 : goal.returns-in-32
returns-in-32 c =
    let front = c.in_ok-front.front.now in
    let ends : EndsInDigits c.args.text.now front c.in_ok-front.number = search rules in
    let some : 1 ≤ length front = search rules in
    let space : get_or front (length front - 1) 0 ≡ 32 = search rules in
    let is = plain_reading c.args.text.now front c.in_ok-front.number ends some space in
    search (is, rules)

pub returns-in_default : goal.returns-in_default
returns-in_default c =
    let front = c.in_ok-front.front.now in
    let ends : EndsInDigits c.args.text.now front c.in_ok-front.number = search rules in
    let no_space : 1 ≤ length front → get_or front (length front - 1) 0 ≢ 32 = search rules in
    let no_sign : 2 ≤ length front → get_or front (length front - 2) 0 ≡ 32 → get_or front (length front - 1) 0 ≢ 45 = search rules in
    sym (no_reading c.args.text.now front c.in_ok-front.number ends no_space no_sign)
