use Rattle.std.proofs.Common.{◌≡◌, ◌<◌, ◌≤◌, ◌*◌, ◌+◌, ◌-◌, ◌^◌, true, false, length, get_or, take, arith, rules}
use Rattle.std.proofs.Math.Nat.{mul-le-mul}
use Rattle.std.proofs.lemmas.List.{length-take-le}
use Rattle.bmc_text.specs.Words.{is_digit, raw_digits}
use Rattle.bmc_script.proofs.ReadingsLemmas.{shorter, one_digit_more, unit_small, number_small, is_one, one_too_many, none_read}
use Rattle.bmc_script.proofs.reading.last_digits.Goals as goal

cut : (c : goal.After-from) → length (take (length c.loop-front.front.now - 1) c.loop-front.front.now) ≡ length c.loop-front.front.now - 1
cut c = length-take-le (length c.loop-front.front.now - 1) c.loop-front.front.now (omega arith)

few : (c : goal.After-from) → length c.args.text.now < length c.loop-front.front.now + raw_digits
few c = omega (arith, c.if-text-rest-gt-RAW_DIGITS.false, cut c, c.in-48-to-57.len_at_least)

small : (c : goal.After-from) → c.from.result ≤ 9
small c =
    let high : get_or c.loop-front.front.now (length c.loop-front.front.now - 1) 0 ≤ 57 = search rules in
    omega (arith, high, c.from.ensures)

unit_of : (c : goal.After-from) → c.loop-front.unit ≤ 10 ^ 17
unit_of c = unit_small c.args.text.now (length c.loop-front.front.now) c.loop-front.number c.loop-front.unit c.loop-front.invariant.read (few c)

product : (c : goal.After-from) → c.loop-front.unit * c.from.result ≤ 10 ^ 17 * 9
product c = mul-le-mul (unit_of c) (small c)

pub overflow_mul-number : goal.overflow_mul-number
overflow_mul-number c = omega (arith, product c)

pub overflow_add-number : goal.overflow_add-number
overflow_add-number c = omega (arith, product c, unit_of c, c.loop-front.invariant.read.below)

pub overflow_mul-unit : goal.overflow_mul-unit
overflow_mul-unit c = omega (arith, unit_of c)

pub loop-front-preserved : goal.loop-front-preserved
loop-front-preserved c = record {
  whole = shorter c.args.text.now c.loop-front.front.now c.loop-front.invariant.whole;
  read = one_digit_more c.args.text.now c.loop-front.front.now c.loop-front.number c.loop-front.unit c.from.result
      c.loop-front.invariant.whole c.loop-front.invariant.read c.in-48-to-57.len_at_least (few c)
      (is_one (get_or c.loop-front.front.now (length c.loop-front.front.now - 1) 0) (search rules) (search rules))
      c.from.ensures (small c);
}

pub returns-clause-below : goal.returns-clause-below
returns-clause-below c = number_small c.args.text.now (length c.loop-front.front.now) c.loop-front.number c.loop-front.unit c.loop-front.invariant.read

pub returns-then-text-rest-gt-RAW_DIGITS-clause-none : goal.returns-then-text-rest-gt-RAW_DIGITS-clause-none
returns-then-text-rest-gt-RAW_DIGITS-clause-none c none =
    let less : length (take (length c.loop-front.front.now - 1) c.loop-front.front.now) ≡ length c.loop-front.front.now - 1 =
    length-take-le (length c.loop-front.front.now - 1) c.loop-front.front.now (omega arith) in
    one_too_many c.args.text.now c.loop-front.front.now c.loop-front.number c.loop-front.unit c.loop-front.invariant.whole c.loop-front.invariant.read
    c.in-48-to-57.len_at_least
    (omega (arith, c.if-text-rest-gt-RAW_DIGITS.true, less, c.in-48-to-57.len_at_least))
    (is_one (get_or c.loop-front.front.now (length c.loop-front.front.now - 1) 0) (search rules) (search rules))

pub returns-then-front-text-clause-none : goal.returns-then-front-text-clause-none
returns-then-front-text-clause-none c none =
    none_read c.args.text.now c.loop-front.front.now c.loop-front.invariant.whole c.if-front-text.true (search rules)
