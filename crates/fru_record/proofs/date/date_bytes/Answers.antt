use Rattle.std.proofs.Common.{sym, arith}
use Rattle.jiff_core.proofs.CalendarLemmas.{days_in_month_bounds}
use Rattle.jiff.proofs.SpanFacts.{signed_arith}
use Rattle.fru_record.proofs.DatesLemmas.{date_text-written}
use Rattle.fru_record.proofs.date.date_bytes.Goals as goal

pub returns : goal.returns
returns c =
    rw (
      c.digit.ensures,
      c.digit-2.ensures,
      c.digit-3.ensures,
      c.digit-4.ensures,
      c.digit-5.ensures,
      c.digit-6.ensures,
      c.digit-7.ensures,
      c.digit-8.ensures,
      c.digit-9.ensures,
      c.digit-10.ensures,
      c.digit-11.ensures,
      c.digit-12.ensures,
    )
    (sym (date_text-written c.args.minutes _ _ _ c.args.date c.requires.short c.requires.same (omega (arith, signed_arith))
    (omega (arith, signed_arith)) (omega (arith, signed_arith, days_in_month_bounds c.args.date.year c.args.date.month))))
