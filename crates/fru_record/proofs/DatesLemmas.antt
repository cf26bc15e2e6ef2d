-- Counted days of the civil calendar against day numbers, and the text of a date, digit by digit.
use Rattle.std.proofs.Common.{◌≡◌, ℕ, zero, suc, ◌+◌, ◌-◌, ◌/◌, ◌<◌, ◌≤◌, inl, inr, ℤ, pos, ◌+ℤ◌, refl, sym, ◌∙◌, arith, ◌%◌, List, [], ◌∷◌, ◌++◌}
use Rattle.std.proofs.Common.{map, ap, decimal}
use Rattle.std.proofs.lemmas.Bool.{cases_lt, cases_order, lt-ltb, le-ltb}
use Rattle.std.proofs.lemmas.Int.{by_lt_z}
use borrow.Author.Differences.{up, down}
use Rattle.jiff.proofs.SpanFacts.{signed_arith}
use Rattle.jiff_core.specs.Calendar.{days_in_year, days_in_month, day_count, IsCivilDate}
use Rattle.jiff_core.proofs.MarchLemmas.{day_count-early}
use Rattle.jiff_core.proofs.CalendarLemmas.{days_from_civil-day_count, day_count-lt_year, day_count-lt_month, day_count-day, day_count-next_month}
use Rattle.jiff_core.proofs.CalendarLemmas.{day_count-next_year, day_count-last_of_year, days_in_month_bounds}
use Rattle.jiff_core.specs.declared.civil.date.Date.{Date}
use Rattle.jiff.specs.Words.{epoch_day, IsEpochDay, IsYmd}
use Rattle.fru_record.specs.Dates.{Day, day_in_year, day_from, manufacture_day, date_text, IsDay}
use Rattle.std.specs.Int.Digits.{digits_of}
use Rattle.std.specs.Str.{IsAscii}
use Rattle.std.proofs.lemmas.Fmt.{decimal-digits_of}
use Rattle.std.proofs.lemmas.Int.Digits.{digits_of_step}
use Rattle.std.proofs.lemmas.Str.Ascii.{IsAscii-nil, IsAscii-cons}

-- the counted day is a date, and so many days lie before it
pub record IsCounted (day : Day) (count : ℕ) : Type 0 where
  pub civil : IsCivilDate (pos day.year) day.month day.day
  pub counted : day_count (pos day.year) day.month day.day ≡ count

in_month : (y m days n : ℕ) → y ≤ 9999 → 1 ≤ m → m ≤ 12 → days < days_in_month (pos y) m → day_count (pos y) m 1 + days ≡ n
    → IsCounted (record { year = y; month = m; day = days + 1 }) n
in_month y m days n year low high short e = record {
  civil = (omega (arith, signed_arith), (low, high), (omega arith, omega arith));
  counted = omega (arith, day_count-day (pos y) m (days + 1) 1 (omega arith) (omega arith));
}

last_month : (y m days : ℕ) → m ≡ 12 → day_count (pos y) m 1 + days < day_count (pos y) 1 1 + days_in_year (pos y) → days < days_in_month (pos y) m
last_month y m days e short = rw e (omega (arith, rw e at short, day_count-last_of_year (pos y), day_count-day (pos y) 12 31 1 (omega arith) (omega arith)))

IsCounted-in_year : (months y m days n : ℕ) → y ≤ 9999 → 1 ≤ m → m + months ≡ 12
    → day_count (pos y) m 1 + days < day_count (pos y) 1 1 + days_in_year (pos y) → day_count (pos y) m 1 + days ≡ n
    → IsCounted (day_in_year months y m days) n
IsCounted-in_year zero y m days n year low high short e = in_month y m days n year low (omega arith) (last_month y m days (omega arith) short) e
IsCounted-in_year (suc months) y m days n year low high short e =
    elim (cases_lt days (days_in_month (pos y) m)) [
      | inl lt ↦ rw (lt-ltb days (days_in_month (pos y) m) lt) (in_month y m days n year low (omega arith) lt e)
      | inr le ↦
          let next = day_count-next_month (pos y) m low in
          rw (le-ltb days (days_in_month (pos y) m) le) (IsCounted-in_year months y (m + 1) (days - days_in_month (pos y) m) n year (omega arith)
          (omega arith) (omega arith) (omega arith))
    ]

next_year : (y : ℕ) → day_count (pos (y + 1)) 1 1 ≡ day_count (pos y) 1 1 + days_in_year (pos y)
next_year y = day_count-next_year (pos y) (pos (y + 1)) (omega (arith, signed_arith)) (omega (arith, signed_arith))

IsCounted-from : (years y days n : ℕ) → y + years ≤ 9999 → day_count (pos y) 1 1 + days < day_count (pos (y + years + 1)) 1 1
    → day_count (pos y) 1 1 + days ≡ n → IsCounted (day_from years y days) n
IsCounted-from zero y days n year short e =
    let same : y + 0 + 1 ≡ y + 1 = omega arith in
    IsCounted-in_year 11 y 1 days n (omega arith) (omega arith) (omega arith) (omega (arith, rw same at short, next_year y)) e
IsCounted-from (suc years) y days n year short e =
    elim (cases_lt days (days_in_year (pos y))) [
      | inl lt ↦ rw (lt-ltb days (days_in_year (pos y)) lt) (IsCounted-in_year 11 y 1 days n (omega arith) (omega arith) (omega arith) (omega arith) e)
      | inr le ↦
          let same : y + suc years + 1 ≡ y + 1 + years + 1 = omega arith in
          let later = rw same at short in
          let next = next_year y in
          rw (le-ltb days (days_in_year (pos y)) le) (IsCounted-from years (y + 1) (days - days_in_year (pos y)) n (omega arith) (omega arith) (omega arith))
    ]

pub day_count-first_day : day_count (pos 1996) 1 1 ≡ 4_381_449
day_count-first_day = day_count-early (pos 1996) 11995 1 1 refl (omega arith) (omega arith) (omega arith)

day_count-last_year : day_count (pos 2037) 1 1 ≡ 4_396_425
day_count-last_year = day_count-early (pos 2037) 12036 1 1 refl (omega arith) (omega arith) (omega arith)

-- the day of a date that fits 24 bits
pub IsCounted-manufacture : (minutes : ℕ) → minutes < 16777216 → IsCounted (manufacture_day minutes) (4_381_449 + minutes / 1440)
unfolding manufacture_day
IsCounted-manufacture minutes h =
    IsCounted-from 40 1996 (minutes / 1440) _ (omega arith) (omega (arith, day_count-first_day, day_count-last_year))
    (omega (arith, day_count-first_day))

-- dates with as many days before them are the same
same_date : (y : ℤ) (m d : ℕ) (y₂ : ℤ) (m₂ d₂ : ℕ) → IsCivilDate y m d → IsCivilDate y₂ m₂ d₂ → day_count y m d ≡ day_count y₂ m₂ d₂
    → (y ≡ y₂) × (m ≡ m₂) × (d ≡ d₂)
same_date y m d y₂ m₂ d₂ a b e =
    by_lt_z y y₂ (λ lt. absurd (omega (arith, day_count-lt_year y m d y₂ m₂ d₂ a b.2.0 lt)))
    (λ ge. by_lt_z y₂ y (λ lt. absurd (omega (arith, day_count-lt_year y₂ m₂ d₂ y m d b a.2.0 lt)))
    (λ le. let year : y ≡ y₂ = omega (arith, signed_arith) in same_in_year y m d y₂ m₂ d₂ a b e year))
  where
    same_in_year : (y : ℤ) (m d : ℕ) (y₂ : ℤ) (m₂ d₂ : ℕ) → IsCivilDate y m d → IsCivilDate y₂ m₂ d₂ → day_count y m d ≡ day_count y₂ m₂ d₂ → y ≡ y₂
        → (y ≡ y₂) × (m ≡ m₂) × (d ≡ d₂)
    same_in_year y m d y₂ m₂ d₂ a b e year =
        let there = rw (sym year) at b in
        let counted = rw (sym year) at e in
        elim (cases_order m m₂) [
          | inl month ↦ (year, month, omega (arith, rw (sym month) at counted, day_count-day y m d d₂ a.2.0 b.2.0))
          | inr (inl lt) ↦ absurd (omega (arith, day_count-lt_month y m d m₂ d₂ a b.2.0 lt))
          | inr (inr lt) ↦ absurd (omega (arith, day_count-lt_month y m₂ d₂ m d there a.2.0 lt))
        ]

first_epoch_day : (first : Date) → IsYmd (pos 1996) (pos 1) (pos 1) first → (up (epoch_day first) ≡ 9496 + down (epoch_day first))
first_epoch_day first h =
    let month : first.month ≡ 1 = omega (arith, signed_arith, h.1) in
    let day : first.day ≡ 1 = omega (arith, signed_arith, h.2) in
    rw (h.0, month, day) (omega (arith, days_from_civil-day_count (pos 1996) 1 1, day_count-first_day))

-- such a day is in the library's range
pub IsEpochDay-later : (first : Date) (days : ℕ) (n : ℤ) → IsYmd (pos 1996) (pos 1) (pos 1) first → n ≡ pos days → days ≤ 11650
    → IsEpochDay (epoch_day first +ℤ n)
IsEpochDay-later first days n h e most = rw e (omega (arith, signed_arith, first_epoch_day first h))

-- and the date so many days later is the counted one
pub IsDay-later : (first found : Date) (minutes : ℕ) (n : ℤ) → minutes < 16777216 → IsYmd (pos 1996) (pos 1) (pos 1) first → n ≡ pos (minutes / 1440)
    → epoch_day found ≡ epoch_day first +ℤ n → IsDay (manufacture_day minutes) found
IsDay-later first found minutes n most h e later =
    let counted = IsCounted-manufacture minutes most in
    let place : day_count found.year found.month found.day ≡ 4_381_449 + minutes / 1440 =
    omega (arith, signed_arith, rw e at later, first_epoch_day first h, days_from_civil-day_count found.year found.month found.day) in
    let same = same_date found.year found.month found.day _ _ _ (found.year_in, found.month_in, found.day_in) counted.civil (place ∙ sym counted.counted) in
    record { year = same.0; month = same.1; day_of_month = same.2 }

digits-front : (n : ℕ) (front : List ℕ) → 0 < n → digits_of 10 (n / 10) ≡ front → digits_of 10 n ≡ front ++ n % 10 ∷ []
digits-front n front h e = digits_of_step 10 n (omega arith) h ∙ ap (λ (ds : List ℕ). ds ++ n % 10 ∷ []) e

digits-one : (n : ℕ) → 0 < n → n < 10 → digits_of 10 n ≡ n % 10 ∷ []
digits-one n h most =
    let none : n / 10 ≡ 0 = omega arith in
    digits-front n [] h (ap (digits_of 10) none)

decimal-four : (n : ℕ) → 1000 ≤ n → n < 10000 → decimal n ≡ (48 + n / 1000 % 10) ∷ (48 + n / 100 % 10) ∷ (48 + n / 10 % 10) ∷ (48 + n % 10) ∷ []
decimal-four n h most =
    let e2 : n / 10 / 10 ≡ n / 100 = omega arith in
    let e3 : n / 100 / 10 ≡ n / 1000 = omega arith in
    let d3 = digits-one (n / 1000) (omega arith) (omega arith) in
    let d2 = digits-front (n / 100) _ (omega arith) (ap (digits_of 10) e3 ∙ d3) in
    let d1 = digits-front (n / 10) _ (omega arith) (ap (digits_of 10) e2 ∙ d2) in
    let d0 = digits-front n _ (omega arith) d1 in
    decimal-digits_of n (omega arith) (omega arith) ∙ ap (map (λ d. 48 + d)) d0

-- a counted day has four digits of a year, and two of the others
abbrev pub Written : ℕ → ℕ → ℕ → ℕ → Type 0
Written minutes y m d = ((manufacture_day minutes).year ≡ y) × ((manufacture_day minutes).month ≡ m) × ((manufacture_day minutes).day ≡ d)

first_year : (minutes : ℕ) → minutes < 16777216 → 1996 ≤ (manufacture_day minutes).year
first_year minutes h =
    let counted = IsCounted-manufacture minutes h in
    by_lt_z (pos (manufacture_day minutes).year) (pos 1996)
    (λ lt. absurd (omega (
      arith,
      day_count-lt_year (pos (manufacture_day minutes).year) (manufacture_day minutes).month (manufacture_day minutes).day
          (pos 1996) 1 1 counted.civil (omega arith) lt,
      counted.counted,
      day_count-first_day,
    )))
    (λ le. omega (arith, signed_arith))

-- the last digit
abbrev pub glyph : ℕ → ℕ
glyph n = 48 + n % 10

abbrev pub written : ℕ → ℕ → ℕ → ℕ → ℕ → List ℕ
written y m d hour minute =
    glyph (y / 1000) ∷ glyph (y / 100) ∷ glyph (y / 10) ∷ glyph y ∷ 45 ∷ glyph (m / 10) ∷ glyph m ∷ 45 ∷ glyph (d / 10) ∷ glyph d ∷ 32
    ∷ glyph (hour / 10) ∷ glyph hour ∷ 58 ∷ glyph (minute / 10) ∷ glyph minute ∷ []

date_text-digits : (minutes y m d : ℕ) → minutes < 16777216 → Written minutes y m d → date_text minutes ≡ written y m d (minutes / 60 % 24) (minutes % 60)
unfolding date_text
date_text-digits minutes y m d h w =
    let counted = IsCounted-manufacture minutes h in
    let low = first_year minutes h in
    let civil = counted.civil in
    let long = days_in_month_bounds (pos (manufacture_day minutes).year) (manufacture_day minutes).month in
    let year = decimal-four y (omega (arith, signed_arith, w.0)) (omega (arith, signed_arith, w.0, civil.0)) in
    let month : m / 10 % 10 ≡ m / 10 = omega (arith, w.1) in
    let day : d / 10 % 10 ≡ d / 10 = omega (arith, w.2) in
    let hour : minutes / 60 % 24 / 10 % 10 ≡ minutes / 60 % 24 / 10 = omega arith in
    let minute : minutes % 60 / 10 % 10 ≡ minutes % 60 / 10 = omega arith in
    rw (w.0, w.1, w.2, year, month, day, hour, minute) refl

-- the same of a date that is this day
pub date_text-written : (minutes y m d : ℕ) (date : Date) → minutes < 16777216 → IsDay (manufacture_day minutes) date → date.year ≡ pos y
    → date.month ≡ m → date.day ≡ d → date_text minutes ≡ written y m d (minutes / 60 % 24) (minutes % 60)
date_text-written minutes y m d date h is ey em ed =
    let year : (manufacture_day minutes).year ≡ y = omega (arith, signed_arith, is.year) in
    date_text-digits minutes y m d h (year, sym is.month ∙ em, sym is.day_of_month ∙ ed)

glyph-ascii : (n : ℕ) → glyph n < 128
glyph-ascii n = omega arith

abbrev EachAscii : List ℕ → Type 0
EachAscii [] = Unit {0}
EachAscii (b ∷ bs) = (b < 128) × EachAscii bs

IsAscii-each : (bs : List ℕ) → EachAscii bs → IsAscii bs
IsAscii-each [] h = IsAscii-nil
IsAscii-each (b ∷ bs) h = IsAscii-cons b bs h.0 (IsAscii-each bs h.1)

IsAscii-written : (y m d hour minute : ℕ) → IsAscii (written y m d hour minute)
IsAscii-written y m d hour minute =
    let g = glyph-ascii in
    let mark : (b : ℕ) → b ≤ 58 → b < 128 = λ b h. omega arith in
    IsAscii-each (written y m d hour minute) (
      g (y / 1000),
      (
        g (y / 100),
        (
          g (y / 10),
          (
            g y,
            (
              mark 45 (omega arith),
              (
                g (m / 10),
                (
                  g m,
                  (
                    mark 45 (omega arith),
                    (
                      g (d / 10),
                      (
                        g d,
                        (
                          mark 32 (omega arith),
                          (g (hour / 10), (g hour, (mark 58 (omega arith), (g (minute / 10), (g minute, tt))))),
                        ),
                      ),
                    ),
                  ),
                ),
              ),
            ),
          ),
        ),
      ),
    )

pub IsAscii-date_text : (minutes : ℕ) → minutes < 16777216 → IsAscii (date_text minutes)
IsAscii-date_text minutes h =
    rw (date_text-digits minutes _ _ _ h (refl, refl, refl))
    (IsAscii-written (manufacture_day minutes).year (manufacture_day minutes).month (manufacture_day minutes).day (minutes / 60 % 24) (minutes % 60))
