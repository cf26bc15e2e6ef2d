-- The date and time of manufacture of a board (FRU definition 1.0, section 11): minutes since 1996-01-01 00:00.
use Rattle.std.specs.Prelude.{ℕ, zero, suc, ◌≡◌, ◌+◌, ◌*◌, ◌-◌, ◌/◌, ◌%◌, ◌^◌, nat_lt, if◌then◌else◌, List, [], ◌∷◌, ◌++◌, codes, decimal, slice_index, pos}
use Rattle.jiff.specs.Words.{days_in_year, days_in_month}
use Rattle.jiff_core.specs.declared.civil.date.Date.{Date}

-- the first minute that 24 bits do not hold
abbrev pub minutes_limit : ℕ
minutes_limit = 2 ^ 24

-- a day of the civil calendar
pub record Day : Type 0 where
  pub year : ℕ
  pub month : ℕ
  pub day : ℕ

-- the date is this day
pub record IsDay (day : Day) (date : Date) : Type 0 where
  pub year : date.year ≡ pos day.year
  pub month : date.month ≡ day.month
  pub day_of_month : date.day ≡ day.day

-- the day that is so many days after the first of a month
abbrev pub day_in_year : (months : ℕ) → ℕ → ℕ → ℕ → Day
day_in_year zero year month days = record { year = year; month = month; day = days + 1 }
day_in_year (suc months) year month days =
    if nat_lt days (days_in_month (pos year) month) then record { year = year; month = month; day = days + 1 }
    else day_in_year months year (month + 1) (days - days_in_month (pos year) month)

-- the day that is so many days after the first of January of a year; at most so many years later
abbrev pub day_from : (years : ℕ) → ℕ → ℕ → Day
day_from zero year days = day_in_year 11 year 1 days
day_from (suc years) year days =
    if nat_lt days (days_in_year (pos year)) then day_in_year 11 year 1 days
    else day_from years (year + 1) (days - days_in_year (pos year))

-- the day of a number of minutes since 1996-01-01 00:00
unfoldable pub manufacture_day : ℕ → Day
manufacture_day minutes = day_from 40 1996 (minutes / 1440)

abbrev pub two_digits : ℕ → List ℕ
two_digits n = (48 + n / 10) ∷ (48 + n % 10) ∷ []

-- `YYYY-MM-DD HH:MM`
unfoldable pub date_text : ℕ → List ℕ
date_text minutes =
    decimal (manufacture_day minutes).year ++ codes "-" ++ two_digits (manufacture_day minutes).month ++ codes "-" ++ two_digits (manufacture_day minutes).day
    ++ codes " " ++ two_digits (minutes / 60 % 24) ++ codes ":" ++ two_digits (minutes % 60)

-- the minutes of a board area, the low byte first
abbrev pub minutes_of : List ℕ → ℕ
minutes_of area = slice_index area 3 + 256 * slice_index area 4 + 65536 * slice_index area 5
