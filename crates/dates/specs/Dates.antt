-- Document 01, "The wage file": "Dates are YYYYMMDD, Gregorian, years 2023 to 9999". A date is the number that its eight digits write.
use Rattle.std.specs.Prelude.{ℕ, ◌/◌, ◌%◌, Bool, cond, not, ◌&&◌, ◌||◌, eqb, leb}

-- the Gregorian calendar's leap years
abbrev pub is_leap : ℕ → Bool
is_leap year = eqb (year % 4) 0 && (not (eqb (year % 100) 0) || eqb (year % 400) 0)

-- how many days a month has
unfoldable pub days_of : ℕ → ℕ → ℕ
days_of year month =
    cond (eqb month 2) (cond (is_leap year) 29 28)
    (cond (eqb month 4 || (eqb month 6 || (eqb month 9 || eqb month 11))) 30 31)

-- YYYY, MM and DD of a number of eight digits
abbrev pub year_of : ℕ → ℕ
year_of n = n / 10000

abbrev pub month_of : ℕ → ℕ
month_of n = n / 100 % 100

abbrev pub day_of : ℕ → ℕ
day_of n = n % 100

-- a date of the years 2023 to 9999
unfoldable pub is_date : ℕ → Bool
is_date n =
    (leb 2023 (year_of n) && leb (year_of n) 9999) &&
    ((leb 1 (month_of n) && leb (month_of n) 12) &&
    (leb 1 (day_of n) && leb (day_of n) (days_of (year_of n) (month_of n))))
