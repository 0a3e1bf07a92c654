-- What is promised of dates: the calendar's leap years, and eight digits.
-- Assumes nothing.
use Rattle.refusal.proofs.Basics.{◌≡◌, refl, arith, ℕ, ◌+◌, ◌*◌, ◌≤◌, ◌<◌, leb-true, le-leb, Bool, true, false, cond, ◌&&◌, ◌||◌, eqb, leb, ◌↔◌, both_true}
use Rattle.dates.specs.Dates.{is_leap, days_of, year_of, month_of, day_of, is_date}

-- ---------------------------------------------------------------------------
-- The calendar: every fourth year, of the centuries every fourth

-- 29 February of 2024, 2023, 2100 and 2400
pub leap_day_of_2024 : is_date 20240229 ≡ true
unfolding is_date days_of
leap_day_of_2024 = refl

pub no_leap_day_of_2023 : is_date 20230229 ≡ false
unfolding is_date days_of
no_leap_day_of_2023 = refl

pub no_leap_day_of_2100 : is_date 21000229 ≡ false
unfolding is_date days_of
no_leap_day_of_2100 = refl

pub leap_day_of_2400 : is_date 24000229 ≡ true
unfolding is_date days_of
leap_day_of_2400 = refl

-- 30 and 31 April
pub last_of_april : (is_date 20230430 ≡ true) × (is_date 20230431 ≡ false)
unfolding is_date days_of
last_of_april = (refl, refl)

-- the first date and the last
pub first_and_last : (is_date 20230101 ≡ true) × (is_date 99991231 ≡ true)
unfolding is_date days_of
first_and_last = (refl, refl)

-- the days before and after
pub none_before_or_after : (is_date 20221231 ≡ false) × (is_date 100000101 ≡ false)
unfolding is_date days_of
none_before_or_after = (refl, refl)

-- no month has more than 31 days
pub days_few : (y m : ℕ) → days_of y m ≤ 31
unfolding days_of
days_few y m = go (eqb m 2) (is_leap y) (eqb m 4 || (eqb m 6 || (eqb m 9 || eqb m 11)))
  where
    go : (a b d : Bool) → cond a (cond b 29 28) (cond d 30 31) ≤ 31
    go true true d = omega arith
    go true false d = omega arith
    go false b true = omega arith
    go false b false = omega arith

-- ---------------------------------------------------------------------------
-- YYYYMMDD

-- year, month and day of the number that they make up
pub parts_of_lem : (y m d : ℕ) → m < 100 → d < 100 → (year_of (y * 10000 + m * 100 + d) ≡ y) × (month_of (y * 10000 + m * 100 + d) ≡ m) × (day_of (y * 10000 + m * 100 + d) ≡ d)
parts_of_lem y m d g h = (omega arith, omega arith, omega arith)

-- a date of the calendar, of the years 2023 to 9999
pub record Dated (n : ℕ) : Type 0 where
  pub first_year : 2023 ≤ year_of n
  pub last_year : year_of n ≤ 9999
  pub first_month : 1 ≤ month_of n
  pub last_month : month_of n ≤ 12
  pub first_day : 1 ≤ day_of n
  pub last_day : day_of n ≤ days_of (year_of n) (month_of n)

date_told : (n : ℕ) → is_date n ≡ true → Dated n
unfolding is_date
date_told n e =
    let a = both_true (leb 2023 (year_of n) && leb (year_of n) 9999) ((leb 1 (month_of n) && leb (month_of n) 12) && (leb 1 (day_of n) && leb (day_of n) (days_of (year_of n) (month_of n)))) e in
    let y = both_true (leb 2023 (year_of n)) (leb (year_of n) 9999) a.0 in
    let b = both_true (leb 1 (month_of n) && leb (month_of n) 12) (leb 1 (day_of n) && leb (day_of n) (days_of (year_of n) (month_of n))) a.1 in
    let m = both_true (leb 1 (month_of n)) (leb (month_of n) 12) b.0 in
    let d = both_true (leb 1 (day_of n)) (leb (day_of n) (days_of (year_of n) (month_of n))) b.1 in
    record {
      first_year = leb-true 2023 (year_of n) y.0;
      last_year = leb-true (year_of n) 9999 y.1;
      first_month = leb-true 1 (month_of n) m.0;
      last_month = leb-true (month_of n) 12 m.1;
      first_day = leb-true 1 (day_of n) d.0;
      last_day = leb-true (day_of n) (days_of (year_of n) (month_of n)) d.1;
    }

told_date : (n : ℕ) → Dated n → is_date n ≡ true
unfolding is_date
told_date n w =
    simp (
      le-leb _ _ w.first_year,
      le-leb _ _ w.last_year,
      le-leb _ _ w.first_month,
      le-leb _ _ w.last_month,
      le-leb _ _ w.first_day,
      le-leb _ _ w.last_day,
    )

-- a number is a date exactly when it is one of the calendar
pub date_exactly : (n : ℕ) → (is_date n ≡ true) ↔ Dated n
date_exactly n = (date_told n, told_date n)

-- 29 February is a date exactly in leap years
pub leap_day_exactly : (y : ℕ) → 2023 ≤ y → y ≤ 9999 → is_date (y * 10000 + 2 * 100 + 29) ≡ is_leap y
unfolding is_date days_of
leap_day_exactly y g h =
    let p = parts_of_lem y 2 29 (omega arith) (omega arith) in
    rw (p.0, p.1, p.2, le-leb 2023 y g, le-leb y 9999 h) (go (is_leap y))
  where
    go : (b : Bool) → leb 29 (cond b 29 28) ≡ b
    go true = refl
    go false = refl

-- dates have eight digits
pub date_bounds : (n : ℕ) → is_date n ≡ true → (20230101 ≤ n) × (n ≤ 99991231)
date_bounds n e = let d = date_told n e in (omega arith, omega (arith, days_few (year_of n) (month_of n)))
