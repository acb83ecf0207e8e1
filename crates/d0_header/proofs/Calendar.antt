-- The calendar of civil dates is the plain rule of months and leap years.
use Rattle.std.proofs.Common.{◌≡◌, ℕ, ◌%◌, ◌≤◌, Bool, true, false, not, ◌&&◌, ◌||◌, nat_le, ◌==◌, pos, ◌↔◌, refl, arith}
use Rattle.std.proofs.lemmas.Bool.{and_parts, and_from, leb-true, le-leb, eqb-true, eq-eqb}
use Rattle.std.proofs.lemmas.Int.{ints}
use Rattle.jiff.specs.Words.{IsDate, is_leap_year, days_in_month}
use Rattle.d0_header.specs.Date.{is_leap, month_days, is_day}

-- a century that 400 divides is divided by 4
of_four : (year : ℕ) → (year % 400 == 0) ≡ true → (year % 4 == 0) ≡ true
of_four year h =
    let zero : year % 400 ≡ 0 = eqb-true (year % 400) 0 h in
    eq-eqb (year % 4) 0 (omega arith)

same_rule : (four hundred four_hundred : Bool) → (four_hundred ≡ true → four ≡ true) → (four && (not hundred || four_hundred)) ≡ ((four && not hundred) || four_hundred)
same_rule true true f h = refl
same_rule true false f h = refl
same_rule false hundred true h = absurd (cc (h refl))
same_rule false hundred false h = refl

leap_is : (year : ℕ) → is_leap_year (pos year) ≡ is_leap year
leap_is year = same_rule (year % 4 == 0) (year % 100 == 0) (year % 400 == 0) (of_four year)

days_are : (year month : ℕ) → days_in_month (pos year) month ≡ month_days year month
days_are year month = rw (leap_is year) refl

pub day_decides : (year month day : ℕ) → year ≤ 9999 → IsDate (pos year) (pos month) (pos day) ↔ (is_day year month day ≡ true)
unfolding is_day
day_decides year month day most =
    let same : days_in_month (pos year) month ≡ month_days year month = days_are year month in (
      λ d.
          let low : 1 ≤ month = omega (arith, ints, d) in
          let high : month ≤ 12 = omega (arith, ints, d) in
          let first : 1 ≤ day = omega (arith, ints, d) in
          let last : day ≤ month_days year month = rw (← same) (omega (arith, ints, d)) in
          and_from _ _ (and_from _ _ (le-leb 1 month low) (le-leb month 12 high)) (and_from _ _ (le-leb 1 day first) (le-leb day (month_days year month) last)),
      λ t.
          let parts = and_parts (nat_le 1 month && nat_le month 12) (nat_le 1 day && nat_le day (month_days year month)) t in
          let months = and_parts (nat_le 1 month) (nat_le month 12) parts.0 in
          let days = and_parts (nat_le 1 day) (nat_le day (month_days year month)) parts.1 in
          let low : 1 ≤ month = leb-true 1 month months.0 in
          let high : month ≤ 12 = leb-true month 12 months.1 in
          let first : 1 ≤ day = leb-true 1 day days.0 in
          let last : day ≤ days_in_month (pos year) month = rw same (leb-true day (month_days year month) days.1) in
          ((omega (arith, ints), omega (arith, ints)), (omega (arith, ints), omega (arith, ints)), (omega (arith, ints), omega (arith, ints))),
    )
