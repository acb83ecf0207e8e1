-- The Gregorian calendar, carried back to the year 0.
use Rattle.std.specs.Prelude.{ℕ, ◌+◌, ◌-◌, ◌*◌, ◌%◌, ◌==◌, nat_le, Bool, not, ◌&&◌, ◌||◌, if◌then◌else◌, List, length, slice_index}
use Rattle.std.specs.List.{list_all}
use Rattle.d0_header.specs.Field.{is_digit}

-- the number that the digit at a place names
abbrev pub digit : List ℕ → ℕ → ℕ
digit date place = slice_index date place - 48

-- the first four digits
abbrev pub year_of : List ℕ → ℕ
year_of date = 1000 * digit date 0 + 100 * digit date 1 + 10 * digit date 2 + digit date 3

-- the next two
abbrev pub month_of : List ℕ → ℕ
month_of date = 10 * digit date 4 + digit date 5

-- the last two
abbrev pub day_of : List ℕ → ℕ
day_of date = 10 * digit date 6 + digit date 7

-- every fourth year, but of the centuries only every fourth
abbrev pub is_leap : ℕ → Bool
is_leap year = (year % 4 == 0 && not (year % 100 == 0)) || (year % 400 == 0)

-- how many days a month has
abbrev pub month_days : ℕ → ℕ → ℕ
month_days year month =
    if month == 2 then (if is_leap year then 29 else 28)
    else (if (month == 4) || (month == 6) || (month == 9) || (month == 11) then 30 else 31)

-- whether the calendar has this day
unfoldable pub is_day : ℕ → ℕ → ℕ → Bool
is_day year month day = (nat_le 1 month && nat_le month 12) && (nat_le 1 day && nat_le day (month_days year month))

-- whether these are eight digits, CCYYMMDD, that name a day
unfoldable pub is_calendar_date : List ℕ → Bool
is_calendar_date date = (length date == 8 && list_all is_digit date) && is_day (year_of date) (month_of date) (day_of date)
