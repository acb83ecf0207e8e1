-- Numbers of a fixed count of digits, and what clocks in UTC show, as tables have them.
use Rattle.std.specs.Prelude.{◌≡◌, ◌⊎◌, ℕ, ◌*◌, ◌-◌, pos, List, [], ◌∷◌, ◌++◌, Option, Some, None, decimal, length, replicate, unsigned_abs}
use Rattle.std.specs.List.{flat_map}
use Rattle.jiff_core.specs.DateTime.{civil_nanos}
use Rattle.jiff_core.specs.declared.civil.datetime.DateTime.{DateTime}
use Rattle.jiff.specs.Words.{IsTimestampNanos}
use Rattle.claim_reports.specs.declared.clock.Part.{Part}

-- a number, filled with zeros to this many digits
abbrev pub filled : ℕ → ℕ → List ℕ
filled width number = replicate (width - length (decimal number)) 48 ++ decimal number

-- a number of a date or a time, and the letter after it
abbrev pub part_text : Part → List ℕ
part_text p = filled p.width p.number ++ p.mark ∷ []

-- a date and a time, CCYY-MM-DDThh:mm:ssZ
abbrev pub time_parts : DateTime → List Part
time_parts shown =
    record { number = unsigned_abs shown.date.year; width = 4; mark = 45 }
    ∷ record { number = shown.date.month; width = 2; mark = 45 }
    ∷ record { number = shown.date.day; width = 2; mark = 84 }
    ∷ record { number = shown.time.hour; width = 2; mark = 58 }
    ∷ record { number = shown.time.minute; width = 2; mark = 58 }
    ∷ record { number = shown.time.second; width = 2; mark = 90 }
    ∷ []

unfoldable pub time_text : DateTime → List ℕ
time_text shown = flat_map part_text (time_parts shown)

-- the day of it, CCYYMMDD
unfoldable pub day_text : DateTime → List ℕ
day_text shown = filled 4 (unsigned_abs shown.date.year) ++ (filled 2 shown.date.month ++ filled 2 shown.date.day)

-- what two fields say this many milliseconds after 1970 began: the date and the time that a clock shows, and the day of it; nothing where that is after the last year
-- of four digits
abbrev pub ShowsMoment : ℕ → List ℕ → List ℕ → Type 0
ShowsMoment milliseconds at on =
    ((shown : DateTime) × (civil_nanos shown ≡ pos (milliseconds * 1_000_000)) × (at ≡ time_text shown) × (on ≡ day_text shown))
    ⊎ ((¬ (IsTimestampNanos (pos (milliseconds * 1_000_000)))) × (at ≡ []) × (on ≡ []))

-- what they say of a time, where it is known
abbrev pub ShowsTime : Option ℕ → List ℕ → List ℕ → Type 0
ShowsTime None at on = (at ≡ []) × (on ≡ [])
ShowsTime (Some milliseconds) at on = ShowsMoment milliseconds at on
