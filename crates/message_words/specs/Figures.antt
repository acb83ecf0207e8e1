-- Numbers as they are written for people.
use Rattle.std.specs.Prelude.{ℕ, ℤ, pos, negsuc, ◌+◌, ◌/◌, ◌%◌, List, [], ◌∷◌, ◌++◌, codes}
use Rattle.std.specs.Int.RustNames.{unsigned_abs}
use Rattle.std.specs.Fmt.{decimal}

-- the last digit of a number
abbrev pub last_digit : ℕ → ℕ
last_digit number = 48 + number % 10

-- a point and the last three digits of a number, or the last two
abbrev pub point_three : ℕ → List ℕ
point_three number = 46 ∷ last_digit (number / 100) ∷ last_digit (number / 10) ∷ last_digit number ∷ []

abbrev pub point_two : ℕ → List ℕ
point_two number = 46 ∷ last_digit (number / 10) ∷ last_digit number ∷ []

-- thousandths of a unit as units, as `30.000 units`
unfoldable pub units : ℕ → List ℕ
units thousandths = decimal (thousandths / 1000) ++ point_three (thousandths % 1000) ++ codes " units"

-- the sign in front of an amount
abbrev pub minus : ℤ → List ℕ
minus (pos cents) = []
minus (negsuc below) = codes "-"

-- cents as dollars, as `-1.23`
unfoldable pub dollars : ℤ → List ℕ
dollars cents = minus cents ++ decimal (unsigned_abs cents / 100) ++ point_two (unsigned_abs cents % 100)
