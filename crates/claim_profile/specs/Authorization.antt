-- Authorization numbers: the payer that gave one, and its serial there.
use Rattle.std.specs.Prelude.{ℕ, zero, suc, ◌+◌, ◌/◌, ◌%◌, ◌≤◌, nat_le, List, [], ◌∷◌, ◌++◌, length, take, drop, Bool, ◌&&◌, ◌==◌, Option, Some, None, option_and_then, if◌then◌else◌}
use Rattle.std.specs.Result.{result_ok}
use Rattle.overpunch.specs.Number.{number_of}

-- a payer's number and the serial that it gave
pub record Authorization : Type 0 where
  pub payer : ℕ
  pub serial : ℕ

-- the largest number of a payer and the largest serial
abbrev pub largest_payer : ℕ
largest_payer = 9999

abbrev pub largest_serial : ℕ
largest_serial = 999999999999

-- four digits of payer and twelve of serial, neither of them zero
abbrev pub IsAuthorization : ℕ → ℕ → Type 0
IsAuthorization payer serial = (1 ≤ payer) × (payer ≤ largest_payer) × (1 ≤ serial) × (serial ≤ largest_serial)

-- the same, as a test
abbrev pub is_authorization : ℕ → ℕ → Bool
is_authorization payer serial = nat_le 1 payer && nat_le payer largest_payer && nat_le 1 serial && nat_le serial largest_serial

-- a number in this many decimal digits, with zeros in front
unfoldable pub padded_number : ℕ → ℕ → List ℕ
padded_number zero number = []
padded_number (suc digits) number = padded_number digits (number / 10) ++ (48 + number % 10) ∷ []

-- the sixteen digits of an authorization number
abbrev pub authorization_text : Authorization → List ℕ
authorization_text a = padded_number 4 a.payer ++ padded_number 12 a.serial

-- an authorization of these parts, where there is one
abbrev pub authorization_with : ℕ → ℕ → Option Authorization
authorization_with payer serial = if is_authorization payer serial then Some (record { payer = payer; serial = serial }) else None

infixl 10 ◌>>=◌
abbrev ◌>>=◌ : {A B : Type 0} → Option A → (A → Option B) → Option B
o >>= f = option_and_then f o

-- the authorization that a text spells: sixteen digits
unfoldable pub authorization_of : List ℕ → Option Authorization
authorization_of text =
    if length text == 16 then (do
      payer ← result_ok (number_of 4 (take 4 text))
      serial ← result_ok (number_of 12 (drop 4 text))
      authorization_with payer serial)
    else None
