-- The numbers of payers.
use Rattle.std.specs.Prelude.{ℕ, ◌&&◌, nat_le, if◌then◌else◌, Option, Some, None}

-- a number that a payer may have
abbrev pub payer_number : ℕ → Option ℕ
payer_number number = if nat_le 1 number && nat_le number 9999 then Some number else None
