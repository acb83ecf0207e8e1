-- Tests that come one after another, and what bytes that pass them are.
use Rattle.std.proofs.Common.{◌≡◌, ℕ, ◌+◌, ◌≤◌, Bool, true, false, not, cond, List, length, take, drop, Option, Some, None, refl, arith}
use Rattle.std.specs.Option.{option_map}
use Rattle.std.proofs.lemmas.Bool.Decides.{nat_tests}
use Rattle.std.proofs.lemmas.List.{length-take, length-drop}
use Rattle.d0_header.specs.declared.fault.HeaderFault.{HeaderFault}
use Rattle.d0_header.specs.declared.fault.HeaderFault.TheVariants.{Separator}
use Rattle.d0_header.specs.Field.{is_count, is_plain}

-- a test that did not fail
pub fails_not : (t : Bool) (f : HeaderFault) (next : Option HeaderFault) → cond t (Some f) next ≡ None → (t ≡ false) × (next ≡ None)
fails_not false f next e = (refl, e)
fails_not true f next e = absurd cc

-- a test that was passed
pub passed : (t : Bool) (f : HeaderFault) (next : Option HeaderFault) → cond (not t) (Some f) next ≡ None → (t ≡ true) × (next ≡ None)
passed true f next e = (refl, e)
passed false f next e = absurd cc

-- no separator
pub no_place : (o : Option ℕ) → option_map Separator o ≡ None → o ≡ None
no_place None e = refl
no_place (Some x) e = absurd cc

-- a count that passed
pub counted : (byte : ℕ) → is_count byte ≡ true → (49 ≤ byte) × (byte ≤ 52)
counted byte h = (grind (arith, nat_tests), grind (arith, nat_tests))

-- a count that passes
pub count_passes : (count : ℕ) → 1 ≤ count → count ≤ 4 → is_count (48 + count) ≡ true
count_passes count low high = grind (arith, nat_tests)

-- its byte is no separator
pub count_is_plain : (count : ℕ) → 1 ≤ count → is_plain (48 + count) ≡ true
count_is_plain count low = grind (arith, nat_tests)

pub width_of : (bytes : List ℕ) (m n : ℕ) → m + n ≤ length bytes → length (take n (drop m bytes)) ≡ n
width_of bytes m n h = omega (arith, length-take n (drop m bytes), length-drop m bytes)
