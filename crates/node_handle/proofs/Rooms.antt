-- How long texts are, and what they spell.
use Rattle.std.proofs.Common.{◌≡◌, ℕ, zero, suc, ◌+◌, ◌-◌, ◌*◌, ◌≤◌, List, [], ◌∷◌, length, Option, Some, None, Ok, Err, Result, refl, subst, arith}
use Rattle.std.proofs.lemmas.Bool.Decides.{nat_tests}
use Rattle.std.proofs.lemmas.List.{length-append}
use Rattle.input_text.specs.Printing.{Spelling, first_spelling, onto, printed, printed_byte, spelled_on, unprinted, unprinted_from}

byte_room : (byte : ℕ) → length (printed_byte byte) ≤ 4
unfolding printed_byte
byte_room byte = grind (arith, nat_tests)

pub printed_room : (bytes : List ℕ) → length (printed bytes) ≤ 4 * length bytes
printed_room [] = omega arith
printed_room (b ∷ bs) = omega (arith, length-append (printed_byte b) (printed bs), byte_room b, printed_room bs)

onto_room : (byte size : ℕ) (rest : Result (List ℕ) ℕ) (bytes : List ℕ) → ((more : List ℕ) → rest ≡ Ok more → length more ≤ size) → onto byte rest ≡ Ok bytes → length bytes ≤ suc size
onto_room byte size (Ok more) bytes short is =
    let same : byte ∷ more ≡ bytes = cc in
    subst (λ (all : List ℕ). length all ≤ suc size) same (omega (arith, short more refl))
onto_room byte size (Err place) bytes short is = absurd cc

spelled_room : (place size : ℕ) (spelling : Option Spelling) (after : ℕ → Result (List ℕ) ℕ) (bytes : List ℕ)
    → ((skipped : ℕ) (more : List ℕ) → after skipped ≡ Ok more → length more ≤ size) → spelled_on place spelling after ≡ Ok bytes → length bytes ≤ suc size
spelled_room place size None after bytes short is = absurd cc
spelled_room place size (Some s) after bytes short is = onto_room s.0 size (after (s.1 - 1)) bytes (short (s.1 - 1)) is

from_room : (text : List ℕ) (place skipped : ℕ) (bytes : List ℕ) → unprinted_from place skipped text ≡ Ok bytes → length bytes ≤ length text
unfolding unprinted_from
from_room [] place skipped bytes is =
    let same : [] ≡ bytes = cc in
    subst (λ (all : List ℕ). length all ≤ 0) same (omega arith)
from_room (byte ∷ rest) place (suc skipped) bytes is = omega (arith, from_room rest (place + 1) skipped bytes is)
from_room (byte ∷ rest) place zero bytes is =
    spelled_room place (length rest) (first_spelling (byte ∷ rest)) (λ skipped. unprinted_from (place + 1) skipped rest) bytes (λ skipped more told. from_room rest (place + 1) skipped more told) is

pub unprinted_room : (text bytes : List ℕ) → unprinted text ≡ Ok bytes → length bytes ≤ length text
unprinted_room text bytes is = from_room text 0 0 bytes is
