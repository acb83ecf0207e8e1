-- Bytes that hexadecimal digits spell, one more.
use Rattle.std.proofs.Common.{◌≡◌, ◌≤◌, ◌<◌, ℕ, ◌+◌, ◌-◌, true, false, List, [], ◌∷◌, ◌++◌, length, take, drop, Result, Ok, Err, refl, ap, sym, ◌∙◌, arith}
use Rattle.std.specs.Prelude.{if◌then◌else◌}
use Rattle.std.proofs.lemmas.List.{append_assoc, append-nil, take_all, drop_all, drop-drop, length-drop}
use Rattle.d0_segments.specs.Separators.{begins_with}
use Rattle.message_words.specs.declared.spelling.SpellingFault.{SpellingFault}
use Rattle.message_words.specs.declared.spelling.SpellingFault.TheVariants.{OutOfMemory, NoByte}
use Rattle.message_words.specs.Spelled.{FailsAt, hex_byte, hex_before, hex_from, hex_at, spelled_behind}

-- a space
space_from : (place : ℕ) (xs : List ℕ) → begins_with 32 xs ≡ true → hex_from place xs ≡ hex_from (place + 1) (drop 1 xs)
space_from place [] e = absurd cc
space_from place (a ∷ []) e = ap (λ v. if v then Ok [] else hex_before place (hex_byte (a ∷ [])) (Ok [])) e
space_from place (a ∷ b ∷ rest) e = ap (λ v. if v then hex_from (place + 1) (b ∷ rest) else hex_before place (hex_byte (a ∷ b ∷ rest)) (hex_from (place + 2) rest)) e

-- a byte
byte_from : (place : ℕ) (xs : List ℕ) → begins_with 32 xs ≡ false → 0 < length xs → hex_from place xs ≡ hex_before place (hex_byte xs) (hex_from (place + 2) (drop 2 xs))
byte_from place [] e some = absurd (omega (arith, some))
byte_from place (a ∷ []) e some = ap (λ v. if v then Ok [] else hex_before place (hex_byte (a ∷ [])) (Ok [])) e
byte_from place (a ∷ b ∷ rest) e some = ap (λ v. if v then hex_from (place + 1) (b ∷ rest) else hex_before place (hex_byte (a ∷ b ∷ rest)) (hex_from (place + 2) rest)) e

-- the letters from a place on
pub from_place : (place : ℕ) (line : List ℕ) → take (length line - place) (drop place line) ≡ drop place line
from_place place line = take_all (length line - place) (drop place line) (omega (arith, length-drop place line))

pub space : (place : ℕ) (line letters bytes : List ℕ) → letters ≡ drop place line → begins_with 32 letters ≡ true
    → spelled_behind bytes (hex_at (place + 1) line) ≡ spelled_behind bytes (hex_at place line)
space place line letters bytes is e =
    ap (spelled_behind bytes) (ap (hex_from (place + 1)) (sym (drop-drop 1 place line)) ∙ sym (space_from place (drop place line) (ap (begins_with 32) (sym is) ∙ e)))

at_byte : (place : ℕ) (line letters : List ℕ) → letters ≡ drop place line → begins_with 32 letters ≡ false → place < length line
    → hex_at place line ≡ hex_before place (hex_byte letters) (hex_at (place + 2) line)
at_byte place line letters is e lt =
    byte_from place (drop place line) (ap (begins_with 32) (sym is) ∙ e) (omega (arith, lt, length-drop place line))
    ∙ ap (λ (xs : List ℕ). hex_before place (hex_byte xs) (hex_from (place + 2) (drop 2 (drop place line)))) (sym is)
    ∙ ap (λ (xs : List ℕ). hex_before place (hex_byte letters) (hex_from (place + 2) xs)) (drop-drop 2 place line)

moved : (xs : List ℕ) (v place : ℕ) (r : Result (List ℕ) ℕ) → spelled_behind (xs ++ v ∷ []) r ≡ spelled_behind xs (hex_before place (Ok v) r)
moved xs v place (Ok more) = ap (λ (bs : List ℕ). Ok bs) (append_assoc xs (v ∷ []) more)
moved xs v place (Err other) = refl

pub byte : (place v : ℕ) (line letters old new : List ℕ) → letters ≡ drop place line → begins_with 32 letters ≡ false → place < length line → Ok v ≡ hex_byte letters → new ≡ old ++ v ∷ []
    → spelled_behind new (hex_at (place + 2) line) ≡ spelled_behind old (hex_at place line)
byte place v line letters old new is e lt b put =
    ap (λ (bs : List ℕ). spelled_behind bs (hex_at (place + 2) line)) put ∙ moved old v place (hex_at (place + 2) line)
    ∙ ap (spelled_behind old) (ap (λ r. hex_before place r (hex_at (place + 2) line)) b ∙ sym (at_byte place line letters is e lt))

pub no_byte : (place n : ℕ) (line letters : List ℕ) → letters ≡ drop place line → begins_with 32 letters ≡ false → place < length line → Err n ≡ hex_byte letters → hex_at place line ≡ Err (place + n)
no_byte place n line letters is e lt b = at_byte place line letters is e lt ∙ ap (λ r. hex_before place r (hex_at (place + 2) line)) (sym b)

-- no letter is left
pub ended : (place : ℕ) (line bytes : List ℕ) (all : Result (List ℕ) ℕ) → length line ≤ place → spelled_behind bytes (hex_at place line) ≡ all → all ≡ Ok bytes
ended place line bytes all ge before =
    sym before ∙ ap (λ (xs : List ℕ). spelled_behind bytes (hex_from place xs)) (drop_all place line ge) ∙ ap (λ (bs : List ℕ). Ok bs) (append-nil bytes)

-- a fault after bytes is the fault
fault_behind : (bytes : List ℕ) (r : Result (List ℕ) ℕ) (place : ℕ) (all : Result (List ℕ) ℕ) → spelled_behind bytes r ≡ all → r ≡ Err place → all ≡ Err place
fault_behind bytes r place all before e = sym before ∙ ap (spelled_behind bytes) e

pub fails : (e : SpellingFault) (bytes : List ℕ) (r all : Result (List ℕ) ℕ) → spelled_behind bytes r ≡ all → FailsAt e r → FailsAt e all
fails OutOfMemory bytes r all before f = tt
fails (NoByte place) bytes r all before f = fault_behind bytes r place all before f
