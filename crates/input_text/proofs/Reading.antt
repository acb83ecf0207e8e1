-- Reading a printed text one spelling after the other.
use Rattle.std.proofs.Common.{◌≡◌, ℕ, zero, suc, ◌+◌, ◌-◌, ◌<◌, ◌≤◌, List, [], ◌∷◌, ◌++◌, length, drop, Some, None, Result, Ok, Err, refl, sym, ap, ◌∙◌, append_assoc, arith}
use Rattle.std.proofs.lemmas.List.{append-nil, drop-drop, drop_all, length-drop}
use Rattle.input_text.specs.Printing.{first_spelling, onto, spelled_on, unprinted_from}

-- bytes that were read before those of a text
abbrev pub onto_all : List ℕ → Result (List ℕ) ℕ → Result (List ℕ) ℕ
onto_all front (Ok bytes) = Ok (front ++ bytes)
onto_all front (Err place) = Err place

onto_all-onto : (front : List ℕ) (byte : ℕ) (read : Result (List ℕ) ℕ) → onto_all front (onto byte read) ≡ onto_all (front ++ byte ∷ []) read
onto_all-onto front byte (Ok bytes) = ap (λ (bs : List ℕ). Ok bs) (sym (append_assoc front (byte ∷ []) bytes))
onto_all-onto front byte (Err place) = refl

-- the bytes of a spelling are passed over
pub unprinted_from-skipped : (place k : ℕ) (text : List ℕ) → k ≤ length text → unprinted_from place k text ≡ unprinted_from (place + k) 0 (drop k text)
unfolding unprinted_from
unprinted_from-skipped place zero text fits = ap (λ p. unprinted_from p 0 text) (omega arith)
unprinted_from-skipped place (suc k) [] fits = absurd (omega arith)
unprinted_from-skipped place (suc k) (b ∷ rest) fits =
    let e : place + 1 + k ≡ place + suc k = omega arith in
    unprinted_from-skipped (place + 1) k rest (omega arith) ∙ ap (λ p. unprinted_from p 0 (drop k rest)) e

-- a spelling is read, and then what follows it
pub unprinted_from-spelled : (place byte size : ℕ) (text : List ℕ) → first_spelling text ≡ Some (byte, size) → 0 < size → size ≤ length text
    → unprinted_from place 0 text ≡ onto byte (unprinted_from (place + size) 0 (drop size text))
unfolding unprinted_from
unprinted_from-spelled place byte size [] is some fits = absurd (omega arith)
unprinted_from-spelled place byte zero (b ∷ rest) is some fits = absurd (omega arith)
unprinted_from-spelled place byte (suc k) (b ∷ rest) is some fits =
    let behind : suc k - 1 ≡ k = omega arith in
    let next : place + 1 + k ≡ place + suc k = omega arith in
    ap (λ s. spelled_on place s (λ skipped. unprinted_from (place + 1) skipped rest)) is
    ∙ ap (λ skipped. onto byte (unprinted_from (place + 1) skipped rest)) behind
    ∙ ap (onto byte) (unprinted_from-skipped (place + 1) k rest (omega arith))
    ∙ ap (λ p. onto byte (unprinted_from p 0 (drop k rest))) next

-- where no spelling begins is the fault
pub unprinted_from-fault : (place : ℕ) (text : List ℕ) → 0 < length text → first_spelling text ≡ None → unprinted_from place 0 text ≡ Err place
unfolding unprinted_from
unprinted_from-fault place [] some is = absurd (omega arith)
unprinted_from-fault place (b ∷ rest) some is = ap (λ s. spelled_on place s (λ skipped. unprinted_from (place + 1) skipped rest)) is

-- the loop's step: what was read, and what the rest spells, is what the whole text spells
pub goes_on : (front text : List ℕ) (place byte size : ℕ) (whole : Result (List ℕ) ℕ) → first_spelling (drop place text) ≡ Some (byte, size) → 0 < size → size ≤ length (drop place text)
    → onto_all front (unprinted_from place 0 (drop place text)) ≡ whole → onto_all (front ++ byte ∷ []) (unprinted_from (place + size) 0 (drop (place + size) text)) ≡ whole
goes_on front text place byte size whole is some fits so_far =
    let spelled = unprinted_from-spelled place byte size (drop place text) is some fits in
    let after : drop size (drop place text) ≡ drop (place + size) text = drop-drop size place text in
    sym (onto_all-onto front byte (unprinted_from (place + size) 0 (drop (place + size) text))) ∙ (rw (← after) (ap (onto_all front) (sym spelled))) ∙ so_far

pub stops : (front text : List ℕ) (place : ℕ) (whole : Result (List ℕ) ℕ) → place < length text → first_spelling (drop place text) ≡ None
    → onto_all front (unprinted_from place 0 (drop place text)) ≡ whole → whole ≡ Err place
stops front text place whole lt is so_far =
    sym so_far ∙ ap (onto_all front) (unprinted_from-fault place (drop place text) (omega (arith, length-drop {A = ℕ})) is)

pub is_done : (front text : List ℕ) (place : ℕ) (whole : Result (List ℕ) ℕ) → length text ≤ place
    → onto_all front (unprinted_from place 0 (drop place text)) ≡ whole → whole ≡ Ok front
unfolding unprinted_from
is_done front text place whole le so_far =
    let nothing : drop place text ≡ [] = drop_all place text le in
    let read : onto_all front (unprinted_from place 0 (drop place text)) ≡ Ok front = rw nothing (ap (λ (bs : List ℕ). Ok bs) (append-nil front)) in
    sym so_far ∙ read
