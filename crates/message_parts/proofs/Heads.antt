-- The parts of a head, one more.
use Rattle.std.proofs.Common.{◌≡◌, ◌≤◌, ◌<◌, ℕ, ◌+◌, ◌-◌, List, [], ◌∷◌, ◌++◌, inl, inr, length, take, drop, get_or, min, refl, ap, sym, ◌∙◌, arith}
use Rattle.std.proofs.lemmas.List.{append_assoc, append-nil, drop_more, take_all, drop_all, length-take}
use Rattle.message_parts.specs.declared.part.PartKind.{PartKind}
use Rattle.message_parts.specs.Parts.{PartSeen, Cut}
use Rattle.message_parts.specs.Steps.{filled_part, head_parts, width_of}
use Rattle.message_parts.specs.Added.{next_bytes, some_part}
use Rattle.message_parts.proofs.Bytes.{either, taken_front, left_behind}

-- of no bytes there are no parts
pub head_none : (rows : List (PartKind × ℕ)) (place : ℕ) → head_parts rows place [] ≡ []
head_none [] place = refl
head_none (row ∷ rows) place =
    ap (λ (bytes : List ℕ). filled_part row.0 place bytes ++ head_parts rows (place + row.1) (drop row.1 [])) (take_all row.1 [] (omega arith))
    ∙ ap (head_parts rows (place + row.1)) (drop_all row.1 [] (omega arith)) ∙ head_none rows (place + row.1)

-- the place of what is left does not matter where nothing is
rest_of_head : (rows : List (PartKind × ℕ)) (place width left count : ℕ) (bytes : List ℕ) → length bytes ≤ left → count ≡ min width left
    → head_parts rows (place + count) (drop width bytes) ≡ head_parts rows (place + width) (drop width bytes)
rest_of_head rows place width left count bytes le e = elim (either width left) [
  | inl h ↦ let k : count ≡ width = omega (arith, e) in ap (λ n. head_parts rows (place + n) (drop width bytes)) k
  | inr h ↦
      let none : drop width bytes ≡ [] = drop_all width bytes (omega arith) in
      ap (head_parts rows (place + count)) none ∙ head_none rows (place + count) ∙ sym (head_none rows (place + width)) ∙ ap (head_parts rows (place + width)) (sym none)
]

-- one row more
head_row : (c d : Cut) (row : PartKind × ℕ) (rows : List (PartKind × ℕ)) (left count : ℕ) → count ≡ min row.1 left
    → d.whole ≡ c.whole → d.place ≡ c.place + count → d.parts ≡ c.parts ++ some_part c row.0 count
    → d.parts ++ head_parts rows d.place (next_bytes d (left - count)) ≡ c.parts ++ head_parts (row ∷ rows) c.place (next_bytes c left)
head_row c d row rows left count e whole place parts =
    let bytes : List ℕ = next_bytes c left in
    let first : next_bytes c count ≡ take row.1 bytes = taken_front (drop c.place c.whole) row.1 left count e in
    let behind : next_bytes d (left - count) ≡ drop row.1 bytes =
    ap (λ (w : List ℕ). take (left - count) (drop d.place w)) whole ∙ ap (λ p. take (left - count) (drop p c.whole)) place ∙ left_behind c.whole c.place row.1 left count e in
    let short : length bytes ≤ left = omega (arith, length-take left (drop c.place c.whole)) in
    let rest : head_parts rows d.place (next_bytes d (left - count)) ≡ head_parts rows (c.place + row.1) (drop row.1 bytes) =
    ap (head_parts rows d.place) behind ∙ ap (λ p. head_parts rows p (drop row.1 bytes)) place ∙ rest_of_head rows c.place row.1 left count bytes short e in
    ap (λ (ps : List PartSeen). ps ++ head_parts rows d.place (next_bytes d (left - count))) parts
    ∙ append_assoc c.parts (some_part c row.0 count) (head_parts rows d.place (next_bytes d (left - count)))
    ∙ ap (λ (bs : List ℕ). c.parts ++ (filled_part row.0 c.place bs ++ head_parts rows d.place (next_bytes d (left - count)))) first
    ∙ ap (λ (ps : List PartSeen). c.parts ++ (filled_part row.0 c.place (take row.1 bytes) ++ ps)) rest

-- the next row of a table
pub head_next : (rows : List (PartKind × ℕ)) (i : ℕ) (c d : Cut) (none : PartKind × ℕ) (left count : ℕ) (all : List PartSeen) → i < length rows
    → count ≡ min (get_or rows i none).1 left → d.whole ≡ c.whole → d.place ≡ c.place + count → d.parts ≡ c.parts ++ some_part c (get_or rows i none).0 count
    → c.parts ++ head_parts (drop i rows) c.place (next_bytes c left) ≡ all
    → d.parts ++ head_parts (drop (i + 1) rows) d.place (next_bytes d (left - count)) ≡ all
head_next rows i c d none left count all lt e whole place parts before =
    head_row c d (get_or rows i none) (drop (i + 1) rows) left count e whole place parts
    ∙ ap (λ (rs : List (PartKind × ℕ)). c.parts ++ head_parts rs c.place (next_bytes c left)) (sym (drop_more rows i none lt)) ∙ before

-- no row is left
pub head_done : (rows : List (PartKind × ℕ)) (i : ℕ) (c : Cut) (left : ℕ) (all : List PartSeen) → length rows ≤ i → c.parts ++ head_parts (drop i rows) c.place (next_bytes c left) ≡ all → c.parts ≡ all
head_done rows i c left all ge before =
    sym (append-nil c.parts) ∙ ap (λ (rs : List (PartKind × ℕ)). c.parts ++ head_parts rs c.place (next_bytes c left)) (sym (drop_all i rows ge)) ∙ before

-- the widths that are left
pub widths_next : (rows : List (PartKind × ℕ)) (i : ℕ) (none : PartKind × ℕ) → i < length rows → width_of (drop i rows) ≡ (get_or rows i none).1 + width_of (drop (i + 1) rows)
widths_next rows i none lt = ap width_of (drop_more rows i none lt)

pub widths_done : (rows : List (PartKind × ℕ)) (i : ℕ) → length rows ≤ i → width_of (drop i rows) ≡ 0
widths_done rows i ge = ap width_of (drop_all i rows ge)
