-- Open entries, told one by one.
use Rattle.std.proofs.Common.{◌≡◌, ℕ, zero, suc, ◌+◌, ◌-◌, ◌<◌, ◌≤◌, List, [], ◌∷◌, ◌++◌, length, take, drop, Option, Some, None, refl, sym, ap, ◌∙◌, subst, arith, append_assoc, append-nil, add-one}
use Rattle.std.proofs.lemmas.List.{drop_all}
use Rattle.std.proofs.lemmas.Grind.{flat_map-append}
use Rattle.claim_model.specs.Journal.{Kept}
use Rattle.node_service.specs.Listing.{answer_in, entry_line, entry_lines, open_then, open_numbers, open_from}

-- the entry at a place, and those after it
at : (n place : ℕ) (entries : List Kept) → place < length entries → open_numbers n (drop place entries) ≡ open_then (answer_in entries (suc place)) n (open_numbers (n + 1) (drop (suc place) entries))
at n place [] h = absurd (omega (arith, h))
at n zero (k ∷ entries) h = refl
at n (suc place) (k ∷ entries) h = at n place entries (omega (arith, h))

at_place : (n place : ℕ) (entries : List Kept) → place < length entries → open_numbers n (drop place entries) ≡ open_then (answer_in entries (place + 1)) n (open_numbers (n + 1) (drop (place + 1) entries))
at_place n place entries h = subst (λ (m : ℕ). open_numbers n (drop place entries) ≡ open_then (answer_in entries m) n (open_numbers (n + 1) (drop m entries))) (sym (add-one place)) (at n place entries h)

-- what one entry takes of those that may be told
by_answer : (a : Option (List ℕ)) (n left more : ℕ) (rest : List ℕ) → 0 < left → more ≡ left - length (open_then a n []) → take left (open_then a n rest) ≡ open_then a n [] ++ take more rest
by_answer (Some x) n left more rest h e = let same : left ≡ more = omega (arith, e) in ap (λ (m : ℕ). take m rest) same
by_answer None n zero more rest h e = absurd (omega (arith, h))
by_answer None n (suc left) more rest h e = let same : left ≡ more = omega (arith, e) in ap (λ (m : ℕ). n ∷ take m rest) same

lines_append : (xs ys : List ℕ) → entry_lines (xs ++ ys) ≡ entry_lines xs ++ entry_lines ys
unfolding entry_lines
lines_append xs ys = flat_map-append entry_line xs ys

-- what is told, and then what is left to be told, is all
abbrev pub IsToldBefore : List ℕ → List ℕ → ℕ → ℕ → List Kept → Type 0
IsToldBefore out whole place left entries = out ++ entry_lines (take left (open_numbers (place + 1) (drop place entries))) ≡ whole

pub told_next : (out new whole : List ℕ) (entries : List Kept) (place left more : ℕ) → place < length entries → 0 < left → IsToldBefore out whole place left entries
    → new ≡ out ++ entry_lines (open_then (answer_in entries (place + 1)) (place + 1) []) → more ≡ left - length (open_then (answer_in entries (place + 1)) (place + 1) []) → IsToldBefore new whole (place + 1) more entries
told_next out new whole entries place left more h some so_far adds takes =
    let a = answer_in entries (place + 1) in
    let rest = open_numbers (place + 1 + 1) (drop (place + 1) entries) in
    let one = open_then a (place + 1) [] in
    ap (λ (x : List ℕ). x ++ entry_lines (take more rest)) adds
    ∙ (append_assoc out (entry_lines one) (entry_lines (take more rest))
    ∙ (ap (λ (x : List ℕ). out ++ x) (sym (lines_append one (take more rest)))
    ∙ (ap (λ (x : List ℕ). out ++ entry_lines x) (sym (by_answer a (place + 1) left more rest some takes))
    ∙ (ap (λ (x : List ℕ). out ++ entry_lines (take left x)) (sym (at_place (place + 1) place entries h)) ∙ so_far))))

nothing_left : (out : List ℕ) → out ≡ out ++ entry_lines []
unfolding entry_lines
nothing_left out = sym (append-nil out)

-- no more may be told
pub told_enough : (out whole : List ℕ) (entries : List Kept) (place left : ℕ) → left ≡ 0 → IsToldBefore out whole place left entries → out ≡ whole
told_enough out whole entries place left none so_far =
    nothing_left out ∙ (ap (λ (m : ℕ). out ++ entry_lines (take m (open_numbers (place + 1) (drop place entries)))) (sym none) ∙ so_far)

take_none : (left : ℕ) → take {A = ℕ} left [] ≡ []
take_none zero = refl
take_none (suc left) = refl

-- all entries were asked
pub told_all : (out whole : List ℕ) (entries : List Kept) (place left : ℕ) → length entries ≤ place → IsToldBefore out whole place left entries → out ≡ whole
told_all out whole entries place left h so_far =
    nothing_left out
    ∙ (ap (λ (x : List ℕ). out ++ entry_lines x) (sym (take_none left))
    ∙ (ap (λ (x : List Kept). out ++ entry_lines (take left (open_numbers (place + 1) x))) (sym (drop_all place entries h)) ∙ so_far))

-- nothing was told yet
pub told_first : (out : List ℕ) (entries : List Kept) (number place count : ℕ) → place ≡ number - 1 → IsToldBefore out (out ++ entry_lines (open_from number count entries)) place count entries
told_first out entries number place count e = ap (λ (p : ℕ). out ++ entry_lines (take count (open_numbers (p + 1) (drop p entries)))) e
