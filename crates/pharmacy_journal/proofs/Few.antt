-- A tick sends no entry twice.
use Rattle.std.proofs.Common.{◌≡◌, ℕ, ◌+◌, ◌%◌, ◌≤◌, true, false, cond, eqb, List, [], ◌∷◌, ◌++◌, length, arith, length-append}
use Rattle.std.proofs.lemmas.List.{length-map}
use Rattle.claim_model.specs.Context.{Context}
use Rattle.claim_model.specs.Journal.{Journal, Entry, State, Waits, Has, due, due_from, due_by, sending, ticked, ticked_state, circle}

-- an entry is due at most one packet
due_one : (ctx : Context) (j : Journal) (number : ℕ) (request : List ℕ) (state : State) → length (due_by ctx j number request state) ≤ 1
due_one ctx j number request (Waits phase) =
    elim (eqb (phase % j.rule.again) 0) as (λ b. length (cond b (sending ctx j number phase request ∷ []) []) ≤ 1) [ true ↦ omega arith | false ↦ omega arith ]
due_one ctx j number request (Has answer) = omega arith

due_few : (ctx : Context) (j : Journal) (number : ℕ) (es : List Entry) → length (due_from ctx j number es) ≤ length es
due_few ctx j number [] = omega arith
due_few ctx j number (e ∷ es) =
    let one = due_one ctx j number e.request e.state in
    let more = due_few ctx j (number + 1) es in
    let joined : length (due_by ctx j number e.request e.state ++ due_from ctx j (number + 1) es) ≡ length (due_by ctx j number e.request e.state) + length (due_from ctx j (number + 1) es) =
    length-append (due_by ctx j number e.request e.state) (due_from ctx j (number + 1) es) in
    omega arith

-- no more than there are entries
pub due_at_most : (ctx : Context) (j : Journal) → length (due ctx (ticked j)) ≤ length j.entries
unfolding due ticked
due_at_most ctx j =
    let k = ticked j in
    let few : length (due_from ctx k 1 k.entries) ≤ length k.entries = due_few ctx k 1 k.entries in
    let same : length k.entries ≡ length j.entries = length-map j.entries (λ (e : Entry). let n : Entry = record { request = e.request; state = ticked_state (circle j.rule) e.state } in n) in
    omega arith
