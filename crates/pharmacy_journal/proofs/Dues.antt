-- What is due: the packets of the entries at the places that are due.
use Rattle.std.proofs.Common.{◌≡◌, ℕ, suc, ◌+◌, ◌%◌, true, false, cond, eqb, List, [], ◌∷◌, ◌++◌, Some, refl, sym, ap, ◌∙◌, arith, zero-add}
use Rattle.std.specs.List.{slice_get, flat_map}
use Rattle.bin_routes.specs.Table.{RouteMaps}
use Rattle.claim_model.specs.Bytes.{bytes_with}
use Rattle.claim_model.specs.Context.{Context}
use Rattle.claim_model.specs.Journal.{Journal, Entry, State, Waits, Has, Sending, due, due_from, due_by, ticked}
use Rattle.pharmacy_journal.specs.Places.{places_from}
use Rattle.pharmacy_journal.specs.Sendings.{packet_of, packet_in, packet_by, is_due_in, is_due_entry, due_packets}

-- what an entry is due, and what follows it
due_step : (j : Journal) (ctx : Context) (number place : ℕ) (request : List ℕ) (state : State) (f : ℕ → List Sending) (rest : List ℕ) →
    ((phase : ℕ) → Rattle.claim_model.specs.Journal.sending ctx j number phase request ≡ packet_of j number phase request) → f place ≡ packet_in j number request state →
    due_by ctx j number request state ++ flat_map f rest ≡ flat_map f (cond (is_due_in j.rule.again state) (place ∷ rest) rest)
due_step j ctx number place request (Has answer) f rest alike at = refl
due_step j ctx number place request (Waits phase) f rest alike at =
    let here : Rattle.claim_model.specs.Journal.sending ctx j number phase request ∷ [] ≡ f place = ap (λ (p : Sending). p ∷ []) (alike phase) ∙ sym at in
    elim (eqb (phase % j.rule.again) 0) as (λ b. cond b (Rattle.claim_model.specs.Journal.sending ctx j number phase request ∷ []) [] ++ flat_map f rest ≡ flat_map f (cond b (place ∷ rest) rest))
    [ true ↦ ap (λ ps. ps ++ flat_map f rest) here | false ↦ refl ]

due_all : (routes : RouteMaps) (j : Journal) (all : List Entry) (m : ℕ) (es : List Entry) → ((k : ℕ) → slice_get all (m + k) ≡ slice_get es k) →
    due_from (bytes_with routes) j (m + 1) es ≡ flat_map (λ place. packet_by j (place + 1) (slice_get all place)) (places_from (is_due_entry j.rule.again) m es)
due_all routes j all m [] h = refl
due_all routes j all m (e ∷ es) h =
    let z : m + 0 ≡ m = omega arith in
    let at : slice_get all m ≡ Some e = ap (slice_get all) (sym z) ∙ h 0 in
    let ih = due_all routes j all (m + 1) es (λ k. let s : m + 1 + k ≡ m + suc k = omega arith in ap (slice_get all) s ∙ h (suc k)) in
    ap (λ ps. due_by (bytes_with routes) j (m + 1) e.request e.state ++ ps) ih
    ∙ due_step j (bytes_with routes) (m + 1) m e.request e.state (λ place. packet_by j (place + 1) (slice_get all place)) (places_from (is_due_entry j.rule.again) (m + 1) es) (λ phase. refl) (ap (packet_by j (m + 1)) at)

-- the model's list of what a tick sends
pub due_is : (routes : RouteMaps) (j : Journal) → due (bytes_with routes) j ≡ due_packets j
unfolding due due_packets
due_is routes j = due_all routes j j.entries 0 j.entries (λ k. ap (slice_get j.entries) (zero-add k))
