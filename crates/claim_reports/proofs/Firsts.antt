-- The first packet of each request, in a map of all packets from the last to the first.
use Rattle.std.proofs.Common.{Less, Equal, Greater, ◌≡◌, ℕ, ◌==◌, ◌&&◌, Bool, true, false, cond, List, [], ◌∷◌, map, refl, ap, ◌∙◌}
use Rattle.std.specs.Prelude.{Option, Some, None, find, option_map, reverse}
use Rattle.std.specs.Option.{option_flatten, option_and_then}
use Rattle.std.specs.Ordering.{eq_by_cmp, is_eq, nat_cmp, ordering_then}
use Rattle.std.specs.declared.cmp.Ordering.{Ordering}
use Rattle.std.specs.Map.{update, update_all}
use Rattle.std.specs.BTreeMap.{BTreeMap, IsFromIterResult, get}
use Rattle.std.proofs.lemmas.List.{map-append, reverse-append}
use Rattle.std.proofs.lemmas.List.Sums.{fold-append}
use Rattle.claim_reports.specs.declared.ruled.Request.{Request}
use Rattle.claim_reports.specs.declared.ruled.Taken.{Taken}
use Rattle.claim_reports.specs.Ruled.{is_of, ruled_at, request_cmp}
use Rattle.claim_reports.proofs.Adding.{at_nat}

-- requests compare as equal where they are
both : (o p : Ordering) → is_eq (ordering_then o p) ≡ (is_eq o && is_eq p)
both Less p = refl
both Equal p = refl
both Greater p = refl

same_request : (r : Request) (t : Taken) → eq_by_cmp request_cmp t.request r ≡ is_of r t
same_request r t =
    both (nat_cmp t.request.payer r.payer) (ordering_then (nat_cmp t.request.pharmacy r.pharmacy) (nat_cmp t.request.number r.number))
    ∙ (λ i. at_nat t.request.payer r.payer i && both (nat_cmp t.request.pharmacy r.pharmacy) (nat_cmp t.request.number r.number) i)
    ∙ (λ i. (t.request.payer == r.payer) && (at_nat t.request.pharmacy r.pharmacy i && at_nat t.request.number r.number i))

abbrev timed : List Taken → List (Request × Option ℕ)
timed taken = map (λ (t : Taken). (t.request, t.time)) taken

time_or : (b : Bool) (t : Taken) (o : Option Taken) → cond b (Some t.time) (option_map (λ (t : Taken). t.time) o) ≡ option_map (λ (t : Taken). t.time) (cond b (Some t) o)
time_or true t o = refl
time_or false t o = refl

first_among : (r : Request) (taken : List Taken)
    → update_all (eq_by_cmp request_cmp) (λ _. None) (timed (reverse taken)) r ≡ option_map (λ (t : Taken). t.time) (find (is_of r) taken)
first_among r [] = refl
first_among r (t ∷ more) =
    let e = eq_by_cmp request_cmp in
    ap (λ (ps : List (Request × Option ℕ)). update_all e (λ _. None) ps r) (ap timed (reverse-append (t ∷ []) more) ∙ map-append (λ (t : Taken). (t.request, t.time)) (reverse more) (t ∷ []))
    ∙ ap (λ (f : Request → Option (Option ℕ)). f r) (fold-append (λ g p. update e g p.0 (Some p.1)) (λ _. None) (timed (reverse more)) ((t.request, t.time) ∷ []))
    ∙ (λ i. cond (same_request r t i) (Some t.time) (first_among r more i)) ∙ time_or (is_of r t) t (find (is_of r) more)

flat : (o : Option Taken) → option_flatten (option_map (λ (t : Taken). t.time) o) ≡ option_and_then (λ (t : Taken). t.time) o
flat None = refl
flat (Some t) = refl

-- what such a map has of requests is when they were ruled
pub times_are : (taken : List Taken) (requests : List Request) (first : BTreeMap Request (Option ℕ)) (times : List (Option ℕ))
    → IsFromIterResult request_cmp (map (λ (t : Taken). (t.request, t.time)) (reverse taken)) first
    → times ≡ map (λ (r : Request). option_flatten (get request_cmp first r)) requests → times ≡ map (ruled_at taken) requests
times_are taken requests first times made are =
    are ∙ (λ i. map (λ (r : Request). (ap option_flatten (made.0 r ∙ first_among r taken) ∙ flat (find (is_of r) taken)) i) requests)
