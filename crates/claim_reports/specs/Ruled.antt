-- When a request was ruled, by the packets that payers took.
use Rattle.std.specs.Prelude.{ℕ, ◌==◌, ◌&&◌, Bool, List, Option, find}
use Rattle.std.specs.Option.{option_and_then}
use Rattle.std.specs.Ordering.{nat_cmp, ordering_then}
use Rattle.std.specs.declared.cmp.Ordering.{Ordering}
use Rattle.claim_reports.specs.declared.ruled.Request.{Request}
use Rattle.claim_reports.specs.declared.ruled.Taken.{Taken}

-- a packet has a request
abbrev pub is_of : Request → Taken → Bool
is_of r t = t.request.payer == r.payer && (t.request.pharmacy == r.pharmacy && t.request.number == r.number)

-- the time of the first packet with a request, where its payer's host said one
abbrev pub ruled_at : List Taken → Request → Option ℕ
ruled_at taken r = option_and_then (λ (t : Taken). t.time) (find (is_of r) taken)

-- by payer, by pharmacy and by number
abbrev pub request_cmp : Request → Request → Ordering
request_cmp r q = ordering_then (nat_cmp r.payer q.payer) (ordering_then (nat_cmp r.pharmacy q.pharmacy) (nat_cmp r.number q.number))
