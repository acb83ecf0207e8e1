-- What is known of a packet that the rule does not refuse as unreadable.
use Rattle.std.proofs.Common.{◌≡◌, true, false, cond, Err, refl, ap, ◌∙◌}
use Rattle.std.specs.Prelude.{◌≢◌}
use Rattle.envelope.specs.Envelope.{Opened}
use Rattle.bin_routes.specs.Table.{RouteMaps}
use Rattle.claim_model.specs.Words.{Envelope}
use Rattle.claim_model.specs.Bytes.{bytes_with}
use Rattle.claim_model.specs.Readable.{is_request}
use Rattle.claim_model.specs.declared.refusal.Refusal.TheVariants.{Unreadable}
use Rattle.claim_model.specs.Journal.{Journal, heard}
use Rattle.claim_model.specs.Table.{Table, requested, responded}
use Rattle.claim_model.specs.Node.{Refused, after_hearing, after_request, after_response}
use Rattle.switch_node.specs.Sent.{content}
use Rattle.node_state.specs.Taking.{hears, switch_handles}

-- a switch that does not refuse a request as unreadable
pub readable_request : (routes : RouteMaps) (t : Table) (o : Opened) → is_request (content o) ≡ true → switch_handles routes t o ≢ Refused Unreadable → requested (bytes_with routes) t (content o) ≢ Err Unreadable
readable_request routes t o is h = λ unreadable.
    h (ap (λ b. cond b (after_request o.id (requested (bytes_with routes) t (content o))) (after_response o.id (responded (bytes_with routes) t (content o)))) is ∙ ap (after_request o.id) unreadable)

-- a response is responded to alike, whatever the routes are
responds_alike : (r s : RouteMaps) (t : Table) (e : Envelope) → responded (bytes_with r) t e ≡ responded (bytes_with s) t e
unfolding responded
responds_alike r s t e = refl

-- a response
pub readable_response : (routes : RouteMaps) (t : Table) (o : Opened) → is_request (content o) ≡ false → switch_handles routes t o ≢ Refused Unreadable → (r : RouteMaps) → responded (bytes_with r) t (content o) ≢ Err Unreadable
readable_response routes t o is h = λ r unreadable.
    h (ap (λ b. cond b (after_request o.id (requested (bytes_with routes) t (content o))) (after_response o.id (responded (bytes_with routes) t (content o)))) is
    ∙ ap (after_response o.id) (responds_alike routes r t (content o) ∙ unreadable))

-- an answer is heard alike, whatever the routes are
heard_alike : (r s : RouteMaps) (j : Journal) (e : Envelope) → heard (bytes_with r) j e ≡ heard (bytes_with s) j e
unfolding heard
heard_alike r s j e = refl

-- a pharmacy that does not refuse an answer as unreadable
pub readable_answer : (routes : RouteMaps) (j : Journal) (o : Opened) → hears routes j o ≢ Refused Unreadable → (r : RouteMaps) → heard (bytes_with r) j (content o) ≢ Err Unreadable
readable_answer routes j o h = λ r unreadable. h (ap after_hearing (heard_alike routes r j (content o) ∙ unreadable))
