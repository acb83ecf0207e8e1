use Rattle.std.proofs.Common.{◌≡◌, sym, ap, ◌∙◌}
use Rattle.bin_routes.specs.Table.{RouteMaps}
use Rattle.claim_model.specs.Readable.{rejection}
use Rattle.claim_model.specs.Table.{answer_back, routed_by}
use Rattle.claim_model.specs.Bytes.{bytes_with}
use Rattle.switch_node.specs.Sent.{content, header_in, routed_as}
use Rattle.switch_node.proofs.Steps.{IfOk-map}
use Rattle.switch_node.proofs.routing.sent.Goals as goal

pub returns-in_ok-answer-in-None : goal.returns-in_ok-answer-in-None
returns-in_ok-answer-in-None c =
    IfOk-map c.back.result
    (λ r. (routes : RouteMaps) → routed_as r ≡ answer_back (bytes_with routes) c.id.result c.deref.result.now)
    (λ r. (routes : RouteMaps) → routed_as r ≡ routed_by (bytes_with routes) (content c.args.envelope.now) (header_in c.args.envelope.now) c.args.route)
    (λ r is routes. is routes
    ∙ (λ j. answer_back (bytes_with routes) (c.id.ensures j) ((c.deref.ensures.value ∙ c.in_ok-answer-in-None.ensures.text routes ∙ ap (rejection (bytes_with routes)) c.header_of.ensures) j))
    ∙ ap (routed_by (bytes_with routes) (content c.args.envelope.now) (header_in c.args.envelope.now)) (sym c.in-None.is))
    c.back.ensures
