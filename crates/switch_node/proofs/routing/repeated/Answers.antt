use Rattle.std.proofs.Common.{◌≡◌, true, Some, Ok, bytes_eq, sym, ap, ◌∙◌}
use Rattle.claim_model.specs.Table.{answer_back}
use Rattle.claim_model.specs.Bytes.{bytes_with}
use Rattle.switch_node.specs.Sent.{content, header_in, routed_as}
use Rattle.switch_node.proofs.Steps.{requested-answered}
use Rattle.switch_node.proofs.routing.repeated.Goals as goal

pub returns-in_ok-back-in-Some-clause-routed : goal.returns-in_ok-back-in-Some-clause-routed
returns-in_ok-back-in-Some-clause-routed c = λ t.
    let ctx = bytes_with c.args.routes.now in
    let same : bytes_eq c.args.slot.now.request c.args.envelope.now.payload ≡ true = ap (bytes_eq c.args.slot.now.request) (sym c.payload.ensures.value) ∙ sym c.is_of.ensures ∙ c.if-not-is_of.false in
    let came : c.args.slot.now.answer ≡ Some c.in-Some.answer.now = sym c.in-Some.ensures.value in
    let is : routed_as c.in_ok-back-in-Some.field-0 ≡ answer_back ctx c.args.envelope.now.id c.in-Some.answer.now
    = c.in_ok-back-in-Some.ensures c.args.routes.now ∙ (λ j. answer_back ctx (c.id.ensures j) c.in-Some.answer.now) in
    requested-answered ctx t (content c.args.envelope.now) (header_in c.args.envelope.now) c.args.slot.now c.in-Some.answer.now same came
    ∙ (λ j. Ok (record { table = t; routed = sym is j }))
