use Rattle.std.proofs.Common.{None, refl, subst, sym, ap, ◌∙◌}
use Rattle.std.specs.Prelude.{IsSome}
use Rattle.claim_profile.specs.Readable.{readable_header}
use Rattle.switch_node.specs.Sent.{content, header_in}
use Rattle.switch_node.proofs.Steps.{requested-other, requested-read, request-header}
use Rattle.switch_node.proofs.reading.expect_request.Goals as goal

pub returns-then-not-is_request-clause-fault : goal.returns-then-not-is_request-clause-fault
returns-then-not-is_request-clause-fault c = λ routes t. requested-other routes t (content c.args.envelope.now) (sym c.if-not-is_request.ensures)

pub returns-in-Some-clause-readable : goal.returns-in-Some-clause-readable
returns-in-Some-clause-readable c =
    (sym c.if-not-is_request.ensures, subst IsSome (sym (ap readable_header (sym c.payload.ensures.value) ∙ c.in-Some.ensures.readable)) refl)

pub returns-in-Some-clause-header : goal.returns-in-Some-clause-header
unfolding header_in
returns-in-Some-clause-header c = λ routes t.
    request-header routes t (content c.args.envelope.now)
    (sym c.if-not-is_request.ensures, subst IsSome (sym (ap readable_header (sym c.payload.ensures.value) ∙ c.in-Some.ensures.readable)) refl)

pub returns-in-None-clause-fault : goal.returns-in-None-clause-fault
returns-in-None-clause-fault c = λ routes t.
    requested-read routes t (content c.args.envelope.now) None (sym c.if-not-is_request.ensures) (ap readable_header (sym c.payload.ensures.value) ∙ c.in-None.ensures.readable)
