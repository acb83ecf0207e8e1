use Rattle.std.proofs.Common.{Ok, Err, sym, ap, ◌∙◌}
use Rattle.claim_profile.specs.Ruling.{answer_of}
use Rattle.switch_node.specs.Sent.{content}
use Rattle.switch_node.proofs.Steps.{responded-other, responded-reads}
use Rattle.switch_node.proofs.reading.expect_answer.Goals as goal

pub returns-then-is_request-clause-fault : goal.returns-then-is_request-clause-fault
returns-then-is_request-clause-fault c = λ routes t. responded-other routes t (content c.args.envelope.now) (sym c.if-is_request.ensures)

pub returns-in-Ok-clause-read : goal.returns-in-Ok-clause-read
returns-in-Ok-clause-read c = λ routes t.
    let read = c.in-Ok.ensures.read in
    responded-reads routes t (content c.args.envelope.now) (Ok (record { header = c.in-Ok.field-0; rulings = read.0 })) (sym c.if-is_request.ensures) (ap answer_of (sym c.payload.ensures.value) ∙ read.1)

pub returns-in-Err-clause-fault : goal.returns-in-Err-clause-fault
returns-in-Err-clause-fault c = λ routes t.
    responded-reads routes t (content c.args.envelope.now) (Err c.in-Err.field-0) (sym c.if-is_request.ensures) (ap answer_of (sym c.payload.ensures.value) ∙ c.in-Err.ensures.fault)
