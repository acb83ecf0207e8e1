use Rattle.std.proofs.Common.{ap, sym, ◌∙◌}
use Rattle.std.proofs.lemmas.Result.{err_from_is_err_and}
use Rattle.d0_header.specs.Response.{Response}
use Rattle.d0_segments.specs.FramedParts.{framed_parts}
use Rattle.claim_profile.proofs.RulingList.{answer_is, answer_fails, an_answer}
use Rattle.claim_profile.proofs.answer_reading.read_said.Goals as goal

pub returns-in_err-rulings-clause-fault : goal.returns-in_err-rulings-clause-fault
returns-in_err-rulings-clause-fault c =
    let p = err_from_is_err_and c.from_residual.result c.from_residual.ensures.1 in
    rw (p.1, p.2) (answer_fails c.args.by c.args.bytes.now (framed_parts c.in-Ok.framed) c.in_err-rulings.field-0.0 c.in-Ok.ensures.parts
    (rw (c.header.ensures, c.body.ensures) at c.in_err-rulings.ensures.fault))

pub returns-clause-read : goal.returns-clause-read
returns-clause-read c =
    answer_is c.args.by c.args.bytes.now (framed_parts c.in-Ok.framed) c.in_ok-rulings.rulings.items c.in-Ok.ensures.parts (rw (c.header.ensures, c.body.ensures) at c.in_ok-rulings.ensures.read)
    ∙ ap (λ (h : Response). an_answer h c.in_ok-rulings.rulings.items) (sym c.header.ensures)
