use Rattle.std.proofs.Common.{ap, sym, ◌∙◌}
use Rattle.std.proofs.lemmas.Result.{err_from_is_err_and}
use Rattle.d0_header.specs.Response.{Response}
use Rattle.d0_segments.specs.FramedParts.{framed_parts}
use Rattle.claim_profile.specs.declared.answer_reading.Speaker.TheVariants.{Book}
use Rattle.claim_profile.proofs.RulingList.{answer_is, answer_err, an_answer}
use Rattle.claim_profile.proofs.answer_reading.check_answer.Goals as goal

pub returns-in_err-check_rulings-clause-fault : goal.returns-in_err-check_rulings-clause-fault
returns-in_err-check_rulings-clause-fault c =
    let p = err_from_is_err_and c.from_residual.result c.from_residual.ensures.1 in
    rw (p.1, p.2) (answer_err Book c.args.bytes.now (framed_parts c.in-Ok.framed) c.in_err-check_rulings.field-0.0 c.in-Ok.ensures.parts (rw (c.header.ensures, c.body.ensures) at c.in_err-check_rulings.ensures.fault))

pub returns-clause-read : goal.returns-clause-read
returns-clause-read c =
    let read = rw (c.header.ensures, c.body.ensures) at c.in_ok-check_rulings.ensures.read in (
      read.0,
      answer_is Book c.args.bytes.now (framed_parts c.in-Ok.framed) read.0 c.in-Ok.ensures.parts read.1 ∙ ap (λ (h : Response). an_answer h read.0) (sym c.header.ensures),
    )
