use Rattle.std.proofs.Common.{sym, ◌∙◌, ap, true, false}
use Rattle.d0_segments.specs.FramedParts.{framed_parts}
use Rattle.claim_profile.specs.Readable.{is_carried}
use Rattle.claim_profile.proofs.ReadableLemmas.{framed_text}
use Rattle.claim_profile.proofs.readable.check_readable.Goals as goal

pub returns-then-is_carried-clause-readable : goal.returns-then-is_carried-clause-readable
returns-then-is_carried-clause-readable c =
    framed_text c.args.request.now (framed_parts c.in-Ok.framed) true c.if-request-gt-LONGEST_REQUEST.false c.in-Ok.ensures.parts
    (ap is_carried (sym c.header.ensures) ∙ (sym c.is_carried.ensures ∙ c.if-is_carried.true))

pub returns-else-is_carried-clause-readable : goal.returns-else-is_carried-clause-readable
returns-else-is_carried-clause-readable c =
    framed_text c.args.request.now (framed_parts c.in-Ok.framed) false c.if-request-gt-LONGEST_REQUEST.false c.in-Ok.ensures.parts
    (ap is_carried (sym c.header.ensures) ∙ (sym c.is_carried.ensures ∙ c.if-is_carried.false))
