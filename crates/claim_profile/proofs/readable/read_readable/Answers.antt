use Rattle.std.proofs.Common.{sym, ◌∙◌, ap, true, false}
use Rattle.d0_segments.specs.Transmissions.{transmission_parts}
use Rattle.claim_profile.specs.Readable.{is_carried}
use Rattle.claim_profile.proofs.ReadableLemmas.{framed_text}
use Rattle.claim_profile.proofs.readable.read_readable.Goals as goal

pub returns-then-is_carried-clause-readable : goal.returns-then-is_carried-clause-readable
returns-then-is_carried-clause-readable c =
    framed_text c.args.request.now (transmission_parts c.in-Ok.transmission) true c.if-request-gt-LONGEST_REQUEST.false c.in-Ok.ensures.parts
    (ap is_carried (sym c.header.ensures) ∙ (sym c.is_carried.ensures ∙ c.if-is_carried.true))

pub returns-clause-fault : goal.returns-clause-fault
returns-clause-fault c =
    framed_text c.args.request.now (transmission_parts c.in-Ok.transmission) false c.if-request-gt-LONGEST_REQUEST.false c.in-Ok.ensures.parts
    (ap is_carried (sym c.header.ensures) ∙ (sym c.is_carried.ensures ∙ c.if-is_carried.false))
