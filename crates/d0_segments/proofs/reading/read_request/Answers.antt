use Rattle.d0_segments.specs.Framing.{request_kind, transmission_of}
use Rattle.d0_segments.specs.Transmissions.{transmission_parts}
use Rattle.std.proofs.Common.{ap, ◌∙◌}
use Rattle.d0_segments.proofs.Whole.{only}
use Rattle.d0_segments.proofs.reading.read_request.Goals as goal

pub returns-clause-only : goal.returns-clause-only
returns-clause-only c = λ t framed is.
    only request_kind transmission_parts c.args.bytes.now c.read.result c.read.ensures.parts c.read.ensures.fault t (ap (transmission_of request_kind) is ∙ c.request_laws.ensures.again t framed)
