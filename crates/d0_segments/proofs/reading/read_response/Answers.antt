use Rattle.d0_segments.specs.Framing.{response_kind, transmission_of}
use Rattle.d0_segments.specs.Transmissions.{transmission_parts}
use Rattle.std.proofs.Common.{ap, ◌∙◌}
use Rattle.d0_segments.proofs.Whole.{only}
use Rattle.d0_segments.proofs.reading.read_response.Goals as goal

pub returns-clause-only : goal.returns-clause-only
returns-clause-only c = λ t framed is.
    only response_kind transmission_parts c.args.bytes.now c.read.result c.read.ensures.parts c.read.ensures.fault t (ap (transmission_of response_kind) is ∙ c.response_laws.ensures.again t framed)
