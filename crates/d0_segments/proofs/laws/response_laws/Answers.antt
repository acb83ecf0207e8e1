use Rattle.d0_segments.specs.Framing.{response_kind}
use Rattle.d0_header.specs.Response.{IsResponse}
use Rattle.d0_segments.proofs.Whole.{again, one_text}
use Rattle.d0_segments.proofs.laws.response_laws.Goals as goal

pub returns-clause-again : goal.returns-clause-again
returns-clause-again c = λ t framed. again IsResponse response_kind c.response_text_laws.ensures.width c.response_text_laws.ensures.passes c.response_text_laws.ensures.again t framed

pub returns-clause-one_text : goal.returns-clause-one_text
returns-clause-one_text c = λ t u first second same. one_text IsResponse response_kind c.response_text_laws.ensures.width c.response_text_laws.ensures.passes c.response_text_laws.ensures.again t u first second same
