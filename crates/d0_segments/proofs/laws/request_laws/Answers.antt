use Rattle.d0_segments.specs.Framing.{request_kind}
use Rattle.d0_header.specs.Request.{IsRequest}
use Rattle.d0_segments.proofs.Whole.{again, one_text}
use Rattle.d0_segments.proofs.laws.request_laws.Goals as goal

pub returns-clause-again : goal.returns-clause-again
returns-clause-again c = λ t framed. again IsRequest request_kind c.request_text_laws.ensures.width c.request_text_laws.ensures.passes c.request_text_laws.ensures.again t framed

pub returns-clause-one_text : goal.returns-clause-one_text
returns-clause-one_text c = λ t u first second same. one_text IsRequest request_kind c.request_text_laws.ensures.width c.request_text_laws.ensures.passes c.request_text_laws.ensures.again t u first second same
