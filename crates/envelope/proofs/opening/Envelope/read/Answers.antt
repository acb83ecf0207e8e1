use Rattle.std.proofs.Common.{◌<◌, ℕ, ◌∙◌, ap, arith, get_or}
use Rattle.envelope.specs.Opening.{envelope_of}
use Rattle.envelope.proofs.Unfolded.{read_is_text}
use Rattle.envelope.proofs.Spelled.{text_opens}
use Rattle.envelope.proofs.opening.Envelope.read.Goals as goal

pub returns-clause-found : goal.returns-clause-found
returns-clause-found c =
    let are : (i : ℕ) → get_or c.args.bytes.now i 0 < 256 = λ i. omega (arith, c.type_inv.bytes i) in
    read_is_text c.args.bytes.ref_ptr c.args.bytes.now c.open.result are c.open.ensures

pub returns-clause-only : goal.returns-clause-only
returns-clause-only c = λ kind id payload good short spelled.
    c.open.ensures ∙ ap (envelope_of c.args.bytes.ref_ptr) spelled ∙ text_opens c.args.bytes.ref_ptr kind id payload good short
