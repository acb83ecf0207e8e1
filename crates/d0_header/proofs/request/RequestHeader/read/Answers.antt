use Rattle.std.proofs.Common.{get_or, Ok, sym, ap, ◌∙◌, arith}
use Rattle.d0_header.proofs.Passing.{counted}
use Rattle.d0_header.proofs.RequestLemmas.{passes_from_none, text_stands, sound, none_again, same_again}
use Rattle.d0_header.proofs.request.RequestHeader.read.Goals as goal

pub cut-requires : goal.cut-requires
cut-requires c =
    let none = sym c.fault_in.ensures ∙ c.in-None.is in
    let p = passes_from_none c.args.bytes.now none in
    let low = (counted (get_or c.args.bytes.now 20 0) p.count).0 in
    record { long = p.long; sound = sound c.args.bytes.now none; digit = omega arith }

pub returns-in-Some-clause-only : goal.returns-in-Some-clause-only
returns-in-Some-clause-only c = λ h rest w e.
    absurd (cc (none_again c.args.bytes.now h rest w e, c.fault_in.ensures, c.in-Some.is))

pub returns-in-None-clause-found : goal.returns-in-None-clause-found
returns-in-None-clause-found c =
    let none = sym c.fault_in.ensures ∙ c.in-None.is in
    rw c.cut.ensures (sound c.args.bytes.now none, text_stands c.args.bytes.now none)

pub returns-in-None-clause-only : goal.returns-in-None-clause-only
returns-in-None-clause-only c = λ h rest w e.
    ap Ok (c.cut.ensures ∙ same_again c.args.bytes.now h rest w e)
