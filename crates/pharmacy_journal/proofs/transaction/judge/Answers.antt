use Rattle.std.proofs.Common.{◌∙◌}
use Rattle.d0_header.specs.Request.{request_of}
use Rattle.claim_profile.proofs.Headers.{readable_cut}
use Rattle.pharmacy_journal.proofs.ReadingLemmas.{settles_at}
use Rattle.pharmacy_journal.proofs.transaction.judge.Goals as goal

pub returns-then-fits-clause-ok : goal.returns-then-fits-clause-ok
returns-then-fits-clause-ok c =
    settles_at c.args.request.now c.args.answer.now (request_of c.args.request.now) _ (readable_cut c.args.request.now c.requires).1 c.in-Ok.ensures.read.1 ∙ (cc)

pub returns-else-fits-clause-fault : goal.returns-else-fits-clause-fault
returns-else-fits-clause-fault c = λ _.
    settles_at c.args.request.now c.args.answer.now (request_of c.args.request.now) _ (readable_cut c.args.request.now c.requires).1 c.in-Ok.ensures.read.1 ∙ (cc)
