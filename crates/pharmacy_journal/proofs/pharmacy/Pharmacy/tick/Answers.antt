-- Packets that are seen alike are the same.
use Rattle.std.proofs.lemmas.Result.{IfOk-weaker}
use Rattle.claim_model.specs.Bytes.{bytes_with}
use Rattle.claim_model.specs.Journal.{due}
use Rattle.pharmacy_journal.proofs.Sends.{same_sendings}
use Rattle.pharmacy_journal.proofs.pharmacy.Pharmacy.tick.Goals as goal

pub returns-clause-sent : goal.returns-clause-sent
returns-clause-sent c = λ routes.
    IfOk-weaker c.tick_as.result _ _ (λ sent e. same_sendings sent.items (due (bytes_with routes) c.tick_as.new.self) e) (c.tick_as.ensures.sent routes)
