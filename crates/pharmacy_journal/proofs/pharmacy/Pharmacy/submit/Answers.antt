use Rattle.std.proofs.Common.{ap, ◌∙◌}
use Rattle.std.proofs.lemmas.Result.{err_from_is_err_and}
use Rattle.claim_model.specs.Words.{TxnId}
use Rattle.pharmacy_journal.specs.Transactions.{Submission}
use Rattle.pharmacy_journal.specs.Reading.{is_own_request}
use Rattle.pharmacy_journal.proofs.ReadingLemmas.{IsAdmitted-from}
use Rattle.pharmacy_journal.proofs.Answering.{cause_refuses, submitted_is}
use Rattle.pharmacy_journal.proofs.pharmacy.Pharmacy.submit.Goals as goal

pub returns-in_err-admit-clause-fault : goal.returns-in_err-admit-clause-fault
returns-in_err-admit-clause-fault c = λ routes.
    let p = err_from_is_err_and c.from_residual.result c.from_residual.ensures.1 in
    rw (p.1, p.2) (cause_refuses routes c.args.self.now c.args.text.now _ c.in_err-admit.ensures.fault)

pub next_txn-requires : goal.next_txn-requires
next_txn-requires c = (IsAdmitted-from c.args.self.now c.args.text.now c.in_ok-admit.ensures.ok).readable

pub keep-requires-clause-own : goal.keep-requires-clause-own
keep-requires-clause-own c =
    ap (λ (t : Submission). is_own_request c.args.self.now.settings t.request) c.in_ok-txn.ensures ∙ (IsAdmitted-from c.args.self.now c.args.text.now c.in_ok-admit.ensures.ok).own

pub returns-clause-ok : goal.returns-clause-ok
returns-clause-ok c = λ routes.
    submitted_is routes c.args.self.now c.keep.new.self c.args.text.now c.in_ok-txn.txn c.number-number.result c.in_ok-sent.sent c.in_ok-admit.ensures.ok c.in_ok-txn.ensures
    (c.number-number.ensures.value ∙ ap (λ (i : TxnId). i.number) c.id.ensures) c.in_ok-sent.ensures c.in_ok-keep.ensures.ok
