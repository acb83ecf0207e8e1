use Rattle.std.proofs.Common.{◌≡◌, ◌||◌, drop}
use Rattle.claim_model.specs.Words.{Auth}
use Rattle.pharmacy_journal.specs.Counting.{has_auth}
use Rattle.log_audit.specs.Tables.{names_auth}
use Rattle.log_audit.proofs.tables.counted.take_payments.Given as goal

-- the authorizations so far and those of the payments that are left are all
abbrev pub invariant-loop-payment : goal.invariant-loop-payment
invariant-loop-payment l = (a : Auth) → (has_auth l.auths.keys a || names_auth (drop l.payment-index l.paid) a) ≡ (has_auth l.initial.auths.keys a || names_auth l.paid a)
