use Rattle.std.proofs.Common.{subst, refl, None, ℕ, List}
use Rattle.std.proofs.lemmas.Result.{err_from_is_err_and}
use Rattle.claim_model.specs.Bytes.{bytes_with}
use Rattle.settings_digest.proofs.Keeping.{under_is}
use Rattle.settings_digest.specs.Digests.{digest_under}
use Rattle.log_audit.specs.Given.{bytes_of, read_by}
use Rattle.log_audit.specs.Refused.{AreNoLogs}
use Rattle.log_audit.specs.Calls.{AreKept}
use Rattle.log_audit.proofs.Refusing.{logs_refused}
use Rattle.log_audit.proofs.CallRows.{table_is}
use Rattle.log_audit.proofs.calls.calls_table.Goals as goal

pub returns-in_err-put_logs-clause-refused : goal.returns-in_err-put_logs-clause-refused
returns-in_err-put_logs-clause-refused c =
    let p = err_from_is_err_and c.from_residual-in_err-put_logs.result c.from_residual-in_err-put_logs.ensures.1 in
    let why = c.in_err-put_logs.field-0.0 in
    rw (p.1, p.2) (logs_refused c.args.text.now (read_by (digest_under c.args.text.now)) (bytes_of c.args.logs.items) None c.in_ok-settings.settings why
    c.in_ok-settings.ensures.spelled refl
    (subst (λ (digest : List ℕ → List ℕ). AreNoLogs (read_by digest) (bytes_of c.args.logs.items) why) (under_is c.args.text.now c.in_ok-digests.digests c.in_ok-digests.ensures) c.in_err-put_logs.ensures.refused))

pub returns-clause-given : goal.returns-clause-given
returns-clause-given c =
    let told = c.in_ok-put_logs.ensures.told in
    record {
      logs = told.logs;
      read = subst (λ (digest : List ℕ → List ℕ). AreKept digest (bytes_of c.args.logs.items) told.logs) (under_is c.args.text.now c.in_ok-digests.digests c.in_ok-digests.ensures) told.read;
      is = λ routes. table_is (bytes_with routes) told.logs _ c.put_names.new.out.items c.put_logs.new.out.items c.new-out.ensures.items c.in_ok-put_names.ensures (told.is routes);
    }
