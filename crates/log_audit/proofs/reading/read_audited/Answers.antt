use Rattle.std.proofs.Common.{◌≡◌, ◌∙◌, ap, subst, None, ℕ, List, map}
use Rattle.std.proofs.lemmas.Result.{err_from_is_err_and}
use Rattle.node_log.specs.LogSeen.{logs_seen}
use Rattle.log_audit.specs.Given.{AreLogs, Given, digest_of, given_of, read_given, torn_given}
use Rattle.log_audit.specs.Refused.{AreNoLogs}
use Rattle.log_audit.specs.Names.{IsMisnamed, misnamed_log}
use Rattle.log_audit.proofs.LogReading.{given_is}
use Rattle.log_audit.proofs.Refusing.{logs_refused, names_refused}
use Rattle.log_audit.proofs.reading.read_audited.Goals as goal

pub returns-in_err-read-clause-refused : goal.returns-in_err-read-clause-refused
returns-in_err-read-clause-refused c =
    let text = c.args.text.items in
    let given = given_of c.args.logs.items in
    let s = c.in_ok-settings.settings in
    let why = c.in_err-read.field-0.0 in
    let alike = given_is text c.in_ok-digests.digests (rw c.as_slice-2.ensures.value at c.in_ok-digests.ensures) in
    let p = err_from_is_err_and c.from_residual-in_err-read.result c.from_residual-in_err-read.ensures.1 in
    rw (p.1, p.2) (logs_refused text (read_given (digest_of text)) given (misnamed_log (digest_of text) given) s why
    (rw c.as_slice.ensures.value at c.in_ok-settings.ensures.spelled)
    (subst (λ (digest : Given → List ℕ). misnamed_log digest given ≡ None) alike (rw c.as_slice-3.ensures.value at c.in_ok-check_references.ensures.kept))
    (subst (λ (digest : Given → List ℕ). AreNoLogs (read_given digest) given why) alike c.in_err-read.ensures.refused))

pub returns-in_err-check_references-clause-refused : goal.returns-in_err-check_references-clause-refused
returns-in_err-check_references-clause-refused c =
    let text = c.args.text.items in
    let given = given_of c.args.logs.items in
    let s = c.in_ok-settings.settings in
    let why = c.in_err-check_references.field-0.0 in
    let alike = given_is text c.in_ok-digests.digests (rw c.as_slice-2.ensures.value at c.in_ok-digests.ensures) in
    let p = err_from_is_err_and c.from_residual-in_err-check_references.result c.from_residual-in_err-check_references.ensures.1 in
    rw (p.1, p.2) (names_refused text (read_given (digest_of text)) given (misnamed_log (digest_of text) given) s why
    (rw c.as_slice.ensures.value at c.in_ok-settings.ensures.spelled)
    (subst (λ (digest : Given → List ℕ). IsMisnamed (misnamed_log digest given) why) alike (rw c.as_slice-3.ensures.value at c.in_err-check_references.ensures.refused)))

pub returns-clause-named : goal.returns-clause-named
returns-clause-named c =
    subst (λ (digest : Given → List ℕ). misnamed_log digest (given_of c.args.logs.items) ≡ None) (given_is c.args.text.items c.in_ok-digests.digests (rw c.as_slice-2.ensures.value at c.in_ok-digests.ensures))
    (rw c.as_slice-3.ensures.value at c.in_ok-check_references.ensures.kept)

pub returns-clause-given : goal.returns-clause-given
returns-clause-given c =
    let given = given_of c.args.logs.items in
    let alike = given_is c.args.text.items c.in_ok-digests.digests (rw c.as_slice-2.ensures.value at c.in_ok-digests.ensures) in
    record {
      spelled = (rw c.as_slice.ensures.value at c.in_ok-settings.ensures.spelled).spelled;
      read = subst (λ (digest : Given → List ℕ). AreLogs (read_given digest) given (logs_seen c.in_ok-read.read.logs.items)) alike c.in_ok-read.ensures.logs;
      begin = c.in_ok-read.ensures.rests;
      ends = c.in_ok-read.ensures.torn ∙ ap (λ (digest : Given → List ℕ). map (torn_given digest) given) alike;
    }
