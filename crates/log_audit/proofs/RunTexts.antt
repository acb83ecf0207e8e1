-- What is put of a legal run, and of none.
use Rattle.std.proofs.Common.{◌≡◌, ℕ, true, List, [], ◌∷◌, ◌++◌, length, sym, ap, subst, ◌∙◌, append_assoc}
use Rattle.std.specs.Prelude.{Result, Ok, Err, IfOk, IsOkAnd, OnOk}
use Rattle.std.specs.Global.{Vec}
use Rattle.claim_model.specs.World.{Event}
use Rattle.node_log.specs.LogSeen.{logs_seen}
use Rattle.run_merge.specs.Merged.{IsMerged}
use Rattle.log_audit.specs.Outgoing.{Puts, PutsSome}
use Rattle.log_audit.specs.Telling.{IsTextOf, IsWritten, log_lines, legal_line, run_ledger, run_lines}
use Rattle.log_audit.specs.declared.reading.Audited.{Audited}
use Rattle.log_audit.specs.declared.report.Form.{Form}

-- a text that was made whole is put
pub made_put : {E F : Type 0} (r : Result (Unit {0}) E) (made : Result (Vec ℕ) F) (holds : List ℕ → Type 0) (old new : List ℕ) → OnOk r (IsOkAnd made (λ text. Puts old new text.items)) → IfOk made (λ text. holds text.items)
    → OnOk r (PutsSome holds old new)
made_put (Ok u) (Ok text) holds old new put is = record { text = text.items; put = put; is = is }
made_put (Ok u) (Err fault) holds old new put is = absurd put
made_put (Err fault) made holds old new put is = tt

-- this text is put
pub text_put : {E : Type 0} (r : Result (Unit {0}) E) (holds : List ℕ → Type 0) (old new text : List ℕ) → OnOk r (Puts old new text) → holds text → OnOk r (PutsSome holds old new)
text_put (Ok u) holds old new text put is = record { text = text; put = put; is = is }
text_put (Err fault) holds old new text put is = tt

-- what is told of these events, which are a legal run
pub run_put : (a : Audited) (form : Form) (events : List Event) (old new : List ℕ) → IsMerged a.settings (logs_seen a.logs.items) events → PutsSome (IsTextOf a events form) old new → PutsSome (IsWritten a form true) old new
run_put a form events old new merged told = record { text = told.text; put = told.put; is = record { events = events; merged = merged; told = told.is } }

-- where nothing was put before, it is the whole
pub put_whole : (holds : List ℕ → Type 0) (old new out : List ℕ) → old ≡ [] → PutsSome holds old new → out ≡ new → holds out
put_whole holds [] new out none put is = subst holds (sym (is ∙ put.put)) put.is
put_whole holds (x ∷ old) new out none put is = cc

-- the lines of logs of a legal run are those of the logs, that there is one, and what it left
pub lines_told : (a : Audited) (events : List Event) (text front : List ℕ) (count : ℕ) → front ≡ log_lines (logs_seen a.logs.items) a.torn.items ++ legal_line count
    → text ≡ front ++ run_ledger a.settings events → count ≡ length events → text ≡ run_lines a events
unfolding run_lines
lines_told a events text front count f t n =
    let logs = log_lines (logs_seen a.logs.items) a.torn.items in
    let left = run_ledger a.settings events in
    t ∙ (ap (λ (x : List ℕ). x ++ left) f ∙ (append_assoc logs (legal_line count) left ∙ ap (λ (k : ℕ). logs ++ (legal_line k ++ left)) n))
