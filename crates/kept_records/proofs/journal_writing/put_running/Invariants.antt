use Rattle.std.proofs.Common.{◌≡◌, ◌+◌, ◌++◌, drop}
use Rattle.claim_model.specs.Journal.{stopped}
use Rattle.kept_records.specs.Entries.{entries_text}
use Rattle.kept_records.proofs.journal_writing.put_running.Given as goal

-- what is put and the entries that are left are all
abbrev pub invariant-loop-place : goal.invariant-loop-place
invariant-loop-place l = l.text.items ++ entries_text (l.place + 1) (drop l.place (stopped l.pharmacy).entries) ≡ l.fn.text.items ++ entries_text 1 (stopped l.pharmacy).entries
