use Rattle.std.proofs.Common.{◌≡◌, ◌++◌, length}
use Rattle.std.specs.Vec.Iter.{into_iter_items, into_iter_len}
use Rattle.audit_run.proofs.completing.with_logs.Given as goal

-- the logs so far, and then those that are left
abbrev pub invariant-loop-log : goal.invariant-loop-log
invariant-loop-log l = record {
  settings : l.all.settings ≡ l.initial.all.settings;
  text : l.all.text ≡ l.initial.all.text;
  rests : l.all.rests ≡ l.initial.all.rests;
  logs : l.all.logs.items ++ into_iter_items l.log-iterator ≡ l.initial.all.logs.items ++ into_iter_items l.initial.log-iterator;
  left : into_iter_len l.log-iterator ≡ length (into_iter_items l.log-iterator);
}
