use Rattle.std.proofs.Common.{◌≡◌, ◌+◌, ◌<◌, ◌^◌, ◌++◌, length}
use Rattle.std.specs.Vec.Iter.{into_iter_items, into_iter_len}
use Rattle.settings_digest.specs.Digests.{under}
use Rattle.log_audit.specs.Given.{bytes_of}
use Rattle.log_audit.specs.Calls.{TellsLogs}
use Rattle.log_audit.proofs.calls.put_logs.Given as goal

-- the bytes so far are logs, whose rows were told
abbrev pub invariant-loop-bytes : goal.invariant-loop-bytes
invariant-loop-bytes l = record {
  all : l.yielded ++ into_iter_items l.bytes-iterator ≡ into_iter_items l.initial.bytes-iterator;
  left : into_iter_len l.bytes-iterator ≡ length (into_iter_items l.bytes-iterator);
  at : l.place ≡ length l.yielded;
  fits : l.place + into_iter_len l.bytes-iterator < 2 ^ 64;
  told : TellsLogs (under l.digests) (bytes_of l.yielded) l.initial.out.items l.out.items;
}
