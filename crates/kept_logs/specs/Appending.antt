-- The records of one log after those of another, with all that was noted of their calls.
use Rattle.std.specs.Prelude.{◌≡◌, ℕ, ◌+◌, List, ◌++◌, length, Ok}
use Rattle.world_setup.specs.Seen.{node_seen}
use Rattle.kept_logs.specs.declared.appending.Appended.{Appended}
use Rattle.kept_logs.specs.Stamps.{Stamped, KeptLog}
use Rattle.kept_logs.specs.Logs.{calls_text, kept_in, records_in}

-- the records of a log of this version that bytes are stand after a text, in version 2, numbered after this many; this many records, and this many bytes are left
pub record AreAppended (version before total : ℕ) (bytes old new : List ℕ) (count left : ℕ) : Type 0 where
  pub calls : List Stamped
  pub rest : List ℕ
  pub read : records_in version total bytes ≡ Ok (calls, rest)
  pub left_behind : length rest ≡ left
  pub number : length calls ≡ count
  pub text : new ≡ old ++ calls_text 2 (before + 1) calls

-- the records of the log under settings of this digest that bytes are stand after a text
pub record IsAppended (digest bytes : List ℕ) (before : ℕ) (old new : List ℕ) (a : Appended) : Type 0 where
  pub log : KeptLog
  pub own : log.node ≡ node_seen a.node
  pub read : kept_in digest bytes ≡ Ok (record { log = log; whole = a.whole })
  pub count : length log.calls ≡ a.calls
  pub text : new ≡ old ++ calls_text 2 (before + 1) log.calls
