-- The text of a log, and what bytes are as a log.
use Rattle.std.specs.Prelude.{◌≡◌, ℕ, zero, suc, ◌+◌, ◌-◌, List, [], ◌∷◌, ◌++◌, length, take, drop, codes, Option, Some, None, Result, Ok, Err}
use Rattle.claim_model.specs.Node.{Node}
use Rattle.claim_model.specs.Logs.{NodeLog}
use Rattle.kept_logs.specs.Stamps.{Stamped, KeptLog, bare, stamped_text, stamped_in}
use Rattle.kept_logs.specs.declared.fault.LogFault.{LogFault}
use Rattle.kept_logs.specs.declared.fault.LogFault.TheVariants as fault
use Rattle.kept_logs.specs.Faults.{◌>>=◌, some_or}
use Rattle.codec.specs.Fields.{bytes_at}
use Rattle.kept_logs.specs.Fields.{node_codec}
use Rattle.kept_logs.specs.Digests.{version_of}
use Rattle.kept_logs.specs.Frames.{check_of, frame_text, Met, Whole, Torn, Differs, met, Frame, Framed, CutOff, Damaged, frame_at}

-- whose log it is, and under which settings: a node, and a digest of the settings, 35 bytes
unfoldable pub owner_text : List ℕ → Node → List ℕ
owner_text digest node = node_codec.text node ++ digest

-- the head of a log: its name, its version, its owner, and what vouches for that, under the number 0; 46 bytes. The version is the first byte of what
-- the head has of the settings, and the digest is after it
unfoldable pub head_text : List ℕ → Node → List ℕ
head_text digest node = codes "PL" ++ (take 1 digest ++ (owner_text (drop 1 digest) node ++ check_of (version_of digest) 0 (owner_text (drop 1 digest) node)))

-- the records of calls in a log of this version, numbered from here on
unfoldable pub calls_text : ℕ → ℕ → List Stamped → List ℕ
calls_text version number [] = []
calls_text version number (r ∷ calls) = frame_text version number (stamped_text r) ++ calls_text version (number + 1) calls

-- the text of a log under settings of this digest
unfoldable pub kept_text : List ℕ → KeptLog → List ℕ
kept_text digest log = head_text digest log.node ++ calls_text (version_of digest) 1 log.calls

-- ---- what bytes are

-- what follows these bytes, which have to stand there
abbrev pub expected : LogFault → Met → Result (List ℕ) LogFault
expected why (Whole rest) = Ok rest
expected why Torn = Err fault.Short
expected why Differs = Err why

-- the head of a log under settings of this digest: its node, and what follows; or the first fault
unfoldable pub head_in : List ℕ → List ℕ → Result (Node × List ℕ) LogFault
head_in digest bytes = do
  named ← expected fault.NotALog (met (codes "PL") bytes)
  known ← expected fault.Version (met (take 1 digest) named)
  owner ← some_or fault.Short (bytes_at 35 known)
  rest ← expected fault.DamagedHead (met (check_of (version_of digest) 0 owner.0) owner.1)
  node ← some_or fault.NoNode (node_codec.at owner.0)
  own ← expected fault.OtherSettings (met (drop 1 digest) node.1)
  Ok (node.0, rest)

-- the record that was read, and what follows it, where its body is an accepted call
abbrev pub read_record : ℕ → List ℕ → Option Stamped → Result (Option (Stamped × List ℕ)) LogFault
read_record place after None = Err (fault.BadRecord place)
read_record place after (Some r) = Ok (Some (r, after))

-- what a frame at this place comes to: the record and what follows it, nothing where it is cut off, or its fault
abbrev pub framed_record : ℕ → Frame → Result (Option (Stamped × List ℕ)) LogFault
framed_record place (Framed body after) = read_record place after (stamped_in body)
framed_record place CutOff = Ok None
framed_record place Damaged = Err (fault.Damaged place)

-- the record of this number at this place of a log of this version
unfoldable pub record_in : ℕ → ℕ → ℕ → List ℕ → Result (Option (Stamped × List ℕ)) LogFault
record_in version number place bytes = framed_record place (frame_at version number bytes)

-- calls before those that were read
abbrev pub behind : List Stamped → Result (List Stamped × List ℕ) LogFault → Result (List Stamped × List ℕ) LogFault
behind calls (Ok read) = Ok (calls ++ read.0, read.1)
behind calls (Err why) = Err why

-- a record, and the records after it
abbrev pub and_more : List ℕ → (List ℕ → Result (List Stamped × List ℕ) LogFault) → Result (Option (Stamped × List ℕ)) LogFault → Result (List Stamped × List ℕ) LogFault
and_more bytes more (Ok None) = Ok ([], bytes)
and_more bytes more (Ok (Some (r, after))) = behind (r ∷ []) (more after)
and_more bytes more (Err why) = Err why

-- the calls of records of a log of this version, numbered from here on, up to one that is cut off, and the bytes of that; or the fault of the first record that is damaged or
-- is no call, with its place in this many bytes. This many records are read at most
unfoldable pub calls_in : ℕ → ℕ → ℕ → ℕ → List ℕ → Result (List Stamped × List ℕ) LogFault
calls_in version total number zero bytes = Ok ([], bytes)
calls_in version total number (suc most) bytes = and_more bytes (λ after. calls_in version total (number + 1) most after) (record_in version number (total - length bytes) bytes)

-- the same of all records, numbered from 1
abbrev pub records_in : ℕ → ℕ → List ℕ → Result (List Stamped × List ℕ) LogFault
records_in version total bytes = calls_in version total 1 (length bytes) bytes

-- a log that was read, and how many bytes its text has; what stands after these is the beginning of a record that is cut off
pub record KeptReading : Type 0 where
  pub log : KeptLog
  pub whole : ℕ

-- the log under settings of this digest that bytes are, or the first fault
unfoldable pub kept_in : List ℕ → List ℕ → Result KeptReading LogFault
kept_in digest bytes = do
  head ← head_in digest bytes
  calls ← records_in (version_of digest) (length bytes) head.1
  Ok (record { log = record { node = head.0; calls = calls.0 }; whole = length bytes - length calls.1 })

-- the calls of a log that was read, without what was noted of them
pub record Reading : Type 0 where
  pub log : NodeLog
  pub whole : ℕ

abbrev pub alone : KeptReading → Reading
alone read = record { log = bare read.log; whole = read.whole }

abbrev pub calls_alone : Result KeptReading LogFault → Result Reading LogFault
calls_alone (Ok read) = Ok (alone read)
calls_alone (Err why) = Err why

-- the calls of the log under settings of this digest that bytes are, or the first fault
unfoldable pub log_in : List ℕ → List ℕ → Result Reading LogFault
log_in digest bytes = calls_alone (kept_in digest bytes)

-- bytes are the whole text of this log
abbrev pub KeptAs : List ℕ → List ℕ → KeptLog → Type 0
KeptAs digest bytes log = kept_in digest bytes ≡ Ok (record { log = log; whole = length bytes })

-- bytes are the whole text of a log with these calls
abbrev pub ReadsAs : List ℕ → List ℕ → NodeLog → Type 0
ReadsAs digest bytes log = log_in digest bytes ≡ Ok (record { log = log; whole = length bytes })
