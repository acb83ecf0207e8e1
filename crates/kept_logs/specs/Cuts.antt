-- Logs whose text is cut off.
use Rattle.std.specs.Prelude.{◌≡◌, ℕ, suc, ◌+◌, ◌-◌, ◌<◌, ◌≤◌, cond, List, [], ◌∷◌, ◌++◌, length, take, nat_lt, slice_index, Ok}
use Rattle.claim_model.specs.Logs.{NodeLog}
use Rattle.kept_logs.specs.Stamps.{Stamped, KeptLog, bare, stamped_text}
use Rattle.kept_logs.specs.Digests.{version_of}
use Rattle.kept_logs.specs.Frames.{frame_text, CutOff, frame_at}
use Rattle.kept_logs.specs.Logs.{kept_text, KeptReading, kept_in, Reading, alone}
use Rattle.kept_logs.specs.Fits.{FitsKept}

-- how many of these calls of a log of this version, numbered from here on, have records that stand whole in the first this many bytes of their text
abbrev pub whole_within : ℕ → ℕ → ℕ → List Stamped → ℕ
whole_within version number n [] = 0
whole_within version number n (r ∷ calls) =
    cond (nat_lt n (length (frame_text version number (stamped_text r)))) 0 (suc (whole_within version (number + 1) (n - length (frame_text version number (stamped_text r))) calls))

-- the first this many calls of a log
abbrev pub first_calls : ℕ → KeptLog → KeptLog
first_calls count log = record { node = log.node; calls = take count log.calls }

-- how many calls of a log have records that stand whole in the first n bytes of its text under settings of this digest, of which 46 are the head
abbrev pub calls_within : List ℕ → ℕ → KeptLog → ℕ
calls_within digest n log = whole_within (version_of digest) 1 (n - 46) log.calls

-- what stands whole there
abbrev pub log_within : List ℕ → ℕ → KeptLog → KeptLog
log_within digest n log = first_calls (calls_within digest n log) log

-- the first n bytes of a log's text are read as the records that stand whole in them
pub record ReadsBack (digest : List ℕ) (n : ℕ) (log : KeptLog) : Type 0 where
  pub read : kept_in digest (take n (kept_text digest log)) ≡ Ok (record { log = log_within digest n log; whole = length (kept_text digest (log_within digest n log)) })
  -- they do stand there, and one call more would not
  pub stand : length (kept_text digest (log_within digest n log)) ≤ n
  pub most : calls_within digest n log < length log.calls → n < length (kept_text digest (first_calls (suc (calls_within digest n log)) log))
  -- the bytes that they take are their text
  pub text : take (length (kept_text digest (log_within digest n log))) (kept_text digest log) ≡ kept_text digest (log_within digest n log)

-- bytes are how the record of some call in a log of this version begins, which does not end with them
pub record Begins (version number : ℕ) (bytes : List ℕ) : Type 0 where
  pub body : List ℕ
  pub missing : List ℕ
  pub some : 0 < length missing
  pub is : bytes ++ missing ≡ frame_text version number body

-- each of these numbers is a byte
abbrev pub EachIsByte : List ℕ → Type 0
EachIsByte bytes = (i : ℕ) → slice_index bytes i < 256

-- the bytes that a log was read from: its text, with what was noted of its calls, and after it nothing, or the beginning of a record that is cut off,
-- or zeros
pub record IsLogOf (digest : List ℕ) (bytes : List ℕ) (read : KeptReading) : Type 0 where
  pub torn : List ℕ
  pub is : bytes ≡ kept_text digest read.log ++ torn
  pub whole : read.whole ≡ length (kept_text digest read.log)
  pub cut : frame_at (version_of digest) (suc (length read.log.calls)) torn ≡ CutOff
  -- its numbers are numbers of a machine, so its text, and that with more records after, reads back
  pub fits : FitsKept read.log

-- a text of a log with these calls, whatever is noted of them
pub record IsTextOf (digest : List ℕ) (log : NodeLog) (text : List ℕ) : Type 0 where
  pub kept : KeptLog
  pub of : bare kept ≡ log
  pub is : text ≡ kept_text digest kept
  pub fits : FitsKept kept

-- the bytes that the calls of a log were read from
pub record IsOfLog (digest : List ℕ) (bytes : List ℕ) (read : Reading) : Type 0 where
  pub kept : KeptReading
  pub of : alone kept ≡ read
  pub is : IsLogOf digest bytes kept
