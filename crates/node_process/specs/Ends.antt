-- What a process has in memory, and why it ends.
use Rattle.std.specs.Prelude.{◌≡◌, ◌⊎◌, ⊤, ℕ, ◌+◌, ◌<◌, ◌≤◌, Bool, true, false, List, [], ◌∷◌, ◌++◌, length, Option, Some, None, Result, Ok, Err}
use Rattle.kept_logs.specs.Stamps.{Stamped, bare_calls}
use Rattle.kept_logs.specs.Logs.{kept_text}
use Rattle.kept_logs.specs.Fits.{FitsKept}
use Rattle.settings_digest.specs.Digests.{turned_under}
use Rattle.node_service.specs.Serving.{Serving}
use Rattle.node_service.specs.Opened.{Spells, IsOpened, replayed_behind}
use Rattle.node_service.specs.Refused.{IsRefused}
use Rattle.node_service.specs.declared.fault.ServiceFault.{ServiceFault}
use Rattle.node_process.specs.declared.unserved.Unserved.{Unserved}
use Rattle.node_process.specs.declared.unserved.Unserved.TheVariants.{OutOfMemory, Refused, FewCalls, LongLine, TooManyTurns, Io}
use Rattle.node_process.specs.Acts.{Act, Found, found, file, has_failed, heard}
use Rattle.node_process.specs.Heard.{begun_line}
use Rattle.node_process.specs.Safe.{Whose, IsUnopened, closed_calls}

-- ---- what is in memory

-- a node in memory: its state is what the file as it lies, and after that what is still to be appended, make of the node that the log begins with
pub record Remembers (whose : Whose) (acts : List Act) (s : Serving) : Type 0 where
  pub calls : List Stamped
  pub pending : List ℕ
  pub due : (pending ≡ []) ⊎ (pending ≡ s.records)
  pub text : file acts ++ pending ≡ kept_text (turned_under whose.settings whose.rest (found acts)) (record { node = whose.node; calls = calls })
  pub fits : FitsKept (record { node = whose.node; calls = calls })
  pub spells : Spells whose.settings s.settings
  pub state : replayed_behind s.settings whose.node whose.rest (bare_calls calls) ≡ Some s.state

-- there is such a node in memory
abbrev pub IsHeld : Whose → List Act → Option Serving → Type 0
IsHeld whose acts None = ⊥
IsHeld whose acts (Some s) = Remembers whose acts s

-- ---- why a process ends

-- the most bytes of a line
abbrev pub most_bytes : ℕ
most_bytes = 16777216

-- the most turns
abbrev pub most_turns : ℕ
most_turns = 18446744073709551615

-- there are this many calls, which are fewer than there are at least; or no fewer
abbrev pub TellsLack : ℕ → ℕ → ℕ → Option ℕ → Type 0
TellsLack before calls least None = least ≤ before + calls
TellsLack before calls least (Some all) = (all ≡ before + calls) × (all < least)

-- the log was read, and it and the closed ones have this many calls, fewer than they are known to have
pub record HasFew (whose : Whose) (acts : List Act) (calls : ℕ) : Type 0 where
  pub bytes : List ℕ
  pub is : acts ≡ Found bytes ∷ []
  pub start : Serving
  pub whole : ℕ
  pub opened : IsOpened whose.settings whose.node whose.rest bytes whole start
  pub count : calls ≡ closed_calls whose + start.calls
  pub few : calls < whose.least

-- the log was read, and is refused for this cause
abbrev pub IsShut : Whose → List Act → ServiceFault → Type 0
IsShut whose acts why = (bytes : List ℕ) × (acts ≡ Found bytes ∷ []) × IsRefused whose.settings whose.node whose.rest bytes why

-- a process ends for this cause; memory may always be refused
abbrev pub EndsFor : Whose → List Act → Unserved → Type 0
EndsFor whose acts OutOfMemory = ⊤
EndsFor whose acts (Refused why) = IsShut whose acts why
EndsFor whose acts (FewCalls calls) = HasFew whose acts calls
EndsFor whose acts LongLine = most_bytes < length (begun_line (heard acts))
EndsFor whose acts TooManyTurns = most_turns ≤ length (heard acts)
EndsFor whose acts (Io error) = has_failed acts ≡ true

-- what a process has in memory when it ends. At the end of its input, and where a call of the system has failed, it is a node as the log makes it;
-- there is none where the log could not be read, where it was refused, and where memory was, or a line was too long
abbrev pub Leaves : Whose → List Act → Result Unit Unserved → Option Serving → Type 0
Leaves whose acts (Ok done) memory = IsHeld whose acts memory
Leaves whose acts (Err OutOfMemory) memory = memory ≡ None
Leaves whose acts (Err (Refused why)) memory = memory ≡ None
Leaves whose acts (Err (FewCalls calls)) memory = memory ≡ None
Leaves whose acts (Err LongLine) memory = memory ≡ None
Leaves whose acts (Err TooManyTurns) memory = memory ≡ None
Leaves whose acts (Err (Io error)) memory = (IsUnopened acts × (memory ≡ None)) ⊎ IsHeld whose acts memory

-- whether a node is left there
abbrev pub stays : Result Unit Unserved → Bool
stays (Ok done) = true
stays (Err OutOfMemory) = false
stays (Err (Refused why)) = false
stays (Err (FewCalls calls)) = false
stays (Err LongLine) = false
stays (Err TooManyTurns) = false
stays (Err (Io error)) = true

-- ---- on the way

-- a call failed, and the node in memory is as the log makes it
pub record Breaks (whose : Whose) (acts : List Act) (s : Serving) : Type 0 where
  pub failed : has_failed acts ≡ true
  pub held : Remembers whose acts s

-- a node that was opened is served no more for this cause
abbrev pub Stops : Whose → List Act → Serving → Unserved → Type 0
Stops whose acts s OutOfMemory = ⊤
Stops whose acts s (Refused why) = ⊥
Stops whose acts s (FewCalls calls) = ⊥
Stops whose acts s LongLine = most_bytes < length (begun_line (heard acts))
Stops whose acts s TooManyTurns = most_turns ≤ length (heard acts)
Stops whose acts s (Io error) = Breaks whose acts s

-- bytes of which no line is served for this cause
abbrev pub IsUnheeded : List ℕ → Unserved → Type 0
IsUnheeded bytes OutOfMemory = ⊤
IsUnheeded bytes (Refused why) = ⊥
IsUnheeded bytes (FewCalls calls) = ⊥
IsUnheeded bytes LongLine = most_bytes < length (begun_line bytes)
IsUnheeded bytes TooManyTurns = ⊥
IsUnheeded bytes (Io error) = ⊥

-- the beginning of a line is not kept for this cause
abbrev pub IsTooMuch : List ℕ → Unserved → Type 0
IsTooMuch bytes OutOfMemory = ⊤
IsTooMuch bytes (Refused why) = ⊥
IsTooMuch bytes (FewCalls calls) = ⊥
IsTooMuch bytes LongLine = most_bytes < length bytes
IsTooMuch bytes TooManyTurns = ⊥
IsTooMuch bytes (Io error) = ⊥
