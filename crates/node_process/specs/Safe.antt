-- What is safe at each moment of a process: what was said is on the disk.
use Rattle.std.specs.Prelude.{◌≡◌, ◌≤◌, ◌⊎◌, ⊤, ℕ, ◌+◌, ◌==◌, cond, length, false, codes, decimal, List, [], ◌∷◌, ◌++◌, take, Option}
use Rattle.std.specs.Option.{option_copied}
use Rattle.std.specs.List.{AllByRecursion}
use Rattle.claim_model.specs.Node.{Node}
use Rattle.world_setup.specs.Seen.{node_seen}
use Rattle.kept_logs.specs.Fits.{FitsStamped}
use Rattle.kept_logs.specs.Rests.{calls_before}
use Rattle.node_process.specs.declared.opening.Owner.{Owner}
use Rattle.node_service.specs.Answering.{ready_line}
use Rattle.node_service.specs.Serving.{Serving, cleared}
use Rattle.node_service.specs.Lines.{after_lines, lines_kept}
use Rattle.node_service.specs.Opened.{IsOpened}
use Rattle.node_process.specs.Acts.{Act, Found, Unread, Cut, Append, Sync, Say, Hear, Unheard, found, file, has_failed, kept, said, heard, heard_last}
use Rattle.node_process.specs.Heard.{whole_lines, begun_line, NoNewline}

-- bytes begin these
pub record IsStartOf (front bytes : List ℕ) : Type 0 where
  pub rest : List ℕ
  pub is : front ++ rest ≡ bytes

-- the node after the whole lines of an input
abbrev pub asked : Serving → List ℕ → Serving
asked start input = after_lines start (whole_lines input)

-- the log after them: what stays of the file, and the records
abbrev pub log_of : Serving → List ℕ → List ℕ → List ℕ
log_of start base input = base ++ (asked start input).records

-- a node is served whose log goes on after closed ones: how many calls the log has, and how many these have
abbrev pub behind_line : ℕ → ℕ → List ℕ
behind_line before calls = codes "ready " ++ (decimal calls ++ (codes " behind " ++ (decimal before ++ codes "\n")))

-- a node is served: how many calls its log has, and how many were made before it, where there were some
abbrev pub greeting : ℕ → ℕ → List ℕ
greeting before calls = cond (before == 0) (ready_line calls) (behind_line before calls)

-- the words after them, where this many calls were made before the log
abbrev pub words_of : ℕ → Serving → List ℕ → List ℕ
words_of before start input = greeting before start.calls ++ (asked start input).out

-- the numbers of the records that an input adds to the log are numbers of a machine, so these read back
abbrev pub FitsInput : Serving → List ℕ → Type 0
FitsInput start input = AllByRecursion FitsStamped (lines_kept start (whole_lines input))

-- what was said begins what some beginning of the input sends, and every record of that beginning is on the disk
pub record IsCovered (before : ℕ) (start : Serving) (base : List ℕ) (acts : List Act) : Type 0 where
  pub input : List ℕ
  pub came : IsStartOf input (heard acts)
  pub fits : FitsInput start input
  pub sent : IsStartOf (said acts) (words_of before start input)
  pub logged : IsStartOf (log_of start base input) (kept acts)

-- the log of a beginning of the input
pub record IsLogOfInput (start : Serving) (base : List ℕ) (acts : List Act) : Type 0 where
  pub input : List ℕ
  pub came : IsStartOf input (heard acts)
  pub fits : FitsInput start input
  pub is : file acts ≡ log_of start base input

-- the log was read
abbrev pub IsRead : List Act → Type 0
IsRead [] = ⊥
IsRead (act ∷ before) = ⊤

-- the log was read, and no call failed
abbrev pub GoesWell : List Act → Type 0
GoesWell acts = IsRead acts × (has_failed acts ≡ false)

-- the log is read first, and once; what is cut off is what stands after its whole records, before anything else is done; an append stands on what
-- is synced, and makes of it the log of a beginning of the input; what is synced is such a log; and nothing is done after a failure
abbrev pub IsInOrder : Serving → List ℕ → List Act → Type 0
IsInOrder start base [] = ⊤
IsInOrder start base (Found bytes ∷ before) = before ≡ []
IsInOrder start base (Unread ∷ before) = ⊥
IsInOrder start base (Cut size done ∷ before) = (before ≡ Found (found before) ∷ []) × (take size (found before) ≡ base)
IsInOrder start base (Append bytes done ∷ before) = GoesWell before × ((kept before ≡ file before) × IsLogOfInput start base (Append bytes done ∷ before))
IsInOrder start base (Sync done ∷ before) = GoesWell before × IsLogOfInput start base before
IsInOrder start base (Say bytes done ∷ before) = GoesWell before
IsInOrder start base (Hear bytes ∷ before) = GoesWell before
IsInOrder start base (Unheard ∷ before) = GoesWell before

-- the file is as it was found, or cut to what stays of it, or the log of a beginning of the input
abbrev pub IsWholeFile : Serving → List ℕ → List Act → Type 0
IsWholeFile start base acts = (file acts ≡ found acts) ⊎ ((file acts ≡ base) ⊎ IsLogOfInput start base acts)

-- a moment is safe: the order is kept, nothing was said or what was said is on the disk, and the file is whole
pub record IsSafe (before : ℕ) (start : Serving) (base : List ℕ) (acts : List Act) : Type 0 where
  pub order : IsInOrder start base acts
  pub covered : (said acts ≡ []) ⊎ IsCovered before start base acts
  pub whole : IsWholeFile start base acts

-- each moment so far was safe
abbrev pub AtEachMoment : ℕ → Serving → List ℕ → List Act → Type 0
AtEachMoment closed start base [] = IsSafe closed start base []
AtEachMoment closed start base (act ∷ before) = IsSafe closed start base (act ∷ before) × AtEachMoment closed start base before

-- nothing was done but to read the log, which may have failed
abbrev pub IsUnopened : List Act → Type 0
IsUnopened acts = (acts ≡ []) ⊎ ((acts ≡ Unread ∷ []) ⊎ ((bytes : List ℕ) × (acts ≡ Found bytes ∷ [])))

-- whose process it is: the text of the settings, the node, what its log begins with where it goes on after closed ones, and how many calls all
-- of its logs have at least
pub record Whose : Type 0 where
  pub settings : List ℕ
  pub node : Node
  pub rest : Option (List ℕ)
  pub least : ℕ

-- the same, of the code's value
abbrev pub owner_seen : Owner → Whose
owner_seen o = record { settings = o.settings.now; node = node_seen o.node; rest = option_copied o.rest; least = o.least }

-- how many calls were made before the log
abbrev pub closed_calls : Whose → ℕ
closed_calls whose = calls_before whose.rest

-- this many calls of the log, and those that were made before it, are as many as there are at least
abbrev pub AreEnough : Whose → ℕ → Type 0
AreEnough whose calls = whose.least ≤ closed_calls whose + calls

-- the node of the log that was found was served, and stopped at any moment it was safe
pub record IsRun (whose : Whose) (acts : List Act) : Type 0 where
  pub start : Serving
  pub whole : ℕ
  pub opened : IsOpened whose.settings whose.node whose.rest (found acts) whole start
  pub enough : AreEnough whose start.calls
  pub safe : (later earlier : List Act) → acts ≡ later ++ earlier → IsSafe (closed_calls whose) start (take whole (found acts)) earlier

-- all whole lines that came are on the disk, and their words were said
pub record IsDone (before : ℕ) (start : Serving) (base : List ℕ) (acts : List Act) : Type 0 where
  pub well : has_failed acts ≡ false
  pub logged : kept acts ≡ log_of start base (heard acts)
  pub words : said acts ≡ words_of before start (heard acts)

-- the same of the node of the log that was found
pub record IsRunDone (whose : Whose) (acts : List Act) : Type 0 where
  pub start : Serving
  pub whole : ℕ
  pub opened : IsOpened whose.settings whose.node whose.rest (found acts) whole start
  pub enough : AreEnough whose start.calls
  pub done : IsDone (closed_calls whose) start (take whole (found acts)) acts
  -- the input has ended
  pub ended : heard_last acts ≡ []

-- ---- on the way

-- what is common to all moments between two acts
pub record IsOn (before : ℕ) (start : Serving) (base : List ℕ) (acts : List Act) (s : Serving) : Type 0 where
  pub each : AtEachMoment before start base acts
  pub well : GoesWell acts
  pub synced : kept acts ≡ file acts
  pub fits : FitsInput start (heard acts)
  pub same : cleared s ≡ cleared (asked start (heard acts))
  pub words : said acts ++ s.out ≡ words_of before start (heard acts)

-- all that came was served; its records are still to be appended
pub record IsServed (before : ℕ) (start : Serving) (base : List ℕ) (acts : List Act) (s : Serving) : Type 0 where
  pub on : IsOn before start base acts s
  pub log : file acts ++ s.records ≡ log_of start base (heard acts)

-- all that came was served, and its records are on the disk; its words are still to be said
pub record IsLogged (before : ℕ) (start : Serving) (base : List ℕ) (acts : List Act) (s : Serving) : Type 0 where
  pub on : IsOn before start base acts s
  pub log : file acts ≡ log_of start base (heard acts)

-- a log that is opened, before a word is said: its file is this text
pub record IsOpening (before : ℕ) (start : Serving) (base : List ℕ) (acts : List Act) (text : List ℕ) : Type 0 where
  pub each : AtEachMoment before start base acts
  pub well : GoesWell acts
  pub silent : said acts ≡ []
  pub deaf : heard acts ≡ []
  pub is : file acts ≡ text

-- the log was read, and opens this node; this many of its bytes stay
pub record Reads (whose : Whose) (acts : List Act) (whole size : ℕ) (s : Serving) : Type 0 where
  pub bytes : List ℕ
  pub is : acts ≡ Found bytes ∷ []
  pub count : size ≡ length bytes
  pub opened : IsOpened whose.settings whose.node whose.rest bytes whole s
  pub enough : AreEnough whose s.calls

-- what is after its whole records is cut off
pub record Trims (whose : Whose) (acts : List Act) (whole : ℕ) (s : Serving) : Type 0 where
  pub opened : IsOpened whose.settings whose.node whose.rest (found acts) whole s
  pub enough : AreEnough whose s.calls
  pub opening : IsOpening (closed_calls whose) s (take whole (found acts)) acts (take whole (found acts))
  pub unsynced : kept acts ≡ []

-- the head of a new log stands in the file
pub record Heads (whose : Whose) (acts : List Act) (whole : ℕ) (s : Serving) : Type 0 where
  pub opened : IsOpened whose.settings whose.node whose.rest (found acts) whole s
  pub enough : AreEnough whose s.calls
  pub opening : IsOpening (closed_calls whose) s (take whole (found acts)) acts (take whole (found acts) ++ s.records)

-- the log is on the disk
pub record Begins (whose : Whose) (acts : List Act) (whole : ℕ) (s : Serving) : Type 0 where
  pub opened : IsOpened whose.settings whose.node whose.rest (found acts) whole s
  pub enough : AreEnough whose s.calls
  pub opening : IsOpening (closed_calls whose) s (take whole (found acts)) acts (take whole (found acts) ++ s.records)
  pub synced : kept acts ≡ file acts

-- all that came was served, by the node of the log that was found
pub record Serves (whose : Whose) (acts : List Act) (s : Serving) : Type 0 where
  pub start : Serving
  pub whole : ℕ
  pub opened : IsOpened whose.settings whose.node whose.rest (found acts) whole start
  pub enough : AreEnough whose start.calls
  pub served : IsServed (closed_calls whose) start (take whole (found acts)) acts s

-- the same, and its records are on the disk
pub record Logs (whose : Whose) (acts : List Act) (s : Serving) : Type 0 where
  pub start : Serving
  pub whole : ℕ
  pub opened : IsOpened whose.settings whose.node whose.rest (found acts) whole start
  pub enough : AreEnough whose start.calls
  pub logged : IsLogged (closed_calls whose) start (take whole (found acts)) acts s

-- all that came was served and said, but what has begun of a line
pub record IsTurn (whose : Whose) (acts : List Act) (s : Serving) (pending : List ℕ) : Type 0 where
  pub serves : Serves whose acts s
  pub begun : pending ≡ begun_line (heard acts)
  pub none : NoNewline pending
  pub no_records : s.records ≡ []
  pub no_words : s.out ≡ []
