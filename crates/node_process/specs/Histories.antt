-- The processes of one node, one after another, and what is left of the file of its log where one dies; and the process of the model that they are.
use Rattle.std.specs.Prelude.{◌≡◌, ◌⊎◌, ⊤, ℕ, not, ◌&&◌, cond, flat_map, map, List, [], ◌∷◌, ◌++◌, length, take, replicate, codes, Option, Some, None, Ok, Err}
use Rattle.std.specs.List.{AllByRecursion}
use Rattle.claim_model.specs.Context.{Context}
use Rattle.claim_model.specs.declared.refusal.Refusal.{Refusal}
use Rattle.claim_model.specs.Refusal.{refusal_name}
use Rattle.claim_model.specs.Node.{Node, Call, Sent}
use Rattle.claim_model.specs.Nodes.{AnyNode}
use Rattle.claim_model.specs.World.{packet_from}
use Rattle.claim_model.specs.Logs.{Logged, posted_by}
use Rattle.crash_safety.specs.Network.{Process}
use Rattle.crash_safety.specs.Network as model
use Rattle.crash_safety.specs.Runs.{IsAmong}
use Rattle.crash_safety.specs.Steps.{Step, Makes, Syncs, Crashes, Restarts, process_after, replayed_from}
use Rattle.world_setup.specs.declared.settings.WorldSettings.{WorldSettings as Settings}
use Rattle.node_logged.specs.Setting.{context_of}
use Rattle.kept_logs.specs.declared.fault.LogFault.TheVariants.{Short}
use Rattle.kept_logs.specs.Stamps.{KeptLog}
use Rattle.kept_logs.specs.Logs.{log_in, KeptAs}
use Rattle.kept_logs.specs.Cuts.{IsTextOf}
use Rattle.kept_logs.specs.Rests.{begins}
use Rattle.settings_digest.specs.Digests.{turned_under}
use Rattle.world_setup.specs.Seen.{call_seen}
use Rattle.node_service.specs.Asking.{Asked, Noted, Calls, Tells as Asks, asked_of}
use Rattle.node_service.specs.Answering.{sent_line, idle_line, known_line, refused_line}
use Rattle.node_service.specs.Serving.{Serving, last_line, told_of}
use Rattle.node_service.specs.Opened.{IsOpened}
use Rattle.node_process.specs.Acts.{Act, Found, Unread, Cut, Append, Sync, Say, Hear, Unheard, found, file, has_failed, said, heard}
use Rattle.node_process.specs.Heard.{whole_lines, begun_line}
use Rattle.node_process.specs.Safe.{greeting, IsStartOf, IsUnopened, IsRun, Whose}
use Rattle.node_process.specs.Ends.{Remembers}

-- ---- bytes

-- what happens to a node: its process asks something of the system; or it dies, by itself or with its machine, and a start will find these bytes
pub data Happening : Type 0 where
  Does : Act → Happening
  Dies : (left : List ℕ) → Happening

-- what the process that lives has asked of the system, the newest first
abbrev pub acts_of : List Happening → List Act
acts_of [] = []
acts_of (Does act ∷ before) = act ∷ acts_of before
acts_of (Dies left ∷ before) = []

-- what the last death left; or the file with which the history begins
abbrev pub left_of : List ℕ → List Happening → List ℕ
left_of begun [] = begun
left_of begun (Does act ∷ before) = left_of begun before
left_of begun (Dies left ∷ before) = left

-- the file as the system has it: as it was left, while it was not read
abbrev pub file_or : List ℕ → List Act → List ℕ
file_or left [] = left
file_or left (Found bytes ∷ before) = file (Found bytes ∷ before)
file_or left (Unread ∷ before) = left
file_or left (Cut size done ∷ before) = file (Cut size done ∷ before)
file_or left (Append bytes done ∷ before) = file (Append bytes done ∷ before)
file_or left (Sync done ∷ before) = file (Sync done ∷ before)
file_or left (Say bytes done ∷ before) = file (Say bytes done ∷ before)
file_or left (Hear bytes ∷ before) = file (Hear bytes ∷ before)
file_or left (Unheard ∷ before) = file (Unheard ∷ before)

abbrev pub file_of : List ℕ → List Happening → List ℕ
file_of begun history = file_or (left_of begun history) (acts_of history)

-- the bytes that are on the disk for certain, where all are with which the history begins
abbrev pub on_disk : List ℕ → List Happening → List ℕ
on_disk begun [] = begun
on_disk begun (Does (Found bytes) ∷ before) = on_disk begun before
on_disk begun (Does Unread ∷ before) = on_disk begun before
on_disk begun (Does (Cut size done) ∷ before) = take size (on_disk begun before)
on_disk begun (Does (Append bytes done) ∷ before) = on_disk begun before
on_disk begun (Does (Sync done) ∷ before) = cond (done && not (has_failed (acts_of before))) (file (acts_of before)) (on_disk begun before)
on_disk begun (Does (Say bytes done) ∷ before) = on_disk begun before
on_disk begun (Does (Hear bytes) ∷ before) = on_disk begun before
on_disk begun (Does Unheard ∷ before) = on_disk begun before
on_disk begun (Dies left ∷ before) = on_disk begun before

-- under which digest a log is that begins with these bytes: in version 1 that of the settings' file, else that of what it says; where there are none yet, the
-- log is of version 2
abbrev pub digest_of : Whose → List ℕ → List ℕ
digest_of whose begun = turned_under whose.settings whose.rest begun

-- bytes open, to their last one: they are a log that their node makes
pub record OpensWhole (whose : Whose) (bytes : List ℕ) : Type 0 where
  pub start : Serving
  pub opened : IsOpened whose.settings whose.node whose.rest bytes (length bytes) start

-- a history begins with no log, or with any that opens, all of it on the disk: one that was grown, turned, restored, or is of version 1
abbrev pub CanBegin : Whose → List ℕ → Type 0
CanBegin whose begun = (begun ≡ []) ⊎ OpensWhole whose begun

-- this many zeros
abbrev pub zeros : ℕ → List ℕ
zeros n = replicate n 0

-- bytes are a log, which ends with its head or its last record
abbrev pub IsWholeLog : List ℕ → List ℕ → Type 0
IsWholeLog digest bytes = (log : KeptLog) × KeptAs digest bytes log

-- a death leaves what is on the disk for certain, and after that a beginning of what the system had; or of what it had when the process began,
-- since what was cut off may be there again. Where this ends with a record, zeros may stand after it: some file systems leave them, however many,
-- where bytes are lost that were not synced
pub record IsLeft (whose : Whose) (begun : List ℕ) (before : List Happening) (left : List ℕ) : Type 0 where
  pub front : List ℕ
  pub lost : ℕ
  pub is : left ≡ front ++ zeros lost
  pub kept : IsStartOf (on_disk begun before) front
  pub had : IsStartOf front (file_of begun before) ⊎ IsStartOf front (left_of begun before)
  pub ends : (lost ≡ 0) ⊎ IsWholeLog (digest_of whose begun) front

-- it began with what the last death left, or could not read it
abbrev pub BeginsWith : List ℕ → List Act → Type 0
BeginsWith left acts = (acts ≡ []) ⊎ ((acts ≡ Unread ∷ []) ⊎ (found acts ≡ left))

-- each process finds what the one before it left, and at each moment is a run of its node (`serve_all`), or has done nothing but to read the log
abbrev pub IsHistory : Whose → List ℕ → List Happening → Type 0
IsHistory whose begun [] = ⊤
IsHistory whose begun (Does act ∷ before) =
    IsHistory whose begun before × (BeginsWith (left_of begun before) (act ∷ acts_of before) × (IsUnopened (act ∷ acts_of before) ⊎ IsRun whose (act ∷ acts_of before)))
IsHistory whose begun (Dies left ∷ before) = IsHistory whose begun before × IsLeft whose begun before left

-- what a process has asked, as what happens
abbrev pub happenings : List Act → List Happening
happenings acts = map Does acts

-- ---- that they are the same

-- bytes are the text of a log of these calls, whatever was noted of them; or there is no log yet
abbrev pub HasCalls : List ℕ → Node → List ℕ → List Logged → Type 0
HasCalls digest node bytes calls = IsTextOf digest (record { node = node; calls = calls }) bytes ⊎ ((bytes ≡ []) × (calls ≡ []))

-- bytes are read as a log of these calls; or there is no whole head of a log yet
abbrev pub ReadsCalls : List ℕ → Node → List ℕ → List Logged → Type 0
ReadsCalls digest node bytes calls =
    ((whole : ℕ) × (log_in digest bytes ≡ Ok (record { log = record { node = node; calls = calls }; whole = whole })))
    ⊎ ((log_in digest bytes ≡ Err Short) × (calls ≡ []))

-- who has done no more than to read the log has nothing in memory; who has, has what the log as it lies makes of the node that it begins with
abbrev pub IsAlive : Context → Option AnyNode → List Act → Process → Type 0
IsAlive ctx first [] p = p.memory ≡ None
IsAlive ctx first (act ∷ []) p = p.memory ≡ None
IsAlive ctx first (act ∷ one ∷ before) p = p.memory ≡ replayed_from ctx first (model.file p)

-- the node that a process has in memory (`Leaves` of `serve_all`) is that of the model's process, after the calls of the records that it still has to append
pub record IsMemory (ctx : Context) (p : Process) (s : Serving) : Type 0 where
  pub pending : List Logged
  pub state : replayed_from ctx p.memory pending ≡ Some s.state
  pub none : s.records ≡ [] → pending ≡ []

-- so of whatever node the process has in memory, once it has opened its log
abbrev pub Memories : Context → Whose → List Act → Process → Type 0
Memories ctx whose [] p = ⊤
Memories ctx whose (act ∷ []) p = ⊤
Memories ctx whose (act ∷ one ∷ before) p = (s : Serving) → Remembers whose (act ∷ one ∷ before) s → IsMemory ctx p s

-- what is written: the line of a packet, or a line that sends nothing
pub data Word : Type 0 where
  Sends : Sent → Word
  Tells : List ℕ → Word

abbrev pub word_text : Word → List ℕ
word_text (Sends sent) = sent_line sent
word_text (Tells text) = text

-- a text answers a question; to a call there is no answer
abbrev pub IsAnswer : Context → AnyNode → Node → Asked → List ℕ → Type 0
IsAnswer ctx state node (Calls noted) text = ⊥
IsAnswer ctx state node (Asks question) text = text ≡ told_of ctx state node question

-- the lines that send nothing: how many calls a log has, and how many were made before it, why a call was refused, that a line is none, that a reference has another request, how a call
-- ended, that a tick changes nothing, the number that a submission has already, and answers to questions
pub data SendsNothing (text : List ℕ) : Type 0 where
  IsReady : (before calls : ℕ) → text ≡ greeting before calls → SendsNothing text
  IsRefused : (why : Refusal) → text ≡ refused_line (refusal_name why) → SendsNothing text
  IsNoLine : text ≡ refused_line (codes "Line") → SendsNothing text
  IsReused : text ≡ refused_line (codes "ReferenceReused") → SendsNothing text
  IsLast : (call : Call) (next : AnyNode) → text ≡ last_line call next → SendsNothing text
  IsIdle : text ≡ idle_line → SendsNothing text
  IsKnown : (number : ℕ) → text ≡ known_line number → SendsNothing text
  IsTold : (ctx : Context) (state : AnyNode) (node : Node) (asked : Asked) → IsAnswer ctx state node asked text → SendsNothing text

-- a packet is one that these calls of the node sent
abbrev pub IsWordOf : Node → List Logged → Word → Type 0
IsWordOf node calls (Sends sent) = IsAmong (posted_by node calls) (packet_from node sent)
IsWordOf node calls (Tells text) = SendsNothing text

-- bytes begin lines of which each packet is one that these calls sent
pub record IsToldBy (node : Node) (calls : List Logged) (text : List ℕ) : Type 0 where
  pub words : List Word
  pub each : AllByRecursion (IsWordOf node calls) words
  pub spelled : IsStartOf text (flat_map word_text words)

-- what a node has on its disk, in its file and in its memory is what the process of the model has, and what its process has said is what the
-- synced calls of that process sent
pub record IsProcess (whose : Whose) (begun : List ℕ) (settings : Settings) (history : List Happening) (p : Process) : Type 0 where
  pub disk : HasCalls (digest_of whose begun) whose.node (on_disk begun history) p.synced
  pub lies : ReadsCalls (digest_of whose begun) whose.node (file_of begun history) (model.file p)
  pub memory : IsAlive (context_of settings) (begins settings whose.node whose.rest) (acts_of history) p
  pub held : Memories (context_of settings) whose (acts_of history) p
  pub told : IsToldBy whose.node p.synced (said (acts_of history))

-- ---- what was heard

-- one of these lines asks for this call
pub record IsAskedIn (lines : List (List ℕ)) (call : Call) : Type 0 where
  pub before : List (List ℕ)
  pub line : List ℕ
  pub after : List (List ℕ)
  pub is : lines ≡ before ++ line ∷ after
  pub noted : Noted
  pub asks : asked_of line ≡ Some (Calls noted)
  pub call_is : call_seen noted.call ≡ call

-- each call that steps make is asked for in these lines
abbrev pub AreAskedIn : List (List ℕ) → List Step → Type 0
AreAskedIn lines [] = ⊤
AreAskedIn lines (Makes call ∷ more) = IsAskedIn lines call × AreAskedIn lines more
AreAskedIn lines (Syncs ∷ more) = AreAskedIn lines more
AreAskedIn lines (Crashes left ∷ more) = AreAskedIn lines more
AreAskedIn lines (Restarts ∷ more) = AreAskedIn lines more

-- what one thing that happens adds to the whole lines that the node has heard
abbrev pub lines_at : List Happening → List (List ℕ)
lines_at [] = []
lines_at (Does (Found bytes) ∷ before) = []
lines_at (Does Unread ∷ before) = []
lines_at (Does (Cut size done) ∷ before) = []
lines_at (Does (Append bytes done) ∷ before) = []
lines_at (Does (Sync done) ∷ before) = []
lines_at (Does (Say bytes done) ∷ before) = []
lines_at (Does (Hear bytes) ∷ before) = whole_lines (begun_line (heard (acts_of before)) ++ bytes)
lines_at (Does Unheard ∷ before) = []
lines_at (Dies left ∷ before) = []

-- all whole lines that a node has heard, in all its lives, in order
abbrev pub lines_of : List Happening → List (List ℕ)
lines_of [] = []
lines_of (one ∷ before) = lines_of before ++ lines_at (one ∷ before)

-- ---- from the file that a history begins with

-- steps lead a process from an empty disk to one that has these calls
pub record HasBegun (ctx : Context) (first : Option AnyNode) (calls : List Logged) : Type 0 where
  pub steps : List Step
  pub is : process_after ctx first steps ≡ record { memory = None; synced = calls; unsynced = [] }

-- so at any two moments, and the steps to the later one go on from those to the first. They are steps over this log alone, which begins with the node
-- that the settings open, or after closed logs with the one that the rest starts; first those that made the calls of the file with which the history begins,
-- and then those of calls that lines asked for
pub record IsCourse (whose : Whose) (begun : List ℕ) (settings : Settings) (now later : List Happening) : Type 0 where
  pub calls : List Logged
  pub has : HasCalls (digest_of whose begun) whose.node begun calls
  pub begins_at : HasBegun (context_of settings) (begins settings whose.node whose.rest) calls
  pub steps : List Step
  pub more : List Step
  pub first : IsProcess whose begun settings now (process_after (context_of settings) (begins settings whose.node whose.rest) (begins_at.steps ++ steps))
  pub last : IsProcess whose begun settings later (process_after (context_of settings) (begins settings whose.node whose.rest) (begins_at.steps ++ (steps ++ more)))
  pub asked : AreAskedIn (lines_of later) (steps ++ more)
