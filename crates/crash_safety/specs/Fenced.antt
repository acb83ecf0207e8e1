-- Several processes of one name beside one another, over a stream in place of a disk: an append is taken at the expected end alone.
use Rattle.std.specs.Prelude.{◌≡◌, ℕ, ◌+◌, Bool, false, nat_eq, cond, List, [], ◌∷◌, ◌++◌, map, take, length, Option, Some, None}
use Rattle.claim_model.specs.Context.{Context}
use Rattle.claim_model.specs.Numbered.{numbered}
use Rattle.claim_model.specs.Node.{Node, Call, Outcome, Done, Refused}
use Rattle.claim_model.specs.World.{Packet, Event}
use Rattle.claim_model.specs.Settings.{WorldSettings}
use Rattle.claim_model.specs.Nodes.{AnyNode, node_step, same_node, Asked, asked}
use Rattle.claim_model.specs.Logs.{Logged, posted_by}
use Rattle.crash_safety.specs.Network.{Move, replayed, network}
use Rattle.crash_safety.specs.Runs.{on_disks}

-- a request to append a call to the stream of a node, which is expected to have this many entries. Requests are numbered from 1, and may be
-- lost, late, or come any number of times
pub record Request : Type 0 where
  pub node : Node
  pub expected : ℕ
  pub logged : Logged

-- a call in a stream, and the number of the request that put it there
pub record Entry : Type 0 where
  pub request : ℕ
  pub logged : Logged

-- a process of a node, one of any number
pub record Candidate : Type 0 where
  -- the node in memory; none where this process does not live
  pub memory : Option AnyNode
  -- of how many entries of the stream it knows that they are there
  pub known : ℕ
  -- the calls that it made after them
  pub pending : List Logged
  -- the request for the first of these, where it has made one
  pub waits_for : Option ℕ

pub record Fenced : Type 0 where
  pub streams : Node → List Entry
  pub requests : List Request
  pub candidates : Node → ℕ → Candidate
  pub wire : List Packet

pub data Deed : Type 0 where
  -- a candidate begins: reads the whole stream, and replays it
  Joining : Node → (candidate : ℕ) → Deed
  -- it makes a call in memory, where it lives
  Asking : (candidate : ℕ) → Event → Deed
  -- it requests that its first pending call be appended after the entries that it knows
  Requesting : Node → (candidate : ℕ) → Deed
  -- a request comes to the stream, which takes it only if it ends where the request expects it to end
  Taking : (request : ℕ) → Deed
  -- a candidate hears that its request was taken, or finds its entry after those that it knows
  Learning : Node → (candidate : ℕ) → Deed
  -- it says a packet of the calls that it knows to be in the stream, now or again
  Telling : Node → (candidate : ℕ) → (packet : ℕ) → Deed
  -- it dies
  Ending : Node → (candidate : ℕ) → Deed

-- the log that a stream is
abbrev pub log_of : List Entry → List Logged
log_of entries = map (λ (e : Entry). e.logged) entries

abbrev pub put_candidate : Fenced → Node → ℕ → Candidate → Fenced
put_candidate f node number c =
    record { streams = f.streams; requests = f.requests; candidates = λ (other : Node) (k : ℕ). cond (same_node node other) (cond (nat_eq number k) c (f.candidates other k)) (f.candidates other k); wire = f.wire }

abbrev pub joined : Context → WorldSettings → Node → List Entry → Candidate
joined ctx s node entries = record { memory = replayed ctx s node (log_of entries); known = length entries; pending = []; waits_for = None }

abbrev pub pending_after : Candidate → Call → Outcome AnyNode → Candidate
pending_after c call (Refused why) = c
pending_after c call (Done next sent) = record { memory = Some next; known = c.known; pending = c.pending ++ record { call = call; sent = sent } ∷ []; waits_for = c.waits_for }

abbrev pub makes_call : Context → Candidate → Call → Option AnyNode → Candidate
makes_call ctx c call None = c
makes_call ctx c call (Some node) = pending_after c call (node_step ctx node call)

abbrev pub asking : Context → Fenced → ℕ → Option Asked → Fenced
asking ctx f number None = f
asking ctx f number (Some a) = put_candidate f a.node number (makes_call ctx (f.candidates a.node number) a.call (f.candidates a.node number).memory)

abbrev pub with_request : Fenced → Request → Fenced
with_request f r = record { streams = f.streams; requests = f.requests ++ r ∷ []; candidates = f.candidates; wire = f.wire }

abbrev pub requesting : Fenced → Node → ℕ → Candidate → List Logged → Fenced
requesting f node number c [] = f
requesting f node number c (l ∷ more) =
    put_candidate (with_request f (record { node = node; expected = c.known; logged = l })) node number
    (record { memory = c.memory; known = c.known; pending = c.pending; waits_for = Some (length f.requests + 1) })

abbrev pub with_entry : Fenced → Node → Entry → Fenced
with_entry f node e =
    record { streams = λ (other : Node). cond (same_node node other) (f.streams node ++ e ∷ []) (f.streams other); requests = f.requests; candidates = f.candidates; wire = f.wire }

-- the fence
abbrev pub taking : Fenced → ℕ → Option Request → Fenced
taking f k None = f
taking f k (Some r) = cond (nat_eq r.expected (length (f.streams r.node))) (with_entry f r.node (record { request = k; logged = r.logged })) f

abbrev pub waits_for_it : Candidate → Entry → Option ℕ → Bool
waits_for_it c e None = false
waits_for_it c e (Some k) = nat_eq k e.request

-- one more entry that it knows to be there, for the first of its pending calls
abbrev pub knows_one_more : Candidate → List Logged → Candidate
knows_one_more c [] = c
knows_one_more c (l ∷ more) = record { memory = c.memory; known = c.known + 1; pending = more; waits_for = None }

abbrev pub learning : Fenced → Node → ℕ → Candidate → Option Entry → Fenced
learning f node number c None = f
learning f node number c (Some e) = cond (waits_for_it c e c.waits_for) (put_candidate f node number (knows_one_more c c.pending)) f

abbrev pub telling : Fenced → Option Packet → Fenced
telling f None = f
telling f (Some p) = record { streams = f.streams; requests = f.requests; candidates = f.candidates; wire = f.wire ++ p ∷ [] }

-- the calls that a candidate knows to be in its stream
abbrev pub known_log : Fenced → Node → ℕ → List Logged
known_log f node number = take (f.candidates node number).known (log_of (f.streams node))

abbrev pub ended : Candidate
ended = record { memory = None; known = 0; pending = []; waits_for = None }

unfoldable pub done : Context → WorldSettings → Fenced → Deed → Fenced
done ctx s f (Joining node number) = put_candidate f node number (joined ctx s node (f.streams node))
done ctx s f (Asking number event) = asking ctx f number (asked f.wire event)
done ctx s f (Requesting node number) = requesting f node number (f.candidates node number) (f.candidates node number).pending
done ctx s f (Taking request) = taking f request (numbered f.requests request)
done ctx s f (Learning node number) = learning f node number (f.candidates node number) (numbered (f.streams node) ((f.candidates node number).known + 1))
done ctx s f (Telling node number packet) = telling f (numbered (posted_by node (known_log f node number)) packet)
done ctx s f (Ending node number) = put_candidate f node number ended

-- empty streams, no candidate, nothing requested, nothing said
abbrev pub at_first : Fenced
at_first = record { streams = λ (node : Node). []; requests = []; candidates = λ (node : Node) (number : ℕ). ended; wire = [] }

abbrev pub all_done : Context → WorldSettings → Fenced → List Deed → Fenced
all_done ctx s f [] = f
all_done ctx s f (deed ∷ deeds) = all_done ctx s (done ctx s f deed) deeds

-- what candidates over streams come to, from the beginning
abbrev pub fenced : Context → WorldSettings → List Deed → Fenced
fenced ctx s deeds = all_done ctx s at_first deeds

-- streams are the disks of a network with one process a node, and the same was said
pub record AreDisks (ctx : Context) (s : WorldSettings) (f : Fenced) (moves : List Move) : Type 0 where
  pub disks : (node : Node) → on_disks (network ctx s moves) node ≡ log_of (f.streams node)
  pub wire : (network ctx s moves).wire ≡ f.wire

-- so at any two moments, the moves to the second go on from those to the first
pub record Fences (ctx : Context) (s : WorldSettings) (now later : Fenced) : Type 0 where
  pub moves : List Move
  pub more : List Move
  pub first : AreDisks ctx s now moves
  pub last : AreDisks ctx s later (moves ++ more)

-- a candidate that lives has in memory the replay of what it knows to be there and of what it made after it
abbrev pub IsReplayOfKnown : Context → WorldSettings → Fenced → Node → ℕ → Type 0
IsReplayOfKnown ctx s f node number =
    (m : AnyNode) → (f.candidates node number).memory ≡ Some m → replayed ctx s node (known_log f node number ++ (f.candidates node number).pending) ≡ Some m
