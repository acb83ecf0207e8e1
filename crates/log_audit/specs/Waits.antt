-- Calls that wait for packets which no call before them sent.
use Rattle.std.specs.Prelude.{◌≡◌, ℕ, Bool, true, false, not, ◌+◌, ◌&&◌, cond, List, [], ◌∷◌, ◌++◌, length, take, map, flat_map, nat_eq, slice_get, codes, Option, Some, None, is_some, Result, Ok, Err}
use Rattle.std.specs.Cmp.Lexicographic.{pointwise}
use Rattle.std.specs.List.{list_any, list_all}
use Rattle.claim_model.specs.Context.{Context}
use Rattle.claim_model.specs.Words.{Kind, Request, Response, Envelope, EnvelopeFault}
use Rattle.claim_model.specs.Node.{Node, Sent, Call, Submit, Tick, Take, Stop, Start, Revise, Adjudicate}
use Rattle.claim_model.specs.Nodes.{same_node}
use Rattle.claim_model.specs.Logs.{Logged, NodeLog}
use Rattle.log_audit.specs.Sentences.{Piece, Words, Number, Named, sentence, told_lines}
use Rattle.log_audit.specs.Wrongs.{call_pieces}
use Rattle.log_audit.specs.declared.sentences.Manner.{Manner}

-- a packet is to that node, and of these bytes
abbrev pub is_packet : Node → List ℕ → Sent → Bool
is_packet to bytes s = same_node s.to to && pointwise nat_eq s.bytes bytes

-- a call sent such a packet
abbrev pub has_sent : Node → List ℕ → Logged → Bool
has_sent to bytes r = list_any (is_packet to bytes) r.sent

-- a log, and how many of its calls were made
pub record Progress : Type 0 where
  pub log : NodeLog
  pub made : ℕ

-- the calls of that node which were made sent such a packet
abbrev pub sent_before : Node → Node → List ℕ → Progress → Bool
sent_before from to bytes p = same_node p.log.node from && list_any (has_sent to bytes) (take p.made p.log.calls)

-- any call of that node sent such a packet
abbrev pub sent_ever : Node → Node → List ℕ → Progress → Bool
sent_ever from to bytes p = same_node p.log.node from && list_any (has_sent to bytes) p.log.calls

-- a call of a node waits: it takes a packet that no call sent which was made
abbrev pub waits : List Progress → Node → Call → Bool
waits ps node (Submit text) = false
waits ps node Tick = false
waits ps node (Take from bytes) = not (list_any (sent_before from node bytes) ps)
waits ps node Stop = false
waits ps node Start = false
waits ps node (Revise change) = false
waits ps node (Adjudicate from bytes advice) = not (list_any (sent_before from node bytes) ps)

-- the next call of a log
abbrev pub next_of : Progress → Option Logged
next_of p = slice_get p.log.calls p.made

abbrev pub next_waits : List Progress → Node → Option Logged → Bool
next_waits ps node None = true
next_waits ps node (Some r) = waits ps node r.call

-- the next call of a log waits, if there is one
abbrev pub is_held : List Progress → Progress → Bool
is_held ps p = next_waits ps p.log.node (next_of p)

abbrev pub has_next : Progress → Bool
has_next p = is_some (next_of p)

-- some log has calls left, and the next call of each log that has waits: so these calls are in no run
abbrev pub is_stuck : List Progress → Bool
is_stuck ps = list_all (is_held ps) ps && list_any has_next ps

abbrev pub kind_words : Kind → List ℕ
kind_words Request = codes "the request of "
kind_words Response = codes "the answer to "

abbrev pub opened_pieces : ℕ → Result Envelope EnvelopeFault → List Piece
opened_pieces size (Ok e) = Words (kind_words e.kind) ∷ Number e.id.pharmacy ∷ Words (codes ".") ∷ Number e.id.number ∷ []
opened_pieces size (Err fault) = Number size ∷ Words (codes " bytes that are no envelope") ∷ []

-- a packet by what it carries: the request or the answer of a transaction, or how many bytes that are no envelope
abbrev pub packet_pieces : Context → List ℕ → List Piece
packet_pieces ctx bytes = opened_pieces (length bytes) (ctx.read_envelope bytes)

-- who sent a packet that a call waits for
abbrev pub sent_words : Bool → List ℕ
sent_words later = cond later (codes " is sent by a later call alone") (codes " was sent by nobody")

abbrev pub sender_pieces : Node → Bool → List Piece
sender_pieces from later = Words (codes " from ") ∷ Named from ∷ Words (sent_words later) ∷ []

-- the packet that a node waits for, and who sent it
abbrev pub taken_text : Context → List Progress → Node → Node → List ℕ → List ℕ
taken_text ctx ps node from bytes = sentence (packet_pieces ctx bytes) ++ sentence (sender_pieces from (list_any (sent_ever from node bytes) ps))

-- what is said of a call that waits
abbrev pub wait_text : Context → List Progress → Node → Call → List ℕ
wait_text ctx ps node (Submit text) = codes "no event makes this call on such a node"
wait_text ctx ps node Tick = codes "no event makes this call on such a node"
wait_text ctx ps node (Take from bytes) = taken_text ctx ps node from bytes
wait_text ctx ps node (Adjudicate from bytes advice) = taken_text ctx ps node from bytes
wait_text ctx ps node Stop = codes "no event makes this call on such a node"
wait_text ctx ps node Start = codes "no event makes this call on such a node"
wait_text ctx ps node (Revise change) = codes "no event makes this call on such a node"

-- the line on a call that waits
unfoldable pub wait_line : Context → List Progress → Node → ℕ → Call → List ℕ
wait_line ctx ps node number call = sentence (call_pieces node number) ++ wait_text ctx ps node call

abbrev pub next_lines : Context → List Progress → Progress → Option Logged → List (List ℕ)
next_lines ctx ps p None = []
next_lines ctx ps p (Some r) = wait_line ctx ps p.log.node (p.made + 1) r.call ∷ []

-- the line on the next call of a log, if there is one
abbrev pub held_lines : Context → List Progress → Progress → List (List ℕ)
held_lines ctx ps p = next_lines ctx ps p (next_of p)

abbrev pub unordered : List (List ℕ)
unordered = codes "no order of these calls is a run" ∷ []

-- the lines on logs which no order of their calls brings together: on each next call, where all of them wait
unfoldable pub waiting_lines : Context → List Progress → List (List ℕ)
waiting_lines ctx ps = cond (is_stuck ps) (flat_map (held_lines ctx ps) ps) unordered

-- the text is that of the lines on logs, of each of which some calls were made
pub record IsWaitingText (ctx : Context) (logs : List NodeLog) (manner : Manner) (text : List ℕ) : Type 0 where
  pub made : List Progress
  pub of_logs : map (λ (p : Progress). p.log) made ≡ logs
  pub is : text ≡ told_lines manner (waiting_lines ctx made)
