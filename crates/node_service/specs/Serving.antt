-- What a line makes of a node that is served: the node, the records for its log, and what is written.
use Rattle.std.specs.Prelude.{ℕ, zero, ◌+◌, ◌&&◌, ◌==◌, Bool, false, cond, bytes_eq, nat_lt, List, [], ◌∷◌, ◌++◌, length, codes, Option, Some, None, if◌then◌else◌}
use Rattle.claim_model.specs.Context.{Context}
use Rattle.claim_model.specs.Node.{Node, Pharmacy, Switch, Payer, Sent, Call, Submit, Tick, Take, Stop, Start, Revise, Adjudicate, Outcome, Done, Refused}
use Rattle.claim_model.specs.Nodes.{AnyNode, node_step}
use Rattle.node_state.specs.Nodes.{entries_of, request_of, held_of, is_idle_node}
use Rattle.claim_model.specs.Refusal.{refusal_name}
use Rattle.world_setup.specs.Seen.{call_seen}
use Rattle.world_setup.specs.declared.settings.WorldSettings.{WorldSettings}
use Rattle.node_logged.specs.Setting.{context_of}
use Rattle.kept_logs.specs.Stamps.{Stamp, stamped_text}
use Rattle.kept_logs.specs.References.{Reference, referred}
use Rattle.kept_logs.specs.Frames.{frame_text}
use Rattle.node_service.specs.declared.questions.Question.{Question}
use Rattle.node_service.specs.declared.questions.Question.TheVariants.{Answer, Count, Open, Row, Payments}
use Rattle.node_service.specs.Asking.{Asked, Calls, Tells, asked_of}
use Rattle.node_service.specs.Answering.{sent_lines, done_line, idle_line, known_line, number_line, refused_line, answer_line}
use Rattle.node_service.specs.BookRow.{row_text}
use Rattle.node_service.specs.Listing.{count_text, open_text}
use Rattle.node_service.specs.Payments.{payments_text}

-- a node, the version of its log, how many calls that has, the references of its submissions, the records that are to be appended to the log, and what is
-- to be written once they are synced
pub record Serving : Type 0 where
  pub settings : WorldSettings
  pub node : Node
  pub version : ℕ
  pub state : AnyNode
  pub calls : ℕ
  pub references : List Reference
  pub records : List ℕ
  pub out : List ℕ

-- the last line of a call that was made: of a submission the number of its entry
abbrev pub last_line : Call → AnyNode → List ℕ
last_line (Submit text) next = number_line (entries_of next)
last_line Tick next = done_line
last_line (Take from bytes) next = done_line
last_line Stop next = done_line
last_line Start next = done_line
last_line (Revise change) next = done_line
last_line (Adjudicate from bytes advice) next = done_line

-- what is written of a call that was made
abbrev pub made_lines : Call → List Sent → AnyNode → List ℕ
made_lines call sent next = sent_lines sent ++ last_line call next

-- what is written without a call
abbrev pub saying : Serving → List ℕ → Serving
saying s text = record { settings = s.settings; node = s.node; version = s.version; state = s.state; calls = s.calls; references = s.references; records = s.records; out = s.out ++ text }

-- a call that was made is recorded under the next number, with what it sent and what was noted of it; a refused one leaves all as it was
unfoldable pub after_call : Serving → Stamp → Call → Outcome AnyNode → Serving
after_call s stamp call (Done next sent) = record {
  settings = s.settings;
  node = s.node;
  version = s.version;
  state = next;
  calls = s.calls + 1;
  references = s.references ++ referred stamp.reference call next;
  records = s.records ++ frame_text s.version (s.calls + 1) (stamped_text (record { logged = record { call = call; sent = sent }; stamp = stamp }));
  out = s.out ++ made_lines call sent next;
}
after_call s stamp call (Refused why) = saying s (refused_line (refusal_name why))

-- a tick that leaves the node as it is and sends nothing: that is said, and not recorded
abbrev pub is_idle_call : AnyNode → Call → Bool
is_idle_call state (Submit text) = false
is_idle_call state Tick = is_idle_node state
is_idle_call state (Take from bytes) = false
is_idle_call state Stop = false
is_idle_call state Start = false
is_idle_call state (Revise change) = false
is_idle_call state (Adjudicate from bytes advice) = false

-- a call is made, or refused
abbrev pub making : Serving → Stamp → Call → Serving
making s stamp call = cond (is_idle_call s.state call) (saying s idle_line) (after_call s stamp call (node_step (context_of s.settings) s.state call))

-- the number of the first submission under this reference
abbrev pub found : List Reference → List ℕ → Option ℕ
found [] name = None
found (r ∷ more) name = cond (bytes_eq name r.name) (Some r.number) (found more name)

abbrev pub found_named : List Reference → List ℕ → Option ℕ
found_named references name = cond (length name == 0) None (found references name)

-- the number that a submission has already: its caller has asked it before, under its reference
abbrev pub known : List Reference → List ℕ → Call → Option ℕ
known references name (Submit text) = found_named references name
known references name Tick = None
known references name (Take from bytes) = None
known references name Stop = None
known references name Start = None
known references name (Revise change) = None
known references name (Adjudicate from bytes advice) = None

-- the number is told again, where the request is the same
abbrev pub again_line : ℕ → List ℕ → Option (List ℕ) → List ℕ
again_line number text None = refused_line (codes "ReferenceReused")
again_line number text (Some request) = cond (bytes_eq request text) (known_line number) (refused_line (codes "ReferenceReused"))

abbrev pub again : AnyNode → Call → ℕ → List ℕ
again state (Submit text) number = again_line number text (request_of state number)
again state Tick number = []
again state (Take from bytes) number = []
again state Stop number = []
again state Start number = []
again state (Revise change) number = []
again state (Adjudicate from bytes advice) number = []

-- a submission whose reference is known is not made again; all else is made
abbrev pub making_once : Serving → Stamp → Call → Option ℕ → Serving
making_once s stamp call (Some number) = saying s (again s.state call number)
making_once s stamp call None = making s stamp call

-- an answer that is held, or whether the number has an entry
abbrev pub answer_text : Option (List ℕ) → Option (List ℕ) → List ℕ
answer_text (Some answer) request = answer_line answer
answer_text None (Some request) = codes "open\n"
answer_text None None = codes "none\n"

-- the answer to a number of this pharmacy; of another node there is none
abbrev pub answer_of : Context → AnyNode → Node → ℕ → List ℕ
answer_of ctx state (Pharmacy pharmacy) number =
    if nat_lt zero pharmacy && nat_lt zero number then answer_text (held_of ctx state (record { pharmacy = pharmacy; number = number })) (request_of state number) else codes "none\n"
answer_of ctx state (Switch switch) number = codes "none\n"
answer_of ctx state (Payer payer) number = codes "none\n"

-- what is told at a question, which changes nothing
abbrev pub told_of : Context → AnyNode → Node → Question → List ℕ
told_of ctx state node (Answer number) = answer_of ctx state node number
told_of ctx state node Count = count_text state
told_of ctx state node (Open number count) = open_text number count state
told_of ctx state node (Row number) = row_text ctx number state
told_of ctx state node (Payments number count) = payments_text ctx number count state

-- what is asked is said
abbrev pub telling : Serving → Question → Serving
telling s question = saying s (told_of (context_of s.settings) s.state s.node question)

-- the records are on disk, and what was to be written was written
abbrev pub cleared : Serving → Serving
cleared s = record { settings = s.settings; node = s.node; version = s.version; state = s.state; calls = s.calls; references = s.references; records = []; out = [] }

abbrev pub after_asked : Serving → Option Asked → Serving
after_asked s None = saying s (refused_line (codes "Line"))
after_asked s (Some (Calls n)) = making_once s n.stamp (call_seen n.call) (known s.references n.stamp.reference (call_seen n.call))
after_asked s (Some (Tells question)) = telling s question

-- what a line makes of it
unfoldable pub after_line : Serving → List ℕ → Serving
after_line s line = after_asked s (asked_of line)
