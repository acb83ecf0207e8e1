-- The first call of a log that its node does not make as the log has it, and how.
use Rattle.std.specs.Prelude.{ℕ, ◌+◌, ◌==◌, cond, List, [], ◌∷◌, ◌++◌, length, flat_map, nat_eq, codes, Option, Some, None, Result, Ok, Err}
use Rattle.std.specs.Cmp.Lexicographic.{pointwise}
use Rattle.claim_model.specs.Context.{Context}
use Rattle.claim_model.specs.Settings.{WorldSettings, opening}
use Rattle.claim_model.specs.Node.{Node, Sent, Outcome, Done, Refused}
use Rattle.claim_model.specs.Nodes.{AnyNode, node_step, node_at, same_node}
use Rattle.claim_model.specs.Logs.{Logged, NodeLog}
use Rattle.claim_model.specs.Refusal.{refusal_name}
use Rattle.log_audit.specs.Sentences.{Piece, Words, Number, Named, sentence}

-- what is wrong with a call: the node refuses it by this name; it sends this many packets, and the log has this many; the packet of this
-- number, from 1, is for this node in the log, and for another one by the node; or to this node it has other bytes from this place on
pub data Wrong : Type 0 where
  Refusal : List ℕ → Wrong
  Count : ℕ → ℕ → Wrong
  Addressee : ℕ → Node → Wrong
  Bytes : ℕ → Node → ℕ → Wrong

-- a wrong call, by its number from 1
pub record FirstWrong : Type 0 where
  pub call : ℕ
  pub wrong : Wrong

-- how many bytes are the same before the first that differs, or that only one text has
abbrev pub common : List ℕ → List ℕ → ℕ
common [] ys = 0
common (x ∷ xs) [] = 0
common (x ∷ xs) (y ∷ ys) = cond (x == y) (common xs ys + 1) 0

-- what is wrong with a packet of this number, which a node sends as one and the log has as the other
abbrev pub packet_wrong : ℕ → Sent → Sent → Option Wrong
packet_wrong number made kept =
    cond (same_node made.to kept.to)
    (cond (pointwise nat_eq made.bytes kept.bytes) None (Some (Bytes number kept.to (common made.bytes kept.bytes))))
    (Some (Addressee number kept.to))

-- the first that is there
abbrev pub first_of : Option Wrong → Option Wrong → Option Wrong
first_of None others = others
first_of (Some wrong) others = Some wrong

-- the first packet that is wrong, of those that are numbered from here on
abbrev pub wrong_from : ℕ → List Sent → List Sent → Option Wrong
wrong_from number [] kept = None
wrong_from number (m ∷ made) [] = None
wrong_from number (m ∷ made) (k ∷ kept) = first_of (packet_wrong number m k) (wrong_from (number + 1) made kept)

-- what is wrong with the packets of a call, which a node sends as these and the log has as those
abbrev pub wrong_in : List Sent → List Sent → Option Wrong
wrong_in made kept = cond (length made == length kept) (wrong_from 1 made kept) (Some (Count (length made) (length kept)))

-- a node after a call, or what is wrong
abbrev pub unless_wrong : AnyNode → Option Wrong → Result AnyNode Wrong
unless_wrong after None = Ok after
unless_wrong after (Some wrong) = Err wrong

abbrev pub call_made_by : Outcome AnyNode → List Sent → Result AnyNode Wrong
call_made_by (Refused why) kept = Err (Refusal (refusal_name why))
call_made_by (Done after made) kept = unless_wrong after (wrong_in made kept)

-- a node after it made a call as the log has it, or what is wrong with the call
abbrev pub call_made : Context → AnyNode → Logged → Result AnyNode Wrong
call_made ctx node r = call_made_by (node_step ctx node r.call) r.sent

abbrev pub goes_on : ℕ → Result AnyNode Wrong → (AnyNode → Result AnyNode FirstWrong) → Result AnyNode FirstWrong
goes_on number (Ok after) more = more after
goes_on number (Err wrong) more = Err (record { call = number; wrong = wrong })

-- a node after these calls, which are numbered from here on, or the first of them that it does not make as the log has it
abbrev pub calls_made : Context → AnyNode → ℕ → List Logged → Result AnyNode FirstWrong
calls_made ctx node number [] = Ok node
calls_made ctx node number (r ∷ more) = goes_on number (call_made ctx node r) (λ after. calls_made ctx after (number + 1) more)

abbrev pub wrong_of : {A : Type 0} → Result A FirstWrong → Option FirstWrong
wrong_of (Ok node) = None
wrong_of (Err first) = Some first

abbrev pub wrong_at : Context → Option AnyNode → List Logged → Option FirstWrong
wrong_at ctx None calls = None
wrong_at ctx (Some node) calls = wrong_of (calls_made ctx node 1 calls)

-- the first call of a log that its node does not make as the log has it, from its opening state
abbrev pub first_wrong : Context → WorldSettings → NodeLog → Option FirstWrong
first_wrong ctx s log = wrong_at ctx (node_at (opening s) log.node) log.calls

-- which call of which node a line is on
abbrev pub call_pieces : Node → ℕ → List Piece
call_pieces node number = Named node ∷ Words (codes " call ") ∷ Number number ∷ Words (codes ": ") ∷ []

abbrev pub wrong_pieces : Wrong → List Piece
wrong_pieces (Refusal name) = Words (codes "the node refuses it: ") ∷ Words name ∷ []
wrong_pieces (Count made kept) = Words (codes "packets that the node sends ") ∷ Number made ∷ Words (codes ", that the log has ") ∷ Number kept ∷ []
wrong_pieces (Addressee packet to) =
    Words (codes "packet ") ∷ Number packet ∷ Words (codes " to ") ∷ Named to ∷ Words (codes " is for another node than the one that the node sends") ∷ []
wrong_pieces (Bytes packet to place) =
    Words (codes "packet ") ∷ Number packet ∷ Words (codes " to ") ∷ Named to ∷ Words (codes " has other bytes than the node sends, from byte ") ∷ Number place ∷
    Words (codes " on") ∷ []

-- the line on a wrong call of a node
unfoldable pub wrong_line : Node → FirstWrong → List ℕ
wrong_line node first = sentence (call_pieces node first.call) ++ sentence (wrong_pieces first.wrong)

abbrev pub line_of_wrong : Node → Option FirstWrong → List (List ℕ)
line_of_wrong node None = []
line_of_wrong node (Some first) = wrong_line node first ∷ []

-- the line on the first call of a log that its node does not make
abbrev pub log_wrongs : Context → WorldSettings → NodeLog → List (List ℕ)
log_wrongs ctx s log = line_of_wrong log.node (first_wrong ctx s log)

-- the lines on logs that their nodes do not make: none exactly where each node makes its log
abbrev pub wrong_lines : Context → WorldSettings → List NodeLog → List (List ℕ)
wrong_lines ctx s logs = flat_map (log_wrongs ctx s) logs
