-- What is asked most of a node: how many entries, slots or rows it has, and of one of them the request or the answer.
use Rattle.std.specs.Prelude.{◌≡◌, ◌⊎◌, ℕ, zero, nat_eq, nat_lt, ◌&&◌, Bool, true, false, List, Result, Ok, Err, Option, Some, None, if◌then◌else◌}
use Rattle.std.specs.Option.{option_map}
use Rattle.claim_model.specs.Words.{TxnId}
use Rattle.claim_model.specs.Node.{Node, Pharmacy, Switch, Payer}
use Rattle.node_state.specs.Nodes.{size_of, request_of, held_of}
use Rattle.node_logged.specs.Setting.{context_of}
use Rattle.node_service.specs.Serving.{Serving}
use Rattle.node_handle.specs.declared.refusal.Refusal.{Refusal}
use Rattle.node_handle.specs.declared.refusal.Refusal.TheVariants.{OutOfMemory, Closed, ShortBuffer, Unanswered, NotFound}
use Rattle.node_handle.specs.Saying.{Said}
use Rattle.node_handle.specs.Hosting.{Hosting, Settled}
use Rattle.node_handle.specs.Calls.{Stands, Lacks}

abbrev pub size_in : Serving → ℕ
size_in s = size_of s.state

-- how many entries, slots or rows a node has is told; where memory was refused, or there is no node, nothing changes
abbrev pub TellsSize : Option Serving → Said → ℕ → ℕ → Type 0
TellsSize node (Ok made) before after = option_map size_in node ≡ Some after
TellsSize node (Err why) before after = (after ≡ before) × ((why ≡ OutOfMemory) ⊎ ((why ≡ Closed) × (node ≡ None)))

-- so where all is on disk
abbrev pub Sizes : Option Hosting → Said → ℕ → ℕ → Type 0
Sizes node said before after = Settled node (after ≡ before) (λ s out. TellsSize s out before after) said

abbrev pub request_by : Option (List ℕ) → Result (List ℕ) Refusal
request_by (Some request) = Ok request
request_by None = Err NotFound

-- the request of a pharmacy's entry, or that there is none
abbrev pub request_in : ℕ → Serving → Result (List ℕ) Refusal
request_in number s = request_by (request_of s.state number)

-- the node is the pharmacy of this number
abbrev pub is_pharmacy : ℕ → Node → Bool
is_pharmacy number (Pharmacy n) = nat_eq n number
is_pharmacy number (Switch n) = false
is_pharmacy number (Payer n) = false

abbrev pub lacking_by : Bool → Option (List ℕ) → Refusal
lacking_by true (Some request) = Unanswered
lacking_by true None = NotFound
lacking_by false request = NotFound

-- why a node has no answer for an id: the pharmacy's own entry is open, or there is nothing
abbrev pub lacking_in : TxnId → Serving → Refusal
lacking_in id s = lacking_by (is_pharmacy id.pharmacy s.node) (request_of s.state id.number)

abbrev pub answer_by : Option (List ℕ) → Refusal → Result (List ℕ) Refusal
answer_by (Some answer) why = Ok answer
answer_by None why = Err why

-- the answer that a node holds for an id, or why there is none
abbrev pub answer_for : TxnId → Serving → Result (List ℕ) Refusal
answer_for id s = answer_by (held_of (context_of s.settings) s.state id) (lacking_in id s)

-- the same of an id by its two numbers, of which neither is 0
abbrev pub answer_in : ℕ → ℕ → Serving → Result (List ℕ) Refusal
answer_in pharmacy number s = if nat_lt zero pharmacy && nat_lt zero number then answer_for (record { pharmacy = pharmacy; number = number }) s else Err NotFound

-- the bytes that a node has are copied into a buffer, or it is said why there are none; then the buffer is as it was
abbrev pub Gives : Option (Result (List ℕ) Refusal) → Said → List ℕ → List ℕ → ℕ → ℕ → Type 0
Gives given (Ok made) buffer after before size = (bytes : List ℕ) × ((given ≡ Some (Ok bytes)) × Stands bytes buffer after size)
Gives given (Err why) buffer after before size =
    ((why ≡ ShortBuffer) × ((bytes : List ℕ) × ((given ≡ Some (Ok bytes)) × Lacks bytes buffer after size)))
    ⊎ (((after ≡ buffer) × (size ≡ before)) × ((why ≡ OutOfMemory) ⊎ (((why ≡ Closed) × (given ≡ None)) ⊎ (given ≡ Some (Err why)))))

-- so is a request, or an answer, where all is on disk
abbrev pub GivesRequest : ℕ → Option Hosting → Said → List ℕ → List ℕ → ℕ → ℕ → Type 0
GivesRequest number node said buffer after before size =
    Settled node ((after ≡ buffer) × (size ≡ before)) (λ s out. Gives (option_map (request_in number) s) out buffer after before size) said

abbrev pub GivesAnswer : ℕ → ℕ → Option Hosting → Said → List ℕ → List ℕ → ℕ → ℕ → Type 0
GivesAnswer pharmacy number node said buffer after before size =
    Settled node ((after ≡ buffer) × (size ≡ before)) (λ s out. Gives (option_map (answer_in pharmacy number) s) out buffer after before size) said
