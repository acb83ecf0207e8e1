-- An answer that is told before it is on disk.
use Rattle.std.specs.Prelude.{ℕ, zero, nat_lt, ◌&&◌, List, Result, Ok, Err, Option, Some, None, if◌then◌else◌}
use Rattle.std.specs.Option.{option_map}
use Rattle.claim_model.specs.Words.{TxnId}
use Rattle.node_state.specs.Nodes.{request_of}
use Rattle.node_logged.specs.Setting.{context_of}
use Rattle.node_service.specs.Serving.{Serving}
use Rattle.node_handle.specs.declared.refusal.Refusal.{Refusal}
use Rattle.node_handle.specs.declared.refusal.Refusal.TheVariants.{Unsynced, NotFound}
use Rattle.node_handle.specs.Saying.{Said}
use Rattle.node_handle.specs.Hosting.{Hosting}
use Rattle.request_route.specs.Routed.{is_rejected, is_routed}
use Rattle.node_handle.specs.Asked.{Gives, answer_for}

-- an answer of a payer; a switch's rejection is not told before it is on disk
abbrev pub of_payer : Result (List ℕ) Refusal → Result (List ℕ) Refusal
of_payer (Ok answer) = if is_rejected answer then Err Unsynced else Ok answer
of_payer (Err why) = Err why

-- the answer under an id whose request this is, where that has a route
abbrev pub heard_routed : Serving → TxnId → List ℕ → Result (List ℕ) Refusal
heard_routed s id request = if is_routed (context_of s.settings) id request then of_payer (answer_for id s) else Err Unsynced

abbrev pub heard_by : Serving → ℕ → ℕ → Option (List ℕ) → Result (List ℕ) Refusal
heard_by s pharmacy number (Some request) =
    if nat_lt zero pharmacy && nat_lt zero number then heard_routed s (record { pharmacy = pharmacy; number = number }) request else Err NotFound
heard_by s pharmacy number None = Err NotFound

-- the answer that a pharmacy has under a number, where a payer gave it, which its request has a route to; nothing is asked of the disk
abbrev pub heard_in : ℕ → ℕ → Serving → Result (List ℕ) Refusal
heard_in pharmacy number s = heard_by s pharmacy number (request_of s.state number)

abbrev pub heard_of : ℕ → ℕ → Hosting → Result (List ℕ) Refusal
heard_of pharmacy number h = heard_in pharmacy number h.serving

-- such an answer is copied into a buffer, or it is said why there is none; then the buffer is as it was
abbrev pub GivesHeard : ℕ → ℕ → Option Hosting → Said → List ℕ → List ℕ → ℕ → ℕ → Type 0
GivesHeard pharmacy number node said buffer after before size = Gives (option_map (heard_of pharmacy number) node) said buffer after before size
