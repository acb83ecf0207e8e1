-- A small story that is computed: a rejection that is told, and lost before it is kept, while its request gets a route.
use Rattle.std.specs.Prelude.{◌≡◌, ℕ, ◌+◌, ◌==◌, false, cond, List, [], ◌∷◌, Option, Some, None, Ok, Err}
use Rattle.claim_model.specs.Words.{TxnId, RequestHeader, ResponseHeader, NotCovered, Status, AcceptedStatus, RejectedStatus, Kind, Request, Response, Envelope, Plan}
use Rattle.claim_model.specs.Context.{Context}
use Rattle.claim_model.specs.Readable.{version_d0, billing_code}
use Rattle.claim_model.specs.Node.{Pharmacy, Switch, Payer}
use Rattle.claim_model.specs.World.{Event, Submission, Delivery, run}
use Rattle.claim_model.specs.Settings.{WorldSettings, opening}
use Rattle.claim_model.specs.Held.{held}
use Rattle.claim_model.specs.Logs.{Logged, log_in}
use Rattle.crash_safety.specs.Network.{Move, Calling, Syncing, Saying, Crashing, Restarting}
use Rattle.crash_safety.specs.Diskless.{light}
use Rattle.crash_safety.specs.Told.{IsTold}

-- any text is a request of one billing, with this header
abbrev pub small_header : RequestHeader
small_header = record { bin = []; version = version_d0; code = billing_code; pcn = []; count = 1; qualifier = []; provider = []; date = []; vendor = [] }

abbrev pub small_response : ResponseHeader
small_response = record { version = version_d0; code = billing_code; count = 1; status = 65; qualifier = []; provider = []; date = [] }

-- an answer is the letter of its status
abbrev pub letter : Status → List ℕ
letter AcceptedStatus = 65 ∷ []
letter RejectedStatus = 82 ∷ []

abbrev pub kind_number : Kind → ℕ
kind_number Request = 0
kind_number Response = 1

abbrev pub small_envelope : List ℕ → Envelope
small_envelope [] = record { kind = Request; id = record { pharmacy = 0; number = 0 }; payload = [] }
small_envelope (k ∷ []) = record { kind = Request; id = record { pharmacy = 0; number = 0 }; payload = [] }
small_envelope (k ∷ p ∷ []) = record { kind = Request; id = record { pharmacy = 0; number = 0 }; payload = [] }
small_envelope (k ∷ p ∷ n ∷ payload) = record { kind = cond (k == 0) Request Response; id = record { pharmacy = p; number = n }; payload = payload }

-- a reading of bytes for the story; no claim is priced, so the payer refuses its product
abbrev pub small : Option ℕ → Context
small route = record {
  header = λ text. Some small_header;
  orders = λ text. Err (NotCovered ∷ []) ∷ [];
  route = λ number key. route;
  switches = 1;
  price = λ plan claim. None;
  reprice = λ plan change. Ok plan;
  answer = λ h status rulings carried. letter status;
  carried = λ request rulings said. [];
  repeated = λ request rulings places. [];
  read_answer = λ bytes. Some (record { header = small_response; rulings = [] });
  read_advice = λ bytes. Some (record { header = small_response; rulings = [] });
  envelope = λ e. kind_number e.kind ∷ e.id.pharmacy ∷ e.id.number ∷ e.payload;
  read_envelope = λ bytes. Ok (small_envelope bytes);
}

-- a pharmacy, a switch and a payer
abbrev pub small_world : Plan → WorldSettings
small_world plan = record {
  pharmacies = record { qualifier = []; provider = []; nodes = 1 ∷ []; again = 1; tries = 1; cap = 2 } ∷ [];
  switches = 1 ∷ [];
  payers = record { book = record { serial = 1; cap = 2; asks = false; reversals = false; carries = false }; plan = plan } ∷ [];
}

-- no route yet: submitted, taken by the switch, its rejection heard, and told
abbrev pub told_story : List Event
told_story = Submission 1 [] ∷ Delivery 1 ∷ Delivery 2 ∷ []

-- the hearing is lost, and there is a route: taken by the switch, by the payer, by the switch, and heard
abbrev pub other_story : List Event
other_story = Submission 1 [] ∷ Delivery 1 ∷ Delivery 2 ∷ Delivery 3 ∷ Delivery 4 ∷ []

abbrev pub first_id : TxnId
first_id = record { pharmacy = 1; number = 1 }

-- one number, two answers: what the pharmacy held when it told it is not what it holds at last; and its log at last begins as the first log without the last hearing
pub record TwoAnswers (plan : Plan) : Type 0 where
  pub told : held (small None) (run (small None) (opening (small_world plan)) told_story) (Pharmacy 1) first_id ≡ Some (82 ∷ [])
  pub other : held (small (Some 1)) (run (small (Some 1)) (opening (small_world plan)) other_story) (Pharmacy 1) first_id ≡ Some (65 ∷ [])
  pub kept : Logged
  pub lost : Logged
  pub heard : Logged
  pub first_log : log_in (small None) (opening (small_world plan)) told_story (Pharmacy 1) ≡ kept ∷ lost ∷ []
  pub other_log : log_in (small (Some 1)) (opening (small_world plan)) other_story (Pharmacy 1) ≡ kept ∷ heard ∷ []

-- a claim in a network whose switches have no disk: the submission is synced, and the ruling; nothing else is
abbrev pub two_syncs : List Move
two_syncs =
    Restarting (Pharmacy 1) ∷ Restarting (Switch 1) ∷ Restarting (Payer 1)
    ∷ Calling (Submission 1 []) ∷ Syncing (Pharmacy 1) ∷ Saying (Pharmacy 1) 1
    ∷ Calling (Delivery 1) ∷ Saying (Switch 1) 1
    ∷ Calling (Delivery 2) ∷ Syncing (Payer 1) ∷ Saying (Payer 1) 1
    ∷ Calling (Delivery 3) ∷ Saying (Switch 1) 2
    ∷ Calling (Delivery 4) ∷ []

abbrev pub count_syncs : List Move → ℕ
count_syncs [] = 0
count_syncs (Calling event ∷ moves) = count_syncs moves
count_syncs (Syncing node ∷ moves) = 1 + count_syncs moves
count_syncs (Saying node packet ∷ moves) = count_syncs moves
count_syncs (Crashing node left ∷ moves) = count_syncs moves
count_syncs (Restarting node ∷ moves) = count_syncs moves

-- after them the pharmacy has the payer's answer, and may tell it
pub record ToldAfterTwo (plan : Plan) : Type 0 where
  pub told : IsTold (light (small (Some 1)) (small_world plan) two_syncs) first_id (65 ∷ [])
  pub syncs : count_syncs two_syncs ≡ 2
