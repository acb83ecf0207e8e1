-- A pharmacy's journal: submit, tick, hear, another rule of retries, stop and start.
use Rattle.std.specs.Prelude.{ℕ, zero, suc, ◌+◌, ◌-◌, ◌*◌, ◌/◌, ◌%◌, Bool, true, false, cond, not, ◌&&◌, ◌==◌, nat_lt, nat_le, List, [], ◌∷◌, ◌++◌, map, length, Option, Some, None, Result, Ok, Err, slice_index, bytes_eq}
use Rattle.std.specs.List.{list_all}
use Rattle.claim_model.specs.Numbered.{numbered, renumbered}
use Rattle.claim_model.specs.Words.{RequestHeader, Envelope}
use Rattle.claim_model.specs.Context.{Context}
use Rattle.claim_model.specs.Readable.{has_version, has_code, longest, settles, request_envelope, is_request}
use Rattle.claim_model.specs.Refusal.{Refusal, Unreadable, Version, CodeNotCarried, NotOwnProvider, TooLong, JournalFull, NotMine, NoSuchNumber, AlreadySettled, Differs}

-- a pharmacy's identity, the switches that it tries in turn, after how many ticks it sends again, how often before it goes on to the next switch, and how many entries the journal may have
pub record PharmacySettings : Type 0 where
  pub qualifier : List ℕ
  pub provider : List ℕ
  pub nodes : List ℕ
  pub again : ℕ
  pub tries : ℕ
  pub cap : ℕ

-- the rule of retries that a pharmacy goes by: the switches that it tries in turn, after how many ticks it sends again, and how often before it goes on
-- to the next switch
pub record RetryRule : Type 0 where
  pub nodes : List ℕ
  pub again : ℕ
  pub tries : ℕ

-- the rule with which settings open a pharmacy
abbrev pub opening_rule : PharmacySettings → RetryRule
opening_rule s = record { nodes = s.nodes; again = s.again; tries = s.tries }

-- an open entry has one phase on the circle of retries; a settled one has its answer for good
pub data State : Type 0 where
  Waits : (phase : ℕ) → State
  Has : (answer : List ℕ) → State

-- an entry while the pharmacy is up
pub record Entry : Type 0 where
  pub request : List ℕ
  pub state : State

-- the journal of a pharmacy that is up: what it was opened with, the rule that it goes by, and its entries, numbered from 1
pub record Journal : Type 0 where
  pub number : ℕ
  pub settings : PharmacySettings
  pub rule : RetryRule
  pub entries : List Entry

-- an entry at rest: its request, and its answer if there is one
pub record Kept : Type 0 where
  pub request : List ℕ
  pub answer : Option (List ℕ)

-- the journal of a stopped pharmacy
pub record JournalAtRest : Type 0 where
  pub number : ℕ
  pub settings : PharmacySettings
  pub rule : RetryRule
  pub entries : List Kept

-- a packet for a switch
pub record Sending : Type 0 where
  pub switch : ℕ
  pub bytes : List ℕ

-- how many phases there are: again x tries x nodes
abbrev pub circle : RetryRule → ℕ
circle r = r.again * r.tries * length r.nodes

-- the switch to which an entry of this phase is sent
abbrev pub switch_at : RetryRule → ℕ → ℕ
switch_at r phase = slice_index r.nodes (phase / (r.again * r.tries))

abbrev pub sending : Context → Journal → ℕ → ℕ → List ℕ → Sending
sending ctx j number phase request =
    record { switch = switch_at j.rule phase; bytes = ctx.envelope (request_envelope (record { pharmacy = j.number; number = number }) request) }

-- the first fault whose condition holds
abbrev pub first_fault : List (Bool × Refusal) → Option Refusal
first_fault [] = None
first_fault (f ∷ more) = cond f.0 (Some f.1) (first_fault more)

abbrev pub is_own : PharmacySettings → RequestHeader → Bool
is_own s h = bytes_eq h.qualifier s.qualifier && bytes_eq h.provider s.provider

-- why a text is not submitted
abbrev pub submit_fault : Journal → List ℕ → Option RequestHeader → Option Refusal
submit_fault j text None = Some Unreadable
submit_fault j text (Some h) =
    first_fault (
    (not (has_version h), Version)
    ∷ (not (has_code h), CodeNotCarried)
    ∷ (not (is_own j.settings h), NotOwnProvider)
    ∷ (not (nat_le (length text) longest), TooLong)
    ∷ (not (nat_lt (length j.entries) j.settings.cap), JournalFull)
    ∷ [])

-- the journal after a submission, the new entry's number, and what is sent
pub record Submitted : Type 0 where
  pub journal : Journal
  pub number : ℕ
  pub sent : Sending

abbrev pub submitted_unless : Context → Journal → List ℕ → Option Refusal → Result Submitted Refusal
submitted_unless ctx j text (Some fault) = Err fault
submitted_unless ctx j text None =
    let number = length j.entries + 1 in
    Ok (record {
      journal = record { number = j.number; settings = j.settings; rule = j.rule; entries = j.entries ++ record { request = text; state = Waits 0 } ∷ [] };
      number = number;
      sent = sending ctx j number 0 text;
    })

-- a submission gets the next number, and is sent to the first switch at once
unfoldable pub submitted : Context → Journal → List ℕ → Result Submitted Refusal
submitted ctx j text = submitted_unless ctx j text (submit_fault j text (ctx.header text))

abbrev pub ticked_state : ℕ → State → State
ticked_state phases (Waits phase) = Waits ((phase + 1) % phases)
ticked_state phases (Has answer) = Has answer

-- a tick moves each open entry on by one phase
unfoldable pub ticked : Journal → Journal
ticked j = record { number = j.number; settings = j.settings; rule = j.rule; entries = map (λ e. record { request = e.request; state = ticked_state (circle j.rule) e.state }) j.entries }

abbrev pub due_by : Context → Journal → ℕ → List ℕ → State → List Sending
due_by ctx j number request (Waits phase) = cond ((phase % j.rule.again) == 0) (sending ctx j number phase request ∷ []) []
due_by ctx j number request (Has answer) = []

abbrev pub due_from : Context → Journal → ℕ → List Entry → List Sending
due_from ctx j number [] = []
due_from ctx j number (e ∷ more) = due_by ctx j number e.request e.state ++ due_from ctx j (number + 1) more

-- what a tick sends, of the journal after it: the open entries whose phase is a multiple of again, in order of numbers
unfoldable pub due : Context → Journal → List Sending
due ctx j = due_from ctx j 1 j.entries

abbrev pub settle_by : List ℕ → State → Result State Refusal
settle_by answer (Waits phase) = Ok (Has answer)
settle_by answer (Has held) = cond (bytes_eq held answer) (Err AlreadySettled) (Err Differs)

abbrev pub settle_with : Journal → ℕ → Entry → Result State Refusal → Result Journal Refusal
settle_with j number e (Err fault) = Err fault
settle_with j number e (Ok state) =
    Ok (record { number = j.number; settings = j.settings; rule = j.rule; entries = renumbered j.entries number (record { request = e.request; state = state }) })

abbrev pub heard_at : Context → Journal → Envelope → Option Entry → Result Journal Refusal
heard_at ctx j e None = Err NoSuchNumber
heard_at ctx j e (Some entry) =
    cond (not (is_request e) && settles ctx entry.request e.payload) (settle_with j e.id.number entry (settle_by e.payload entry.state)) (Err Unreadable)

-- an answer settles an open entry for good: NotMine, NoSuchNumber, Unreadable, AlreadySettled where it is the answer held, Differs
unfoldable pub heard : Context → Journal → Envelope → Result Journal Refusal
heard ctx j e = cond (e.id.pharmacy == j.number) (heard_at ctx j e (numbered j.entries e.id.number)) (Err NotMine)

abbrev pub answer_in : State → Option (List ℕ)
answer_in (Waits phase) = None
answer_in (Has answer) = Some answer

abbrev pub kept_entry : Entry → Kept
kept_entry e = record { request = e.request; answer = answer_in e.state }

-- a stop keeps every entry, and no phase
unfoldable pub stopped : Journal → JournalAtRest
stopped j = record { number = j.number; settings = j.settings; rule = j.rule; entries = map kept_entry j.entries }

abbrev pub started_state : ℕ → Option (List ℕ) → State
started_state phase None = Waits phase
started_state phase (Some answer) = Has answer

-- after a start each open entry is one round of waiting before the circle's beginning
unfoldable pub started : JournalAtRest → Journal
started j = record { number = j.number; settings = j.settings; rule = j.rule; entries = map (λ k. record { request = k.request; state = started_state (circle j.rule - j.rule.again) k.answer }) j.entries }

-- ---- another rule of retries

abbrev pub is_empty : {A : Type 0} → List A → Bool
is_empty [] = true
is_empty (x ∷ xs) = false

-- a switch of this number is there
abbrev pub is_switch : ℕ → ℕ → Bool
is_switch switches zero = false
is_switch switches (suc k) = nat_lt k switches

-- there is a switch to send to, and all of them are there
abbrev pub have_switches : ℕ → List ℕ → Bool
have_switches switches nodes = not (is_empty nodes) && list_all (is_switch switches) nodes

-- the most ticks of a wait, the most tries at one switch, and the most switches of a rule
abbrev pub most_rounds : ℕ
most_rounds = 1000

abbrev pub most_nodes : ℕ
most_nodes = 4096

-- a number is 1 to the most rounds
abbrev pub is_rounds : ℕ → Bool
is_rounds n = nat_lt 0 n && nat_le n most_rounds

-- a rule that a pharmacy takes, where there are so many switches
abbrev pub is_rule : ℕ → RetryRule → Bool
is_rule switches r = is_rounds r.again && (is_rounds r.tries && (have_switches switches r.nodes && nat_le (length r.nodes) most_nodes))

-- a journal at rest, with another rule
abbrev pub with_rule : RetryRule → JournalAtRest → JournalAtRest
with_rule r j = record { number = j.number; settings = j.settings; rule = r; entries = j.entries }

-- a pharmacy that goes by another rule: each open entry waits as after a start
unfoldable pub ruled_anew : RetryRule → Journal → Journal
ruled_anew r j = started (with_rule r (stopped j))
