-- Schedules of events that compute: what the definitions say of whole stories.
use Rattle.std.proofs.Common.{◌≡◌, ℕ, true, false, List, [], ◌∷◌, ◌++◌, map, Option, Some, None, refl}
use Rattle.std.specs.Prelude.{option_map}
use Rattle.claim_profile.specs.Transaction.{transaction_code}
use Rattle.claim_model.specs.Words.{SetPrice, SetTerms, TxnId, Auth, Ruling, Paid, Reversed, Rejected, BadBin, ReversalNotProcessed}
use Rattle.claim_model.specs.Context.{Context}
use Rattle.claim_model.specs.Readable.{readable, rulings_in}
use Rattle.claim_model.specs.Refusal.{Refusal, Down, AlreadyUp, NoSuchNode, NoSuchPacket, NotWaiting, AlreadySettled, JournalFull, BadRule, NotAdvised, NotAsked}
use Rattle.claim_model.specs.Rows.{Row, Book}
use Rattle.claim_model.specs.Judgement.{judged, ruling}
use Rattle.claim_model.specs.Book.{answered}
use Rattle.claim_model.specs.Journal.{PharmacySettings, RetryRule, Kept, JournalAtRest, Journal, Sending, Waits, submitted, ticked, due, heard, stopped, started, ruled_anew}
use Rattle.claim_model.specs.Counted.{Counted, counted}
use Rattle.claim_model.specs.Table.{requested, responded}
use Rattle.claim_model.specs.Node.{Pharmacy, Switch, Payer, OfPlan, OfRule, OfCap, Up, Outcome, Done, Refused}
use Rattle.claim_model.specs.World.{World, Event, Submission, Ticking, Delivery, Stopping, Starting, Revising, Adjudication, step, run, world_after}
use Rattle.claim_model.specs.Settings.{opening}
use Rattle.claim_model.specs.Held.{journal_at, book_at, held}
use Rattle.claim_model.proofs.Small.{small, all_amounts}

unfoldable pub pharmacy : ℕ → List ℕ → ℕ → PharmacySettings
pharmacy provider nodes cap = record { qualifier = []; provider = provider ∷ []; nodes = nodes; again = 1; tries = 1; cap = cap }

-- a pharmacy, two switches and a payer
unfoldable pub one : World
unfolding pharmacy
one = opening (record { pharmacies = pharmacy 7 (1 ∷ 2 ∷ []) 100 ∷ []; switches = 64 ∷ 64 ∷ []; payers = record { book = record { serial = 1; cap = 1000; asks = false; reversals = false; carries = false }; plan = record { fee = 150; copay = 1000; prices = [] } } ∷ [] })

-- what became of each event: none where it was accepted
abbrev pub refusal_in : Outcome World → Option Refusal
refusal_in (Done next sent) = None
refusal_in (Refused why) = Some why

unfoldable pub refusals_by : Context → World → List Event → List (Option Refusal)
refusals_by ctx w [] = []
refusals_by ctx w (e ∷ es) = refusal_in (step ctx w e) ∷ refusals_by ctx (world_after w (step ctx w e)) es

abbrev pub refusals : World → List Event → List (Option Refusal)
refusals w es = refusals_by small w es

-- the billing of fill 0, its reversal, and the same billing for a BIN without a route
abbrev pub c1 : List ℕ
c1 = 1 ∷ 7 ∷ 4 ∷ 10 ∷ []

abbrev pub v1 : List ℕ
v1 = 2 ∷ 7 ∷ 4 ∷ 0 ∷ []

abbrev pub cn : List ℕ
cn = 1 ∷ 7 ∷ 9 ∷ 10 ∷ []

-- four claims in one request: the third repeats the first, within the request
abbrev pub c17 : List ℕ
c17 = 1 ∷ 7 ∷ 4 ∷ 10 ∷ 11 ∷ 10 ∷ 12 ∷ []

abbrev pub auth_1 : Auth
auth_1 = record { payer = 1; serial = 1 }

abbrev pub auth_2 : Auth
auth_2 = record { payer = 1; serial = 2 }

-- a row without its request
abbrev pub brief : Row → TxnId × List Ruling
brief r = (r.id, r.rulings)

abbrev pub briefs : Option Book → List (TxnId × List Ruling)
briefs None = []
briefs (Some b) = map brief b.rows

abbrev pub rows_after : List Event → List (TxnId × List Ruling)
rows_after es = briefs (book_at (run small one es) 1)

-- a reversal that overtakes its billing is rejected, and the billing is then paid
overtaking : List Event
overtaking = Submission 1 c1 ∷ Submission 1 v1 ∷ Delivery 2 ∷ Delivery 3 ∷ Delivery 1 ∷ Delivery 5 ∷ []

overtaken : rows_after overtaking ≡ (record { pharmacy = 1; number = 2 }, Rejected (ReversalNotProcessed ∷ []) ∷ []) ∷ (record { pharmacy = 1; number = 1 }, Paid auth_1 123456 all_amounts ∷ []) ∷ []
unfolding overtaking one step answered readable transaction_code ruling judged submitted ticked due requested responded heard stopped started counted held refusals_by pharmacy
overtaken = refl

abbrev pub id : ℕ → ℕ → TxnId
id pharmacy number = record { pharmacy = pharmacy; number = number }

-- an answer's bytes, as an advice
abbrev pub an_answer : List ℕ
an_answer = 7 ∷ 1 ∷ 65 ∷ 1 ∷ 1 ∷ 1 ∷ 123456 ∷ []

-- an advice for a payer that does not ask, and a world in which the payer asks
advice_unasked : refusals one (Submission 1 c1 ∷ Delivery 1 ∷ Adjudication 1 an_answer ∷ Adjudication 2 an_answer ∷ Adjudication 3 an_answer ∷ []) ≡ None ∷ None ∷ Some NoSuchNode ∷ Some NotAsked ∷ Some NoSuchPacket ∷ []
unfolding one step answered readable transaction_code ruling judged submitted ticked due requested responded heard stopped started counted held refusals_by pharmacy
advice_unasked = refl

abbrev pub asked_world : World
asked_world = opening (record { pharmacies = pharmacy 7 (1 ∷ 2 ∷ []) 100 ∷ []; switches = 64 ∷ 64 ∷ []; payers = record { book = record { serial = 1; cap = 1000; asks = true; reversals = false; carries = false }; plan = record { fee = 150; copay = 1000; prices = [] } } ∷ [] })

advice_asked : refusals asked_world (Submission 1 c1 ∷ Delivery 1 ∷ Delivery 2 ∷ Adjudication 2 (5 ∷ []) ∷ Adjudication 2 an_answer ∷ Delivery 2 ∷ Adjudication 2 an_answer ∷ Delivery 3 ∷ Delivery 6 ∷ Delivery 6 ∷ [])
    ≡ None ∷ None ∷ Some NotAdvised ∷ Some NotAdvised ∷ None ∷ None ∷ None ∷ None ∷ None ∷ Some AlreadySettled ∷ []
unfolding one step answered readable transaction_code ruling judged submitted ticked due requested responded heard stopped started counted held refusals_by pharmacy
advice_asked = refl

-- a reversal whose answer is never delivered stays open at its pharmacy, which goes on counting the payment beside the new one
abbrev pub lost_answer : List Event
lost_answer =
    Submission 1 c1 ∷ Delivery 1 ∷ Delivery 2 ∷ Delivery 3 ∷ Delivery 4 ∷ Submission 1 v1 ∷ Delivery 5 ∷ Delivery 6 ∷ Submission 1 c1 ∷ Delivery 8 ∷ Delivery 9 ∷ Delivery 10 ∷ Delivery 11 ∷ []

abbrev pub auths : Option JournalAtRest → List Auth
auths None = []
auths (Some j) = map (λ (c : Counted). c.auth) (counted small j)

abbrev pub answers : Option JournalAtRest → List (Option (List Ruling))
answers None = []
answers (Some j) = map (λ (k : Kept). option_map (λ a. rulings_in (small.read_answer a)) k.answer) j.entries

lost_answer_counted : auths (journal_at (run small one lost_answer) 1) ≡ auth_1 ∷ auth_2 ∷ []
unfolding one step answered readable transaction_code ruling judged submitted ticked due requested responded heard stopped started counted held refusals_by pharmacy
lost_answer_counted = refl

lost_answer_entries : answers (journal_at (run small one lost_answer) 1) ≡ Some (Paid auth_1 123456 all_amounts ∷ []) ∷ None ∷ Some (Paid auth_2 123456 all_amounts ∷ []) ∷ []
unfolding one step answered readable transaction_code ruling judged submitted ticked due requested responded heard stopped started counted held refusals_by pharmacy
lost_answer_entries = refl

lost_answer_rows : rows_after lost_answer ≡ (id 1 1, Paid auth_1 123456 all_amounts ∷ []) ∷ (id 1 2, Reversed auth_1 123456 ∷ []) ∷ (id 1 3, Paid auth_2 123456 all_amounts ∷ []) ∷ []
unfolding one step answered readable transaction_code ruling judged submitted ticked due requested responded heard stopped started counted held refusals_by pharmacy
lost_answer_rows = refl

-- once the reversal's answer came, the first payment counts no more
answered_counted : auths (journal_at (run small one (lost_answer ++ Delivery 7 ∷ Delivery 12 ∷ [])) 1) ≡ auth_2 ∷ []
unfolding one step answered readable transaction_code ruling judged submitted ticked due requested responded heard stopped started counted held refusals_by pharmacy
answered_counted = refl

-- a switch that stops loses its table; the retry goes to the next switch, and the payer gives the answer that it kept
abbrev pub failover : List Event
failover = Submission 1 c1 ∷ Delivery 1 ∷ Delivery 2 ∷ Stopping (Switch 1) ∷ Delivery 3 ∷ Starting (Switch 1) ∷ Delivery 3 ∷ Ticking 1 ∷ Delivery 4 ∷ Delivery 5 ∷ Delivery 6 ∷ Delivery 7 ∷ []

failover_refusals : refusals one failover ≡ None ∷ None ∷ None ∷ None ∷ Some Down ∷ None ∷ Some NotWaiting ∷ None ∷ None ∷ None ∷ None ∷ None ∷ []
unfolding one step answered readable transaction_code ruling judged submitted ticked due requested responded heard stopped started counted held refusals_by pharmacy
failover_refusals = refl

failover_rows : rows_after failover ≡ (id 1 1, Paid auth_1 123456 all_amounts ∷ []) ∷ []
unfolding one step answered readable transaction_code ruling judged submitted ticked due requested responded heard stopped started counted held refusals_by pharmacy
failover_rows = refl

failover_entries : answers (journal_at (run small one failover) 1) ≡ Some (Paid auth_1 123456 all_amounts ∷ []) ∷ []
unfolding one step answered readable transaction_code ruling judged submitted ticked due requested responded heard stopped started counted held refusals_by pharmacy
failover_entries = refl

-- without a route both switches answer alike, and make no entry
abbrev pub unrouted : List Event
unrouted = Submission 1 cn ∷ Ticking 1 ∷ Delivery 1 ∷ Delivery 2 ∷ Delivery 3 ∷ Delivery 4 ∷ []

unrouted_refusals : refusals one unrouted ≡ None ∷ None ∷ None ∷ None ∷ None ∷ Some AlreadySettled ∷ []
unfolding one step answered readable transaction_code ruling judged submitted ticked due requested responded heard stopped started counted held refusals_by pharmacy
unrouted_refusals = refl

unrouted_entries : answers (journal_at (run small one unrouted) 1) ≡ Some (Rejected (BadBin ∷ []) ∷ []) ∷ []
unfolding one step answered readable transaction_code ruling judged submitted ticked due requested responded heard stopped started counted held refusals_by pharmacy
unrouted_entries = refl

unrouted_switches : (run small one unrouted).switches ≡ Up (record { cap = 64; entries = [] }) ∷ Up (record { cap = 64; entries = [] }) ∷ []
unfolding one step answered readable transaction_code ruling judged submitted ticked due requested responded heard stopped started counted held refusals_by pharmacy
unrouted_switches = refl

-- numbers go on after a stop and a start, up to the cap
abbrev pub small_journal : World
small_journal = opening (record { pharmacies = pharmacy 7 (1 ∷ 2 ∷ []) 2 ∷ []; switches = 64 ∷ 64 ∷ []; payers = [] })

numbers_go_on : refusals small_journal (Submission 1 c1 ∷ Stopping (Pharmacy 1) ∷ Submission 1 c1 ∷ Starting (Pharmacy 1) ∷ Submission 1 c1 ∷ Submission 1 c1 ∷ []) ≡ None ∷ None ∷ Some Down ∷ None ∷ None ∷ Some JournalFull ∷ []
unfolding one step answered readable transaction_code ruling judged submitted ticked due requested responded heard stopped started counted held refusals_by pharmacy
numbers_go_on = refl

-- refusals that the world itself gives
world_refusals : refusals one (Delivery 99 ∷ Stopping (Switch 2) ∷ Stopping (Switch 2) ∷ Starting (Pharmacy 1) ∷ Ticking 9 ∷ Delivery 0 ∷ Revising (Payer 2) (OfPlan (SetPrice [] None)) ∷ Stopping (Payer 1) ∷ Revising (Payer 1) (OfPlan (SetTerms 0 0)) ∷ [])
    ≡ Some NoSuchPacket ∷ None ∷ Some Down ∷ Some AlreadyUp ∷ Some NoSuchNode ∷ Some NoSuchPacket ∷ Some NoSuchNode ∷ None ∷ Some Down ∷ []
unfolding one step answered readable transaction_code ruling judged submitted ticked due requested responded heard stopped started counted held refusals_by pharmacy
world_refusals = refl

-- a repeat does not make an entry young: the oldest leaves a full table
abbrev pub narrow : World
narrow = opening (record { pharmacies = pharmacy 7 (1 ∷ []) 100 ∷ []; switches = 2 ∷ []; payers = record { book = record { serial = 1; cap = 1000; asks = false; reversals = false; carries = false }; plan = record { fee = 150; copay = 1000; prices = [] } } ∷ [] })

oldest_leaves : refusals narrow (Submission 1 c1 ∷ Submission 1 (1 ∷ 7 ∷ 4 ∷ 11 ∷ []) ∷ Submission 1 (1 ∷ 7 ∷ 4 ∷ 12 ∷ []) ∷ Delivery 1 ∷ Delivery 2 ∷ Delivery 1 ∷ Delivery 3 ∷ Delivery 4 ∷ Delivery 8 ∷ Delivery 5 ∷ Delivery 9 ∷ [])
    ≡ None ∷ None ∷ None ∷ None ∷ None ∷ None ∷ None ∷ None ∷ Some NotWaiting ∷ None ∷ None ∷ []
unfolding one step answered readable transaction_code ruling judged submitted ticked due requested responded heard stopped started counted held refusals_by pharmacy
oldest_leaves = refl

-- the retry rule: again 2, tries 2, two switches; of eight ticks the second goes to switch 1, the fourth and the sixth to switch 2, the eighth to switch 1
abbrev pub patient : Journal
patient = record { number = 1; settings = record { qualifier = []; provider = 7 ∷ []; nodes = 1 ∷ 2 ∷ []; again = 2; tries = 2; cap = 9 }; rule = record { nodes = 1 ∷ 2 ∷ []; again = 2; tries = 2 }; entries = record { request = c1; state = Waits 0 } ∷ [] }

unfoldable pub ticks : Journal → List ℕ → List (List ℕ)
ticks j [] = []
ticks j (_ ∷ more) = map (λ (s : Sending). s.switch) (due small (ticked j)) ∷ ticks (ticked j) more

retries : ticks patient (0 ∷ 0 ∷ 0 ∷ 0 ∷ 0 ∷ 0 ∷ 0 ∷ 0 ∷ []) ≡ [] ∷ (1 ∷ []) ∷ [] ∷ (2 ∷ []) ∷ [] ∷ (2 ∷ []) ∷ [] ∷ (1 ∷ []) ∷ []
unfolding ticks one step answered readable transaction_code ruling judged submitted ticked due requested responded heard stopped started counted held refusals_by pharmacy
retries = refl

retries_after_start : ticks (started (stopped patient)) (0 ∷ 0 ∷ 0 ∷ 0 ∷ 0 ∷ 0 ∷ []) ≡ [] ∷ (1 ∷ []) ∷ [] ∷ (1 ∷ []) ∷ [] ∷ (2 ∷ []) ∷ []
unfolding ticks one step answered readable transaction_code ruling judged submitted ticked due requested responded heard stopped started counted held refusals_by pharmacy
retries_after_start = refl

-- the same entry under another rule, which is taken at once: to switch 2 alone, at each tick; and after a stop and a start
abbrev pub hasty : RetryRule
hasty = record { nodes = 2 ∷ []; again = 1; tries = 2 }

retries_under_another_rule : ticks (ruled_anew hasty patient) (0 ∷ 0 ∷ 0 ∷ []) ≡ (2 ∷ []) ∷ (2 ∷ []) ∷ (2 ∷ []) ∷ []
unfolding ticks one step answered readable transaction_code ruling judged submitted ticked due requested responded heard stopped started ruled_anew counted held refusals_by pharmacy
retries_under_another_rule = refl

rule_outlives_a_stop : ticks (started (stopped (ruled_anew hasty patient))) (0 ∷ 0 ∷ []) ≡ (2 ∷ []) ∷ (2 ∷ []) ∷ []
unfolding ticks one step answered readable transaction_code ruling judged submitted ticked due requested responded heard stopped started ruled_anew counted held refusals_by pharmacy
rule_outlives_a_stop = refl

-- which rules are refused, and where: a switch that is not there, none, a wait of nothing, too many tries; a node of another kind, a pharmacy that is down
rules_refused : refusals one (
    Revising (Pharmacy 1) (OfRule hasty) ∷ Revising (Pharmacy 1) (OfRule (record { nodes = 1 ∷ 3 ∷ []; again = 1; tries = 1 })) ∷ Revising (Pharmacy 1) (OfRule (record { nodes = 0 ∷ []; again = 1; tries = 1 }))
    ∷ Revising (Pharmacy 1) (OfRule (record { nodes = []; again = 1; tries = 1 })) ∷ Revising (Pharmacy 1) (OfRule (record { nodes = 1 ∷ []; again = 0; tries = 1 })) ∷ Revising (Pharmacy 1) (OfRule (record { nodes = 1 ∷ []; again = 1; tries = 1001 }))
    ∷ Revising (Switch 1) (OfRule hasty) ∷ Revising (Payer 1) (OfRule hasty) ∷ Revising (Pharmacy 1) (OfPlan (SetTerms 0 0)) ∷ Revising (Pharmacy 2) (OfRule hasty) ∷ Stopping (Pharmacy 1) ∷ Revising (Pharmacy 1) (OfRule hasty) ∷ [])
    ≡ None ∷ Some BadRule ∷ Some BadRule ∷ Some BadRule ∷ Some BadRule ∷ Some BadRule ∷ Some NoSuchNode ∷ Some NoSuchNode ∷ Some NoSuchNode ∷ Some NoSuchNode ∷ None ∷ Some Down ∷ []
unfolding one step answered readable transaction_code ruling judged submitted ticked due requested responded heard stopped started ruled_anew counted held refusals_by pharmacy
rules_refused = refl

-- a reversal by another pharmacy reverses nothing
abbrev pub two : World
two = opening (record { pharmacies = pharmacy 7 (1 ∷ 2 ∷ []) 100 ∷ pharmacy 8 (2 ∷ 1 ∷ []) 100 ∷ []; switches = 64 ∷ 64 ∷ []; payers = record { book = record { serial = 1; cap = 1000; asks = false; reversals = false; carries = false }; plan = record { fee = 150; copay = 1000; prices = [] } } ∷ [] })

abbrev pub others : List Event
others = Submission 1 c1 ∷ Delivery 1 ∷ Delivery 2 ∷ Delivery 3 ∷ Delivery 4 ∷ Submission 2 (2 ∷ 8 ∷ 4 ∷ 0 ∷ []) ∷ Delivery 5 ∷ Delivery 6 ∷ Delivery 7 ∷ Delivery 8 ∷ []

others_rows : briefs (book_at (run small two others) 1) ≡ (id 1 1, Paid auth_1 123456 all_amounts ∷ []) ∷ (id 2 1, Rejected (ReversalNotProcessed ∷ []) ∷ []) ∷ []
unfolding one step answered readable transaction_code ruling judged submitted ticked due requested responded heard stopped started counted held refusals_by pharmacy
others_rows = refl

-- the pharmacy, the switch and the payer hold the same answer
others_held : map (λ node. held small (run small two others) node (id 1 1)) (Pharmacy 1 ∷ Switch 1 ∷ Payer 1 ∷ []) ≡ Some (7 ∷ 1 ∷ 65 ∷ 1 ∷ 1 ∷ 1 ∷ 123456 ∷ []) ∷ Some (7 ∷ 1 ∷ 65 ∷ 1 ∷ 1 ∷ 1 ∷ 123456 ∷ []) ∷ Some (7 ∷ 1 ∷ 65 ∷ 1 ∷ 1 ∷ 1 ∷ 123456 ∷ []) ∷ []
unfolding one step answered readable transaction_code ruling judged submitted ticked due requested responded heard stopped started counted held refusals_by pharmacy
others_held = refl

-- four claims through the world: three are counted
four_counted : auths (journal_at (run small one (Submission 1 c17 ∷ Delivery 1 ∷ Delivery 2 ∷ Delivery 3 ∷ Delivery 4 ∷ [])) 1) ≡ auth_1 ∷ auth_2 ∷ record { payer = 1; serial = 3 } ∷ []
unfolding one step answered readable transaction_code ruling judged submitted ticked due requested responded heard stopped started counted held refusals_by pharmacy
four_counted = refl

-- another cap: a switch that is up has none, nor has a node of another kind; at rest it has, and starts with it
caps_refused : refusals narrow (
    Revising (Switch 1) (OfCap 1) ∷ Revising (Pharmacy 1) (OfCap 1) ∷ Revising (Payer 1) (OfCap 1) ∷ Revising (Switch 2) (OfCap 1) ∷ Stopping (Pharmacy 1) ∷ Stopping (Switch 1) ∷ Stopping (Payer 1)
    ∷ Revising (Pharmacy 1) (OfCap 1) ∷ Revising (Payer 1) (OfCap 1) ∷ Revising (Switch 1) (OfRule hasty) ∷ Revising (Switch 1) (OfPlan (SetTerms 0 0)) ∷ Revising (Switch 1) (OfCap 1) ∷ [])
    ≡ Some AlreadyUp ∷ Some NoSuchNode ∷ Some NoSuchNode ∷ Some NoSuchNode ∷ None ∷ None ∷ None ∷ Some NoSuchNode ∷ Some NoSuchNode ∷ Some NoSuchNode ∷ Some NoSuchNode ∷ None ∷ []
unfolding one step answered readable transaction_code ruling judged submitted ticked due requested responded heard stopped started counted held refusals_by pharmacy
caps_refused = refl

-- a table of one: the second request drives out the first, whose answer is refused then
caps_count_from_a_start : refusals narrow (
    Stopping (Switch 1) ∷ Revising (Switch 1) (OfCap 1) ∷ Starting (Switch 1) ∷ Submission 1 c1 ∷ Submission 1 (1 ∷ 7 ∷ 4 ∷ 11 ∷ []) ∷ Delivery 1 ∷ Delivery 2 ∷ Delivery 3 ∷ Delivery 4 ∷ Delivery 5 ∷ Delivery 6 ∷ [])
    ≡ None ∷ None ∷ None ∷ None ∷ None ∷ None ∷ None ∷ None ∷ None ∷ Some NotWaiting ∷ None ∷ []
unfolding one step answered readable transaction_code ruling judged submitted ticked due requested responded heard stopped started counted held refusals_by pharmacy
caps_count_from_a_start = refl
