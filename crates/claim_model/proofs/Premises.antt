-- What goes wrong without the premises: each of these worlds breaks a promise, and none of them is reached.
use Rattle.std.proofs.Common.{◌≡◌, ℕ, false, List, [], ◌∷◌, ◌++◌, map, Option, Some, None, refl}
use Rattle.std.specs.Prelude.{option_map}
use Rattle.claim_profile.specs.Transaction.{transaction_code}
use Rattle.claim_model.specs.Words.{TxnId, Auth}
use Rattle.claim_model.specs.Context.{Context}
use Rattle.claim_model.specs.Readable.{readable}
use Rattle.claim_model.specs.Refusal.{NoSuchNode}
use Rattle.claim_model.specs.Payments.{Payment, payment_of}
use Rattle.claim_model.specs.Rows.{Book, ruled_rows}
use Rattle.claim_model.specs.Judgement.{judged, ruling}
use Rattle.claim_model.specs.Book.{answered}
use Rattle.claim_model.specs.Journal.{opening_rule, JournalAtRest, submitted, ticked, due, heard, stopped, started}
use Rattle.claim_model.specs.Counted.{Counted, counted}
use Rattle.claim_model.specs.Table.{requested, responded}
use Rattle.claim_model.specs.Node.{Pharmacy, Switch, Up}
use Rattle.claim_model.specs.World.{World, Submission, Ticking, Delivery, step, run}
use Rattle.claim_model.specs.Settings.{WorldSettings, PayerSettings, NoNode, SameProvider, settings_fault, opening}
use Rattle.claim_model.specs.Held.{journal_at, book_at, held}
use Rattle.claim_model.proofs.Small.{small}
use Rattle.claim_model.proofs.Schedules.{pharmacy, one, refusals_by, c1, v1, auth_1, id, briefs, auths}
use Rattle.claim_model.proofs.Alone.{a1}

abbrev pub a_payer : PayerSettings
a_payer = record { book = record { serial = 1; cap = 1000; asks = false; reversals = false; carries = false }; plan = record { fee = 150; copay = 1000; prices = [] } }

-- who reversed the payment with an authorization
abbrev pub reverser : Auth → Option Book → Option (Option TxnId)
reverser auth None = None
reverser auth (Some b) = option_map (λ (p : Payment). p.reversed_by) (payment_of auth (ruled_rows small b.rows))

-- two pharmacies of one identity: the second one reverses the payment of the first, which goes on counting it and has no reversal open
abbrev pub twins : WorldSettings
twins = record { pharmacies = pharmacy 7 (1 ∷ []) 100 ∷ pharmacy 7 (2 ∷ []) 100 ∷ []; switches = 64 ∷ 64 ∷ []; payers = a_payer ∷ [] }

abbrev pub stolen : World
stolen = run small (opening twins) (Submission 1 c1 ∷ Delivery 1 ∷ Delivery 2 ∷ Delivery 3 ∷ Delivery 4 ∷ Submission 2 v1 ∷ Delivery 5 ∷ Delivery 6 ∷ [])

stolen_counted : auths (journal_at stolen 1) ≡ auth_1 ∷ []
unfolding step answered readable transaction_code ruling judged submitted ticked due requested responded heard stopped started counted held refusals_by pharmacy
stolen_counted = refl

stolen_by : reverser auth_1 (book_at stolen 1) ≡ Some (Some (id 2 1))
unfolding step answered readable transaction_code ruling judged submitted ticked due requested responded heard stopped started counted held refusals_by pharmacy
stolen_by = refl

twins_refused : settings_fault twins ≡ Some SameProvider
unfolding pharmacy
twins_refused = refl

-- a packet that no node sent: the pharmacy counts a payment of which the book has nothing
abbrev pub with_forged : World → World
with_forged w = record { pharmacies = w.pharmacies; switches = w.switches; payers = w.payers; packets = w.packets ++ record { from = Switch 1; to = Pharmacy 1; bytes = 2 ∷ 1 ∷ 1 ∷ a1 } ∷ [] }

abbrev pub forged : World
forged = run small (with_forged (run small one (Submission 1 c1 ∷ []))) (Delivery 2 ∷ [])

forged_counted : auths (journal_at forged 1) ≡ auth_1 ∷ []
unfolding one step answered readable transaction_code ruling judged submitted ticked due requested responded heard stopped started counted held refusals_by pharmacy
forged_counted = refl

forged_rows : briefs (book_at forged 1) ≡ []
unfolding one step answered readable transaction_code ruling judged submitted ticked due requested responded heard stopped started counted held refusals_by pharmacy
forged_rows = refl

-- two route tables: one switch forwards a request, the other one rejects it, and two nodes hold different answers
abbrev pub without_routes : Context
without_routes = record small { route = λ number key. None }

abbrev pub split : World
split = run without_routes (run small one (Submission 1 c1 ∷ Ticking 1 ∷ Delivery 1 ∷ Delivery 3 ∷ Delivery 4 ∷ [])) (Delivery 2 ∷ Delivery 6 ∷ [])

split_held : map (λ node. held small split node (id 1 1)) (Pharmacy 1 ∷ Switch 1 ∷ []) ≡ Some (7 ∷ 1 ∷ 82 ∷ 4 ∷ 48 ∷ 49 ∷ 0 ∷ []) ∷ Some a1 ∷ []
unfolding one step answered readable transaction_code ruling judged submitted ticked due requested responded heard stopped started counted held refusals_by pharmacy
split_held = refl

-- a journal that is lost at a stop: its number is given again, an old answer settles the new claim, and what is counted has another fill than what was paid
abbrev pub without_journal : World → World
without_journal w = record { pharmacies = Up (record { number = 1; settings = pharmacy 7 (1 ∷ 2 ∷ []) 100; rule = opening_rule (pharmacy 7 (1 ∷ 2 ∷ []) 100); entries = [] }) ∷ []; switches = w.switches; payers = w.payers; packets = w.packets }

abbrev pub forgotten : World
forgotten = run small (without_journal (run small one (Submission 1 c1 ∷ Delivery 1 ∷ Delivery 2 ∷ Delivery 3 ∷ []))) (Submission 1 (1 ∷ 7 ∷ 4 ∷ 11 ∷ []) ∷ Delivery 4 ∷ [])

abbrev pub counted_fills : Option JournalAtRest → List ℕ
counted_fills None = []
counted_fills (Some j) = map (λ (c : Counted). c.fill.fill) (counted small j)

abbrev pub paid_fill : Auth → Option Book → Option ℕ
paid_fill auth None = None
paid_fill auth (Some b) = option_map (λ (p : Payment). p.claim.fill.fill) (payment_of auth (ruled_rows small b.rows))

forgotten_counted : auths (journal_at forgotten 1) ≡ auth_1 ∷ []
unfolding one step answered readable transaction_code ruling judged submitted ticked due requested responded heard stopped started counted held refusals_by pharmacy
forgotten_counted = refl

forgotten_fill : counted_fills (journal_at forgotten 1) ≡ 1 ∷ []
unfolding one step answered readable transaction_code ruling judged submitted ticked due requested responded heard stopped started counted held refusals_by pharmacy
forgotten_fill = refl

forgotten_paid : paid_fill auth_1 (book_at forgotten 1) ≡ Some 0
unfolding one step answered readable transaction_code ruling judged submitted ticked due requested responded heard stopped started counted held refusals_by pharmacy
forgotten_paid = refl

-- a list that names a switch which is not there: its packets have nowhere to go
abbrev pub lost_list : WorldSettings
lost_list = record { pharmacies = pharmacy 7 (3 ∷ []) 100 ∷ []; switches = 64 ∷ 64 ∷ []; payers = a_payer ∷ [] }

lost_list_delivery : refusals_by small (opening lost_list) (Submission 1 c1 ∷ Delivery 1 ∷ []) ≡ None ∷ Some NoSuchNode ∷ []
unfolding step answered readable transaction_code ruling judged submitted ticked due requested responded heard stopped started counted held refusals_by pharmacy
lost_list_delivery = refl

lost_list_refused : settings_fault lost_list ≡ Some NoNode
unfolding pharmacy
lost_list_refused = refl

-- a route to a payer that is not there
abbrev pub lost_route : Context
lost_route = record small { route = λ number key. Some 2 }

lost_route_delivery : refusals_by lost_route one (Submission 1 c1 ∷ Delivery 1 ∷ Delivery 2 ∷ []) ≡ None ∷ None ∷ Some NoSuchNode ∷ []
unfolding one step answered readable transaction_code ruling judged submitted ticked due requested responded heard stopped started counted held refusals_by pharmacy
lost_route_delivery = refl
