-- A payer's book, a switch and a pharmacy alone: what the definitions say of calls in turn.
use Rattle.std.proofs.Common.{Bool, ◌≡◌, ℕ, ◌+◌, true, false, List, [], ◌∷◌, map, Option, Some, None, Result, Ok, Err, refl}
use Rattle.claim_profile.specs.Transaction.{transaction_code}
use Rattle.claim_model.specs.Words.{Advice, Envelope, Ruling, Paid, Duplicate, Reversed, Rejected, BadBin, DuplicateClaim, ReversalNotProcessed}
use Rattle.claim_model.specs.Readable.{readable, rulings_in, request_envelope, answer_envelope}
use Rattle.claim_model.specs.Refusal.{Refusal, NotWaiting, AlreadySettled, SerialsUsedUp, BookFull, NumberReused, NotOurs, Unreadable, NotMine, NoSuchNumber, Differs, NotAdvised}
use Rattle.claim_model.specs.Rows.{Book}
use Rattle.claim_model.specs.Judgement.{judged, ruling}
use Rattle.claim_model.specs.Book.{Answered, answered, unadvised}
use Rattle.claim_model.specs.Journal.{Journal, Waits, Has, submitted, ticked, due, heard, stopped, started}
use Rattle.claim_model.specs.Counted.{counted}
use Rattle.claim_model.specs.Table.{Table, Routed, Forward, Back, Requested, requested, Responded, responded}
use Rattle.claim_model.specs.World.{step}
use Rattle.claim_model.specs.Held.{held}
use Rattle.claim_model.proofs.Small.{small, all_amounts}
use Rattle.claim_model.proofs.Schedules.{pharmacy, one, refusals_by, c1, v1, cn, auth_1, auth_2, id, c17}

-- requests that go straight to an empty book of payer 1
abbrev pub book : ℕ → ℕ → Book
book serial cap = record { payer = 1; settings = record { serial = serial; cap = cap; asks = false; reversals = false; carries = false }; plan = record { fee = 150; copay = 1000; prices = [] }; rows = [] }

abbrev pub book_next : Book → Result Answered Refusal → Book
book_next b (Ok a) = a.book
book_next b (Err why) = b

abbrev pub told_by : Result Answered Refusal → Result (List Ruling) Refusal
told_by (Ok a) = Ok (rulings_in (small.read_answer a.bytes))
told_by (Err why) = Err why

-- what a book answers to requests, by pharmacy 1, one number after another
unfoldable pub replies : Book → ℕ → List (List ℕ) → List (Result (List Ruling) Refusal)
replies b n [] = []
replies b n (r ∷ rs) = told_by (answered small b unadvised (id 1 n) r) ∷ replies (book_next b (answered small b unadvised (id 1 n) r)) (n + 1) rs

-- the same claim again is a duplicate, another one for its fill is rejected, another fill is paid; a reversal of several fills without a
-- fill number is rejected, one with it is done, and done once
duplicates : replies (book 1 100) 1 (c1 ∷ c1 ∷ (1 ∷ 7 ∷ 4 ∷ 20 ∷ []) ∷ (1 ∷ 7 ∷ 4 ∷ 11 ∷ []) ∷ (2 ∷ 7 ∷ 4 ∷ 99 ∷ []) ∷ v1 ∷ v1 ∷ [])
    ≡ Ok (Paid auth_1 123456 all_amounts ∷ []) ∷ Ok (Duplicate auth_1 123456 all_amounts ∷ []) ∷ Ok (Rejected (DuplicateClaim ∷ []) ∷ [])
    ∷ Ok (Paid auth_2 123456 all_amounts ∷ []) ∷ Ok (Rejected (ReversalNotProcessed ∷ []) ∷ []) ∷ Ok (Reversed auth_1 123456 ∷ []) ∷ Ok (Rejected (ReversalNotProcessed ∷ []) ∷ []) ∷ []
unfolding replies one step answered readable transaction_code ruling judged submitted ticked due requested responded heard stopped started counted held refusals_by pharmacy
duplicates = refl

-- a reversal before any payment is rejected; after a reversal the fill is paid again, with the next serial
paid_again : replies (book 1 100) 1 (v1 ∷ c1 ∷ v1 ∷ v1 ∷ c1 ∷ [])
    ≡ Ok (Rejected (ReversalNotProcessed ∷ []) ∷ []) ∷ Ok (Paid auth_1 123456 all_amounts ∷ []) ∷ Ok (Reversed auth_1 123456 ∷ []) ∷ Ok (Rejected (ReversalNotProcessed ∷ []) ∷ []) ∷ Ok (Paid auth_2 123456 all_amounts ∷ []) ∷ []
unfolding replies one step answered readable transaction_code ruling judged submitted ticked due requested responded heard stopped started counted held refusals_by pharmacy
paid_again = refl

-- the last serial is given once; a ruling that pays nothing needs none
serials_end : replies (book 999999999999 100) 1 (c1 ∷ (1 ∷ 7 ∷ 4 ∷ 11 ∷ []) ∷ (1 ∷ 7 ∷ 4 ∷ 20 ∷ []) ∷ [])
    ≡ Ok (Paid (record { payer = 1; serial = 999999999999 }) 123456 all_amounts ∷ []) ∷ Err SerialsUsedUp ∷ Ok (Rejected (DuplicateClaim ∷ []) ∷ []) ∷ []
unfolding replies one step answered readable transaction_code ruling judged submitted ticked due requested responded heard stopped started counted held refusals_by pharmacy
serials_end = refl

four_claims : replies (book 1 100) 1 (c17 ∷ (2 ∷ 7 ∷ 4 ∷ 0 ∷ 0 ∷ []) ∷ [])
    ≡ Ok (Paid auth_1 123456 all_amounts ∷ Paid auth_2 123456 all_amounts ∷ Duplicate auth_1 123456 all_amounts ∷ Paid (record { payer = 1; serial = 3 }) 123456 all_amounts ∷ [])
    ∷ Ok (Reversed auth_1 123456 ∷ Rejected (ReversalNotProcessed ∷ []) ∷ []) ∷ []
unfolding replies one step answered readable transaction_code ruling judged submitted ticked due requested responded heard stopped started counted held refusals_by pharmacy
four_claims = refl

-- a request is one row, all or nothing: where a place would need a serial over the limit, nothing is kept, and another request is paid with the first
all_or_nothing : replies (book 999999999998 100) 1 (c17 ∷ c1 ∷ []) ≡ Err SerialsUsedUp ∷ Ok (Paid (record { payer = 1; serial = 999999999998 }) 123456 all_amounts ∷ []) ∷ []
unfolding replies one step answered readable transaction_code ruling judged submitted ticked due requested responded heard stopped started counted held refusals_by pharmacy
all_or_nothing = refl

-- a book whose payer asks, with advices: requests in turn, each with the rulings of its advice
abbrev pub asking : ℕ → Book
asking serial = record { payer = 1; settings = record { serial = serial; cap = 100; asks = true; reversals = false; carries = false }; plan = record { fee = 150; copay = 1000; prices = [] }; rows = [] }

unfoldable pub advised : Book → ℕ → List (List Ruling × List ℕ) → List (Result (List Ruling) Refusal)
advised b n [] = []
advised b n (r ∷ rs) = let said : Advice = record { rulings = r.0; text = [] } in
    told_by (answered small b said (id 1 n) r.1) ∷ advised (book_next b (answered small b said (id 1 n) r.1)) (n + 1) rs

-- what an adjudication system says: it pays, under whatever authorization; it says that it paid before; it pays another prescription; it rejects;
-- or it says nothing of use
abbrev pub says_paid : Ruling
says_paid = Paid (record { payer = 9; serial = 9 }) 123456 all_amounts

abbrev pub says_again : Ruling
says_again = Duplicate (record { payer = 9; serial = 9 }) 123456 all_amounts

abbrev pub says_other : Ruling
says_other = Paid (record { payer = 9; serial = 9 }) 5 all_amounts

abbrev pub says_no : Ruling
says_no = Rejected (BadBin ∷ [])

-- a claim is not ruled without a verdict on its own prescription, and then as the advice says, under the book's own authorization; a duplicate, another claim for the
-- fill and reversals are never asked for
asked_for : advised (asking 1) 1 (([], c1) ∷ (says_other ∷ [], c1) ∷ (says_paid ∷ [], c1) ∷ ([], c1) ∷ ([], 1 ∷ 7 ∷ 4 ∷ 20 ∷ []) ∷ ([], 2 ∷ 7 ∷ 4 ∷ 99 ∷ []) ∷ (says_no ∷ [], c1) ∷ [])
    ≡ Err NotAdvised ∷ Err NotAdvised ∷ Ok (Paid auth_1 123456 all_amounts ∷ []) ∷ Ok (Duplicate auth_1 123456 all_amounts ∷ []) ∷ Ok (Rejected (DuplicateClaim ∷ []) ∷ []) ∷ Ok (Reversed auth_1 123456 ∷ []) ∷ Ok (Rejected (BadBin ∷ []) ∷ []) ∷ []
unfolding advised one step answered readable transaction_code ruling judged submitted ticked due requested responded heard stopped started counted held refusals_by pharmacy
asked_for = refl

-- of four places the first, the second and the fourth are to be priced: all three have a verdict, of which a payment that was made before is one, or the request is refused as a whole
asked_for_four : advised (asking 1) 1 ((says_paid ∷ says_paid ∷ [], c17) ∷ (says_paid ∷ says_no ∷ Reversed auth_1 5 ∷ says_again ∷ [], c17) ∷ [])
    ≡ Err NotAdvised ∷ Ok (Paid auth_1 123456 all_amounts ∷ Rejected (BadBin ∷ []) ∷ Duplicate auth_1 123456 all_amounts ∷ Paid auth_2 123456 all_amounts ∷ []) ∷ []
unfolding advised one step answered readable transaction_code ruling judged submitted ticked due requested responded heard stopped started counted held refusals_by pharmacy
asked_for_four = refl

-- a book whose payer asks about reversals too
abbrev pub asking_all : Book
asking_all = record { payer = 1; settings = record { serial = 1; cap = 100; asks = true; reversals = true; carries = false }; plan = record { fee = 150; copay = 1000; prices = [] }; rows = [] }

abbrev pub says_reversed : ℕ → Ruling
says_reversed prescription = Reversed (record { payer = 9; serial = 9 }) prescription

-- a payment is taken back where the advice says so of its prescription, and not without an advice; a rejected reversal leaves it standing. A
-- reversal for which there is no payment is never asked about
asked_reversals : advised asking_all 1 ((says_paid ∷ [], c1) ∷ ([], v1) ∷ (says_paid ∷ [], v1) ∷ (says_reversed 5 ∷ [], v1) ∷ (says_no ∷ [], v1) ∷ ([], c1) ∷ (says_reversed 123456 ∷ [], v1) ∷ ([], v1) ∷ [])
    ≡ Ok (Paid auth_1 123456 all_amounts ∷ []) ∷ Err NotAdvised ∷ Err NotAdvised ∷ Err NotAdvised ∷ Ok (Rejected (BadBin ∷ []) ∷ []) ∷ Ok (Duplicate auth_1 123456 all_amounts ∷ []) ∷ Ok (Reversed auth_1 123456 ∷ []) ∷ Ok (Rejected (ReversalNotProcessed ∷ []) ∷ []) ∷ []
unfolding advised one step answered readable transaction_code ruling judged submitted ticked due requested responded heard stopped started counted held refusals_by pharmacy
asked_reversals = refl

-- what an advice says beside its rulings stands in the answer of a book whose settings say so, also when it is told again, and in no other
abbrev pub carrying : Bool → Book
carrying carries = record { payer = 1; settings = record { serial = 1; cap = 100; asks = true; reversals = false; carries = carries }; plan = record { fee = 150; copay = 1000; prices = [] }; rows = [] }

abbrev pub says_more : Advice
says_more = record { rulings = says_paid ∷ []; text = 7 ∷ 1 ∷ 65 ∷ 1 ∷ 9 ∷ 9 ∷ 123456 ∷ 9 ∷ 5 ∷ 6 ∷ 7 ∷ [] }

abbrev pub bytes_of : Result Answered Refusal → List ℕ
bytes_of (Ok a) = a.bytes
bytes_of (Err why) = []

carried_along : bytes_of (answered small (carrying true) says_more (id 1 1) c1) ∷ bytes_of (answered small (book_next (carrying true) (answered small (carrying true) says_more (id 1 1) c1)) unadvised (id 1 1) c1)
    ∷ bytes_of (answered small (carrying false) says_more (id 1 1) c1) ∷ []
    ≡ (7 ∷ 1 ∷ 65 ∷ 1 ∷ 1 ∷ 1 ∷ 123456 ∷ 9 ∷ 5 ∷ 6 ∷ 7 ∷ []) ∷ (7 ∷ 1 ∷ 65 ∷ 1 ∷ 1 ∷ 1 ∷ 123456 ∷ 9 ∷ 5 ∷ 6 ∷ 7 ∷ []) ∷ (7 ∷ 1 ∷ 65 ∷ 1 ∷ 1 ∷ 1 ∷ 123456 ∷ []) ∷ []
unfolding replies one step answered readable transaction_code ruling judged submitted ticked due requested responded heard stopped started counted held refusals_by pharmacy
carried_along = refl

-- and in the answer to a duplicate, which nobody advised
repeated_along : bytes_of (answered small (book_next (carrying true) (answered small (carrying true) says_more (id 1 1) c1)) unadvised (id 1 2) c1)
    ∷ bytes_of (answered small (book_next (carrying false) (answered small (carrying false) says_more (id 1 1) c1)) unadvised (id 1 2) c1) ∷ []
    ≡ (7 ∷ 1 ∷ 65 ∷ 2 ∷ 1 ∷ 1 ∷ 123456 ∷ 9 ∷ 5 ∷ 6 ∷ 7 ∷ []) ∷ (7 ∷ 1 ∷ 65 ∷ 2 ∷ 1 ∷ 1 ∷ 123456 ∷ []) ∷ []
unfolding replies one step answered readable transaction_code ruling judged submitted ticked due requested responded heard stopped started counted held refusals_by pharmacy
repeated_along = refl

-- in a full book a known number with its request is answered again, and no new one
full_book : told_by (answered small (book_next (book 1 1) (answered small (book 1 1) unadvised (id 1 1) c1)) unadvised (id 1 1) c1) ≡ Ok (Paid auth_1 123456 all_amounts ∷ [])
unfolding replies one step answered readable transaction_code ruling judged submitted ticked due requested responded heard stopped started counted held refusals_by pharmacy
full_book = refl

full_book_new : told_by (answered small (book_next (book 1 1) (answered small (book 1 1) unadvised (id 1 1) c1)) unadvised (id 1 2) c1) ≡ Err BookFull
unfolding replies one step answered readable transaction_code ruling judged submitted ticked due requested responded heard stopped started counted held refusals_by pharmacy
full_book_new = refl

number_reused : told_by (answered small (book_next (book 1 1) (answered small (book 1 1) unadvised (id 1 1) c1)) unadvised (id 1 1) v1) ≡ Err NumberReused
unfolding replies one step answered readable transaction_code ruling judged submitted ticked due requested responded heard stopped started counted held refusals_by pharmacy
number_reused = refl

not_ours : told_by (answered small (book 1 1) unadvised (id 1 1) cn) ≡ Err NotOurs
unfolding replies one step answered readable transaction_code ruling judged submitted ticked due requested responded heard stopped started counted held refusals_by pharmacy
not_ours = refl

-- a switch alone: what it forwards, what it refuses, and what it loses at a stop

abbrev pub request_of_1 : List ℕ → Envelope
request_of_1 text = request_envelope (id 1 1) text

abbrev pub response_of : ℕ → List ℕ → Envelope
response_of number answer = answer_envelope (id 1 number) answer

abbrev pub table_next : Table → Result Requested Refusal → Table
table_next t (Ok r) = r.table
table_next t (Err why) = t

abbrev pub table_told : Table → Result Responded Refusal → Table
table_told t (Ok r) = r.table
table_told t (Err why) = t

abbrev pub empty_table : Table
empty_table = record { cap = 2; entries = [] }

-- the table after the first request, and after its answer
abbrev pub waiting : Table
waiting = table_next empty_table (requested small empty_table (request_of_1 c1))

abbrev pub a1 : List ℕ
a1 = 7 ∷ 1 ∷ 65 ∷ 1 ∷ 1 ∷ 1 ∷ 123456 ∷ []

abbrev pub a1_again : List ℕ
a1_again = 7 ∷ 1 ∷ 65 ∷ 2 ∷ 1 ∷ 1 ∷ 123456 ∷ []

abbrev pub has_it : Table
has_it = table_told waiting (responded small waiting (response_of 1 a1))

-- whether a call was refused, and why
abbrev pub why_not : {A : Type 0} → Result A Refusal → Option Refusal
why_not (Ok a) = None
why_not (Err why) = Some why

abbrev pub routed_in : Result Requested Refusal → Option Routed
routed_in (Ok r) = Some r.routed
routed_in (Err why) = None

forwards : routed_in (requested small empty_table (request_of_1 c1)) ≡ Some (Forward 1 (1 ∷ 1 ∷ 1 ∷ c1))
unfolding requested readable transaction_code
forwards = refl

another_request : why_not (requested small waiting (request_of_1 v1)) ≡ Some NumberReused
unfolding requested readable transaction_code
another_request = refl

another_answer : why_not (responded small has_it (response_of 1 a1_again)) ≡ Some Differs
unfolding requested responded readable transaction_code
another_answer = refl

same_answer_again : why_not (responded small has_it (response_of 1 a1)) ≡ None
unfolding requested responded readable transaction_code
same_answer_again = refl

not_waited_for : why_not (responded small has_it (response_of 2 a1)) ≡ Some NotWaiting
unfolding requested responded readable transaction_code
not_waited_for = refl

no_response : map (λ e. why_not (responded small has_it e)) (response_of 1 (5 ∷ []) ∷ request_of_1 a1 ∷ []) ≡ Some Unreadable ∷ Some Unreadable ∷ []
unfolding requested responded readable transaction_code
no_response = refl

no_request : why_not (requested small has_it (request_of_1 (5 ∷ []))) ≡ Some Unreadable
unfolding requested responded readable transaction_code
no_request = refl

answers_itself : routed_in (requested small has_it (request_of_1 c1)) ≡ Some (Back (2 ∷ 1 ∷ 1 ∷ a1))
unfolding requested responded readable transaction_code
answers_itself = refl

lost_at_a_stop : why_not (responded small empty_table (response_of 1 a1)) ≡ Some NotWaiting
unfolding responded
lost_at_a_stop = refl

-- a pharmacy alone: what it refuses to hear

abbrev pub one_open : Journal
one_open = record { number = 1; settings = record { qualifier = []; provider = 7 ∷ []; nodes = 1 ∷ []; again = 1; tries = 1; cap = 9 }; rule = record { nodes = 1 ∷ []; again = 1; tries = 1 }; entries = record { request = c1; state = Waits 0 } ∷ [] }

abbrev pub one_settled : Journal
one_settled = record { number = 1; settings = record { qualifier = []; provider = 7 ∷ []; nodes = 1 ∷ []; again = 1; tries = 1; cap = 9 }; rule = record { nodes = 1 ∷ []; again = 1; tries = 1 }; entries = record { request = c1; state = Has a1 } ∷ [] }

hears : heard small one_open (response_of 1 a1) ≡ Ok one_settled
unfolding heard
hears = refl

hears_not : map (λ e. why_not (heard small one_open e)) (answer_envelope (id 2 1) a1 ∷ response_of 5 a1 ∷ response_of 1 (5 ∷ []) ∷ request_of_1 a1 ∷ []) ≡ Some NotMine ∷ Some NoSuchNumber ∷ Some Unreadable ∷ Some Unreadable ∷ []
unfolding heard
hears_not = refl

hears_once : map (λ e. why_not (heard small one_settled e)) (response_of 1 a1 ∷ response_of 1 a1_again ∷ []) ≡ Some AlreadySettled ∷ Some Differs ∷ []
unfolding heard
hears_once = refl
