-- What is wrong with rulings, ruling by ruling.
use Rattle.std.proofs.Common.{◌≡◌, ◌<◌, ◌≤◌, ℕ, ◌+◌, ◌==◌, ◌^◌, Bool, true, false, cond, List, [], ◌∷◌, ◌++◌, length, get_or, take, drop, refl, sym, ap, ◌∙◌, append_assoc, inl, inr, arith}
use Rattle.std.specs.Prelude.{Option, Some, None, option_map, if◌then◌else◌, is_none, is_some, nat_lt, unwrap_or}
use Rattle.std.specs.Option.{option_or}
use Rattle.std.specs.List.{sum_by}
use Rattle.std.proofs.Math.ListN.{drop_of_length-le}
use Rattle.std.proofs.lemmas.Bool.{cases_Bool, eqb-true, ltb-true}
use Rattle.std.proofs.lemmas.List.{drop_more, take_more}
use Rattle.std.proofs.lemmas.List.Sums.{sum_by-append}
use Rattle.claim_reports.specs.declared.fault.ReportFault.{ReportFault}
use Rattle.claim_reports.specs.declared.ledger.Move.{Move}
use Rattle.claim_reports.specs.declared.ledger.Move.TheVariants.{Paid, Reversed}
use Rattle.claim_reports.specs.declared.ledger.LedgerPayment.{LedgerPayment}
use Rattle.claim_reports.specs.declared.ledger.Ledger.{Ledger}
use Rattle.claim_reports.specs.declared.ledger.Moved.{Moved}
use Rattle.claim_reports.specs.Causes.{Cause, NotStanding, PaidAgain, Tells}
use Rattle.claim_reports.specs.Ledger.{paid_for, is_reversed, standing_cents, standing_total, paid_cents, back_cents, held_at, IsLedgerOf, standing_in, Takes, over, move_cause, moves_cause, reversing_cause, taking_cause}
use Rattle.claim_reports.proofs.Ledgers.{IsTaken, stood_is, taken}
use Rattle.claim_reports.proofs.Readings.{some_is}
use Rattle.claim_reports.proofs.Snocs.{paid_stays}
use Rattle.claim_reports.proofs.Telling.{tells_first, tells_same}

-- what stands is part of what stands in all
within : (gone : ℕ → Bool) (a c : ℕ) (xs : List Move) → paid_for a xs ≡ Some c → gone a ≡ false → c ≤ sum_by (standing_cents gone) xs
within gone a c [] e stays = absurd (cc e)
within gone a c (Paid b k ∷ more) e stays = elim (cases_Bool (b == a)) [
  | inl same ↦
      let own : k ≡ c = some_is k c (rw same at e) in
      let here : gone b ≡ false = ap gone (eqb-true b a same) ∙ stays in
      let whole : cond (gone b) 0 k ≡ k = ap (λ (g : Bool). cond g 0 k) here in
      let sum = sum_by-append (standing_cents gone) (Paid b k ∷ []) more in
      omega arith
  | inr other ↦
      let rest = within gone a c more (rw other at e) stays in
      let sum = sum_by-append (standing_cents gone) (Paid b k ∷ []) more in
      omega arith
]
within gone a c (Reversed b ∷ more) e stays = within gone a c more e stays

some_map : {A B : Type 0} (f : A → B) (o : Option A) → is_some (option_map f o) ≡ is_some o
some_map f None = refl
some_map f (Some x) = refl

reversing_is : (o : Option ℕ) (standing number : ℕ) → ((c : ℕ) → o ≡ Some c → c ≤ standing) → reversing_cause o standing number ≡ (if is_none o then Some (NotStanding number) else None)
reversing_is None standing number le = refl
reversing_is (Some c) standing number le = by_test (nat_lt standing c) refl
  where
    by_test : (b : Bool) → nat_lt standing c ≡ b → (if b then Some (NotStanding number) else None) ≡ None
    by_test true e = let lt = ltb-true standing c e in let less = le c refl in absurd (omega (arith, lt, less))
    by_test false e = refl

-- a ledger says what is wrong with a ruling
pub taking_is : (xs : List Move) (l : Ledger) (number : ℕ) (m : Move) → IsLedgerOf xs l → taking_cause l number m ≡ move_cause xs number m
taking_is xs l number (Paid a c) is =
    (λ i. if is_some (is.at a i) then Some (PaidAgain number) else over (is.standing i + c))
    ∙ ap (λ (b : Bool). if b then Some (PaidAgain number) else over (standing_total xs + c)) (some_map (λ (k : ℕ). let h : LedgerPayment = record { cents = k; reversed = is_reversed a xs } in h) (paid_for a xs))
taking_is xs l number (Reversed a) is =
    (λ i. reversing_cause (standing_in (is.at a i)) (is.standing i) number)
    ∙ reversing_is (standing_in (held_at a xs)) (standing_total xs) number (λ c e.
    let stood = stood_is (paid_for a xs) (is_reversed a xs) c e in
    within (λ (q : ℕ). is_reversed q xs) a c xs stood.0 stood.1)

-- ---- ruling by ruling

one_taken : (xs : List Move) (m : Move) (old new : Ledger) (moved : Moved) → Takes old new m moved → IsLedgerOf xs old → IsTaken xs m (xs ++ m ∷ []) old new moved
one_taken xs m old new moved takes is = taken xs m (xs ++ m ∷ []) old new moved (λ q c e. paid_stays q xs (m ∷ []) c e) takes is

-- what is wrong with the rulings that are left is what is wrong with the next, or with those after it
next : (before moves : List Move) (i number paid reversed : ℕ) (d : Move) → i < length moves
    → moves_cause (before ++ take i moves) number paid reversed (drop i moves)
    ≡ option_or (move_cause (before ++ take i moves) number (get_or moves i d))
    (option_or (over (paid + paid_cents (get_or moves i d))) (option_or (over (reversed + back_cents ((before ++ take i moves) ++ get_or moves i d ∷ []) (get_or moves i d)))
    (moves_cause ((before ++ take i moves) ++ get_or moves i d ∷ []) (number + 1) (paid + paid_cents (get_or moves i d))
    (reversed + back_cents ((before ++ take i moves) ++ get_or moves i d ∷ []) (get_or moves i d)) (drop (i + 1) moves))))
unfolding moves_cause
next before moves i number paid reversed d lt = ap (λ (ms : List Move). moves_cause (before ++ take i moves) number paid reversed ms) (drop_more moves i d lt)

taken_more : (before moves : List Move) (i : ℕ) (d : Move) → i < length moves → (before ++ take i moves) ++ get_or moves i d ∷ [] ≡ before ++ take (i + 1) moves
taken_more before moves i d lt = append_assoc before (take i moves) (get_or moves i d ∷ []) ∙ ap (λ (xs : List Move). before ++ xs) (sym (take_more moves i d lt))

-- where the next is taken, its sums are wrong, or what is left after it
taken_on : (all : Option Cause) (before moves : List Move) (i number paid reversed : ℕ) (d : Move) (old new : Ledger) (moved : Moved)
    → i < length moves → IsLedgerOf (before ++ take i moves) old → Takes old new (get_or moves i d) moved → taking_cause old number (get_or moves i d) ≡ None
    → all ≡ moves_cause (before ++ take i moves) number paid reversed (drop i moves)
    → all ≡ option_or (over (paid + moved.paid)) (option_or (over (reversed + moved.reversed))
    (moves_cause (before ++ take (i + 1) moves) (number + 1) (paid + moved.paid) (reversed + moved.reversed) (drop (i + 1) moves)))
taken_on all before moves i number paid reversed d old new moved lt is takes none so_far =
    let m = get_or moves i d in
    let xs = before ++ take i moves in
    let one = one_taken xs m old new moved takes is in
    so_far ∙ next before moves i number paid reversed d lt
    ∙ (λ j. option_or ((sym (taking_is xs old number m is) ∙ none) j)
    (option_or (over (paid + sym one.paid j)) (option_or (over (reversed + sym one.reversed j))
    (moves_cause (taken_more before moves i d lt j) (number + 1) (paid + sym one.paid j) (reversed + sym one.reversed j) (drop (i + 1) moves)))))

pub good_more : (all : Option Cause) (before moves : List Move) (i number paid reversed : ℕ) (d : Move) (old new : Ledger) (moved : Moved)
    → i < length moves → IsLedgerOf (before ++ take i moves) old → Takes old new (get_or moves i d) moved → taking_cause old number (get_or moves i d) ≡ None
    → option_or (over (paid + moved.paid)) (over (reversed + moved.reversed)) ≡ None
    → all ≡ moves_cause (before ++ take i moves) number paid reversed (drop i moves)
    → all ≡ moves_cause (before ++ take (i + 1) moves) (number + 1) (paid + moved.paid) (reversed + moved.reversed) (drop (i + 1) moves)
good_more all before moves i number paid reversed d old new moved lt is takes none fit so_far =
    taken_on all before moves i number paid reversed d old new moved lt is takes none so_far ∙ fits_both (over (paid + moved.paid)) (over (reversed + moved.reversed)) _ fit
  where
    fits_both : (x y z : Option Cause) → option_or x y ≡ None → option_or x (option_or y z) ≡ z
    fits_both None None z e = refl
    fits_both None (Some f) z e = absurd (cc e)
    fits_both (Some f) y z e = absurd (cc e)

-- the first that is wrong
pub wrong_here : (all : Option Cause) (e : ReportFault) (before moves : List Move) (i number paid reversed : ℕ) (d : Move) (old : Ledger)
    → i < length moves → IsLedgerOf (before ++ take i moves) old → Tells e (taking_cause old number (get_or moves i d))
    → all ≡ moves_cause (before ++ take i moves) number paid reversed (drop i moves) → Tells e all
wrong_here all e before moves i number paid reversed d old lt is tells so_far =
    tells_same e _ all (so_far ∙ next before moves i number paid reversed d lt)
    (tells_first e _ _ (tells_same e _ _ (sym (taking_is (before ++ take i moves) old number (get_or moves i d) is)) tells))

-- with it the sums are wrong
pub sums_wrong : (all : Option Cause) (e : ReportFault) (before moves : List Move) (i number paid reversed : ℕ) (d : Move) (old new : Ledger) (moved : Moved)
    → i < length moves → IsLedgerOf (before ++ take i moves) old → Takes old new (get_or moves i d) moved → taking_cause old number (get_or moves i d) ≡ None
    → Tells e (option_or (over (paid + moved.paid)) (over (reversed + moved.reversed)))
    → all ≡ moves_cause (before ++ take i moves) number paid reversed (drop i moves) → Tells e all
sums_wrong all e before moves i number paid reversed d old new moved lt is takes none tells so_far =
    tells_same e _ all (taken_on all before moves i number paid reversed d old new moved lt is takes none so_far) (ahead (over (paid + moved.paid)) (over (reversed + moved.reversed)) _ tells)
  where
    ahead : (x y z : Option Cause) → Tells e (option_or x y) → Tells e (option_or x (option_or y z))
    ahead None y z tells = tells_first e y z tells
    ahead (Some f) y z tells = tells

pub good_end : (all : Option Cause) (before moves : List Move) (i number paid reversed : ℕ) → length moves ≤ i
    → all ≡ moves_cause (before ++ take i moves) number paid reversed (drop i moves) → all ≡ None
unfolding moves_cause
good_end all before moves i number paid reversed le so_far =
    so_far ∙ ap (λ (ms : List Move). moves_cause (before ++ take i moves) number paid reversed ms) (drop_of_length-le moves le)
