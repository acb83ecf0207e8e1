-- A ledger after one ruling more, and after some.
use Rattle.std.proofs.Common.{◌≡◌, ◌<◌, ◌≤◌, ℕ, ◌+◌, Bool, true, false, cond, List, [], ◌∷◌, ◌++◌, length, get_or, take, drop, refl, sym, ap, subst, ◌∙◌, append_assoc, append-nil, inl, inr, arith}
use Rattle.std.specs.Prelude.{Option, Some, None, option_map, unwrap_or}
use Rattle.std.specs.Ordering.{nat_cmp}
use Rattle.std.specs.BTreeMap.{get}
use Rattle.std.proofs.lemmas.Bool.{cases_eq, ne_eqb}
use Rattle.std.proofs.lemmas.List.{take_more, take_all, take-append-drop}
use Rattle.std.proofs.lemmas.List.Sums.{sum_by-append}
use Rattle.claim_reports.specs.declared.ledger.Move.{Move}
use Rattle.claim_reports.specs.declared.ledger.Move.TheVariants.{Paid, Reversed}
use Rattle.claim_reports.specs.declared.ledger.LedgerPayment.{LedgerPayment}
use Rattle.claim_reports.specs.declared.ledger.Ledger.{Ledger}
use Rattle.claim_reports.specs.declared.ledger.Moved.{Moved}
use Rattle.claim_reports.specs.Ledger.{paid_for, is_reversed, standing_cents, paid_cents, paid_total, back_cents, taken_back, held_at, IsLedgerOf, standing_in, Pays, Reverses, Takes, TakesAll}
use Rattle.claim_reports.proofs.Adding.{apart_at}
use Rattle.claim_reports.proofs.Snocs.{paid_stays, not_paid_before, paid_behind_other, paid_behind_own, paid_behind_reversal, reversed_behind_payment, reversed_behind_other, reversed_behind_own, once_behind_payment, once_behind_reversal, standing_alike, standing_less}

held_alike : (q : ℕ) (xs ys : List Move) → paid_for q ys ≡ paid_for q xs → is_reversed q ys ≡ is_reversed q xs → held_at q ys ≡ held_at q xs
held_alike q xs ys paid gone = λ i. option_map (λ (c : ℕ). record { cents = c; reversed = gone i }) (paid i)

held_is : (q c : ℕ) (r : Bool) (xs : List Move) → paid_for q xs ≡ Some c → is_reversed q xs ≡ r → held_at q xs ≡ Some (record { cents = c; reversed = r })
held_is q c r xs paid gone = λ i. option_map (λ (k : ℕ). record { cents = k; reversed = gone i }) (paid i)

no_held : (o : Option ℕ) (r : Bool) → option_map (λ (c : ℕ). let h : LedgerPayment = record { cents = c; reversed = r } in h) o ≡ None → o ≡ None
no_held None r e = refl
no_held (Some c) r e = cc e

pub stood_is : (o : Option ℕ) (r : Bool) (c : ℕ) → standing_in (option_map (λ (k : ℕ). let h : LedgerPayment = record { cents = k; reversed = r } in h) o) ≡ Some c → (o ≡ Some c) × (r ≡ false)
stood_is None r c e = absurd (cc e)
stood_is (Some k) true c e = absurd (cc e)
stood_is (Some k) false c e = (e, refl)

-- a payment more
paid_more : (xs : List Move) (a c : ℕ) (old new : Ledger) (moved : Moved) → Pays old new a c moved → IsLedgerOf xs old → IsLedgerOf (xs ++ Paid a c ∷ []) new
paid_more xs a c old new moved pays is =
    let none : paid_for a xs ≡ None = no_held (paid_for a xs) (is_reversed a xs) (sym (is.at a) ∙ pays.absent) in
    let gone = λ (q : ℕ). is_reversed q (xs ++ Paid a c ∷ []) in
    record {
      at = λ q. elim (cases_eq a q) [
        | inl here ↦ subst (λ (k : ℕ). get nat_cmp new.payments k ≡ held_at k (xs ++ Paid a c ∷ [])) here
            (pays.updates.1 ∙ sym (held_is a c false (xs ++ Paid a c ∷ []) (paid_behind_own a c xs none) (reversed_behind_payment a a c xs ∙ is.behind a none)))
        | inr apart ↦ pays.updates.2 q (apart_at a q apart) ∙ (is.at q
            ∙ sym (held_alike q xs (xs ++ Paid a c ∷ []) (paid_behind_other q a c xs (ne_eqb a q apart)) (reversed_behind_payment q a c xs)))
      ];
      behind = λ q e. reversed_behind_payment q a c xs ∙ is.behind q (not_paid_before q xs (Paid a c ∷ []) e);
      once = once_behind_payment a c xs is.once none;
      standing =
          let alike = standing_alike gone (λ (q : ℕ). is_reversed q xs) xs (λ q. reversed_behind_payment q a c xs) in
          let whole = sum_by-append (standing_cents gone) xs (Paid a c ∷ []) in
          let own : cond (is_reversed a (xs ++ Paid a c ∷ [])) 0 c ≡ c = ap (λ (g : Bool). cond g 0 c) (reversed_behind_payment a a c xs ∙ is.behind a none) in
          omega (arith, alike, whole, own, pays.standing, is.standing);
    }

-- a reversal more
reversed_more : (xs : List Move) (a : ℕ) (old new : Ledger) (moved : Moved) → Reverses old new a moved → IsLedgerOf xs old → IsLedgerOf (xs ++ Reversed a ∷ []) new
reversed_more xs a old new moved back is =
    let stood = stood_is (paid_for a xs) (is_reversed a xs) back.cents (ap standing_in (sym (is.at a)) ∙ back.stood) in
    let gone = λ (q : ℕ). is_reversed q (xs ++ Reversed a ∷ []) in
    record {
      at = λ q. elim (cases_eq a q) [
        | inl here ↦ subst (λ (k : ℕ). get nat_cmp new.payments k ≡ held_at k (xs ++ Reversed a ∷ [])) here
            (back.updates.1 ∙ sym (held_is a back.cents true (xs ++ Reversed a ∷ []) (paid_behind_reversal a a xs ∙ stood.0) (reversed_behind_own a xs)))
        | inr apart ↦ back.updates.2 q (apart_at a q apart) ∙ (is.at q
            ∙ sym (held_alike q xs (xs ++ Reversed a ∷ []) (paid_behind_reversal q a xs) (reversed_behind_other q a xs (ne_eqb a q apart))))
      ];
      behind = λ q e.
          let none : paid_for q xs ≡ None = sym (paid_behind_reversal q a xs) ∙ e in
          let apart : a ≡ q → ⊥ = λ (here : a ≡ q). cc (sym stood.0 ∙ (ap (λ (k : ℕ). paid_for k xs) here ∙ none)) in
          reversed_behind_other q a xs (ne_eqb a q apart) ∙ is.behind q none;
      once = once_behind_reversal a xs is.once;
      standing =
          let less = standing_less (λ (q : ℕ). is_reversed q xs) gone a back.cents xs (λ q other. reversed_behind_other q a xs other) stood.1 (reversed_behind_own a xs) is.once stood.0 in
          let whole = sum_by-append (standing_cents gone) xs (Reversed a ∷ []) in
          omega (arith, less, whole, back.standing, is.standing);
    }

-- what was paid among all stays what it was
abbrev pub AreAmong : List Move → List Move → Type 0
AreAmong xs all = (q c : ℕ) → paid_for q xs ≡ Some c → paid_for q all ≡ Some c

pub record IsTaken (xs : List Move) (ruling : Move) (all : List Move) (old new : Ledger) (moved : Moved) : Type 0 where
  pub is : IsLedgerOf (xs ++ ruling ∷ []) new
  pub paid : moved.paid ≡ paid_cents ruling
  pub reversed : moved.reversed ≡ back_cents all ruling
  pub balance : old.standing + moved.paid ≡ new.standing + moved.reversed

pub taken : (xs : List Move) (ruling : Move) (all : List Move) (old new : Ledger) (moved : Moved) → AreAmong xs all → Takes old new ruling moved → IsLedgerOf xs old → IsTaken xs ruling all old new moved
taken xs (Paid a c) all old new moved among takes is =
    let paid : moved.paid ≡ c = ap (λ (m : Moved). m.paid) takes.told in
    let back : moved.reversed ≡ 0 = ap (λ (m : Moved). m.reversed) takes.told in
    record { is = paid_more xs a c old new moved takes is; paid = paid; reversed = back; balance = omega (arith, takes.standing, paid, back) }
taken xs (Reversed a) all old new moved among takes is =
    let paid : moved.paid ≡ 0 = ap (λ (m : Moved). m.paid) takes.told in
    let back : moved.reversed ≡ takes.cents = ap (λ (m : Moved). m.reversed) takes.told in
    let stood = stood_is (paid_for a xs) (is_reversed a xs) takes.cents (ap standing_in (sym (is.at a)) ∙ takes.stood) in
    let found : unwrap_or (paid_for a all) 0 ≡ takes.cents = ap (λ (o : Option ℕ). unwrap_or o 0) (among a takes.cents stood.0) in
    record { is = reversed_more xs a old new moved takes is; paid = paid; reversed = back ∙ sym found; balance = omega (arith, takes.standing, paid, back) }

-- a ledger after the first of some rulings, and what they moved
pub record TakesSome (before moves : List Move) (count : ℕ) (old new : Ledger) (paid reversed : ℕ) : Type 0 where
  pub is : IsLedgerOf (before ++ take count moves) new
  pub told : paid ≡ paid_total (take count moves)
  pub back : reversed ≡ taken_back (before ++ moves) (take count moves)
  pub balance : old.standing + paid ≡ new.standing + reversed

pub takes_none : (before moves : List Move) (old : Ledger) → IsLedgerOf before old → TakesSome before moves 0 old old 0 0
takes_none before moves old is = record {
  is = subst (λ (xs : List Move). IsLedgerOf xs old) (sym (append-nil before)) is;
  told = refl;
  back = refl;
  balance = refl;
}

among_all : (before moves : List Move) (count : ℕ) → AreAmong (before ++ take count moves) (before ++ moves)
among_all before moves count q c e =
    ap (λ (xs : List Move). paid_for q xs) (ap (λ (xs : List Move). before ++ xs) (sym (take-append-drop count moves)) ∙ sym (append_assoc before (take count moves) (drop count moves)))
    ∙ paid_stays q (before ++ take count moves) (drop count moves) c e

pub takes_more : (before moves : List Move) (count : ℕ) (d : Move) (old mid new : Ledger) (paid reversed : ℕ) (moved : Moved) (more_paid more_reversed : ℕ)
    → count < length moves → more_paid ≡ paid + moved.paid → more_reversed ≡ reversed + moved.reversed
    → Takes mid new (get_or moves count d) moved → TakesSome before moves count old mid paid reversed
    → TakesSome before moves (count + 1) old new more_paid more_reversed
takes_more before moves count d old mid new paid reversed moved more_paid more_reversed lt adds gives takes some =
    let ruling = get_or moves count d in
    let one = taken (before ++ take count moves) ruling (before ++ moves) mid new moved (among_all before moves count) takes some.is in
    let more : take (count + 1) moves ≡ take count moves ++ ruling ∷ [] = take_more moves count d lt in
    let sums = sum_by-append paid_cents (take count moves) (ruling ∷ []) in
    let backs = sum_by-append (back_cents (before ++ moves)) (take count moves) (ruling ∷ []) in
    let told : more_paid ≡ paid_total (take count moves ++ ruling ∷ []) = omega (arith, sums, some.told, one.paid, adds) in
    let back : more_reversed ≡ taken_back (before ++ moves) (take count moves ++ ruling ∷ []) = omega (arith, backs, some.back, one.reversed, gives) in
    record {
      is = subst (λ (xs : List Move). IsLedgerOf xs new) (append_assoc before (take count moves) (ruling ∷ []) ∙ ap (λ (xs : List Move). before ++ xs) (sym more)) one.is;
      told = told ∙ ap (λ (xs : List Move). paid_total xs) (sym more);
      back = back ∙ ap (λ (xs : List Move). taken_back (before ++ moves) xs) (sym more);
      balance = omega (arith, some.balance, one.balance, adds, gives);
    }

pub takes_done : (before moves : List Move) (count : ℕ) (old new : Ledger) (moved : Moved) → length moves ≤ count
    → TakesSome before moves count old new moved.paid moved.reversed → TakesAll before moves old new moved
takes_done before moves count old new moved le some =
    let all = take_all count moves le in
    record {
      is = subst (λ (xs : List Move). IsLedgerOf (before ++ xs) new) all some.is;
      paid = some.told ∙ ap (λ (xs : List Move). paid_total xs) all;
      reversed = some.back ∙ ap (λ (xs : List Move). taken_back (before ++ moves) xs) all;
      balance = some.balance;
    }
