-- Rulings that move money: what they paid, what they reversed, and what stands.
use Rattle.std.specs.Prelude.{◌≡◌, ℕ, ◌+◌, ◌==◌, Bool, true, false, cond, List, [], ◌∷◌, ◌++◌, Option, Some, None, option_map, unwrap_or, ◌^◌, if◌then◌else◌, is_none, is_some, length, nat_le, nat_lt}
use Rattle.std.specs.Option.{option_or}
use Rattle.std.specs.Ordering.{nat_cmp}
use Rattle.std.specs.List.{list_any, sum_by}
use Rattle.std.specs.BTreeMap.{Updates, get}
use Rattle.claim_reports.specs.declared.ledger.Move.{Move}
use Rattle.claim_reports.specs.declared.ledger.Move.TheVariants.{Paid, Reversed}
use Rattle.claim_reports.specs.declared.ledger.LedgerPayment.{LedgerPayment}
use Rattle.claim_reports.specs.declared.ledger.Ledger.{Ledger}
use Rattle.claim_reports.specs.declared.ledger.Moved.{Moved}
use Rattle.claim_reports.specs.declared.ledger.Period.{Period}
use Rattle.claim_reports.specs.Causes.{Cause, NotStanding, PaidAgain, TooLarge}

-- what was paid under an authorization
abbrev pub paid_for : ℕ → List Move → Option ℕ
paid_for auth [] = None
paid_for auth (Paid a cents ∷ more) = cond (a == auth) (Some cents) (paid_for auth more)
paid_for auth (Reversed a ∷ more) = paid_for auth more

-- a ruling reverses the payment of an authorization
abbrev pub reverses : ℕ → Move → Bool
reverses auth (Paid a cents) = false
reverses auth (Reversed a) = a == auth

-- one of these does
abbrev pub is_reversed : ℕ → List Move → Bool
is_reversed auth moves = list_any (reverses auth) moves

-- the cents of a payment, unless it is gone
abbrev pub standing_cents : (ℕ → Bool) → Move → ℕ
standing_cents gone (Paid a cents) = cond (gone a) 0 cents
standing_cents gone (Reversed a) = 0

-- the totals of those payments of some rulings that none of these rulings reverses
abbrev pub standing_total : List Move → ℕ
standing_total moves = sum_by (standing_cents (λ a. is_reversed a moves)) moves

abbrev pub paid_cents : Move → ℕ
paid_cents (Paid a cents) = cents
paid_cents (Reversed a) = 0

-- the totals of the payments of some rulings
abbrev pub paid_total : List Move → ℕ
paid_total moves = sum_by paid_cents moves

-- the cents of the payment that a ruling reverses, as it was made among all
abbrev pub back_cents : List Move → Move → ℕ
back_cents all (Paid a cents) = 0
back_cents all (Reversed a) = unwrap_or (paid_for a all) 0

-- the totals of the payments that some rulings reverse
abbrev pub taken_back : List Move → List Move → ℕ
taken_back all moves = sum_by (back_cents all) moves

-- the figures of a period of rulings after those before it
pub record IsPeriod (before moves : List Move) (p : Period) : Type 0 where
  pub begin : p.begin ≡ standing_total before
  pub paid : p.moved.paid ≡ paid_total moves
  pub reversed : p.moved.reversed ≡ taken_back (before ++ moves) moves
  pub end : p.end ≡ standing_total (before ++ moves)

-- ---- the ledger itself

-- no authorization is paid twice
abbrev pub PaidOnce : List Move → Type 0
PaidOnce [] = Unit {0}
PaidOnce (Paid a cents ∷ more) = (paid_for a more ≡ None) × PaidOnce more
PaidOnce (Reversed a ∷ more) = PaidOnce more

-- the payment of an authorization
abbrev pub held_at : ℕ → List Move → Option LedgerPayment
held_at auth moves = option_map (λ (cents : ℕ). record { cents = cents; reversed = is_reversed auth moves }) (paid_for auth moves)

-- a ledger has the payments of these rulings, each as it stands after them; none is reversed that was not paid
pub record IsLedgerOf (moves : List Move) (l : Ledger) : Type 0 where
  pub at : (auth : ℕ) → get nat_cmp l.payments auth ≡ held_at auth moves
  pub behind : (auth : ℕ) → paid_for auth moves ≡ None → is_reversed auth moves ≡ false
  pub once : PaidOnce moves
  pub standing : l.standing ≡ standing_total moves

-- what a payment comes to; what it comes to where it stands
abbrev pub cents_unless : Bool → ℕ → Option ℕ
cents_unless true cents = None
cents_unless false cents = Some cents

abbrev pub cents_in : Option LedgerPayment → ℕ
cents_in None = 0
cents_in (Some held) = held.cents

abbrev pub standing_in : Option LedgerPayment → Option ℕ
standing_in None = None
standing_in (Some held) = cents_unless held.reversed held.cents

-- a payment is entered
pub record Pays (old new : Ledger) (auth cents : ℕ) (moved : Moved) : Type 0 where
  pub absent : get nat_cmp old.payments auth ≡ None
  pub updates : Updates nat_cmp old.payments new.payments auth (Some (record { cents = cents; reversed = false }))
  pub standing : new.standing ≡ old.standing + cents
  pub told : moved ≡ record { paid = cents; reversed = 0 }

-- a payment that stands is reversed
pub record Reverses (old new : Ledger) (auth : ℕ) (moved : Moved) : Type 0 where
  pub cents : ℕ
  pub stood : standing_in (get nat_cmp old.payments auth) ≡ Some cents
  pub updates : Updates nat_cmp old.payments new.payments auth (Some (record { cents = cents; reversed = true }))
  pub standing : new.standing + cents ≡ old.standing
  pub told : moved ≡ record { paid = 0; reversed = cents }

abbrev pub Takes : Ledger → Ledger → Move → Moved → Type 0
Takes old new (Paid a cents) moved = Pays old new a cents moved
Takes old new (Reversed a) moved = Reverses old new a moved

-- rulings are taken after others
pub record TakesAll (before moves : List Move) (old new : Ledger) (moved : Moved) : Type 0 where
  pub is : IsLedgerOf (before ++ moves) new
  pub paid : moved.paid ≡ paid_total moves
  pub reversed : moved.reversed ≡ taken_back (before ++ moves) moves
  pub balance : old.standing + moved.paid ≡ new.standing + moved.reversed

-- ---- what is wrong with rulings

-- a sum has more than 64 bits
abbrev pub over : ℕ → Option Cause
over sum = if nat_le (2 ^ 64) sum then Some TooLarge else None

-- a ruling by this number, after others: it pays an authorization again, what stands is too large, or it reverses a payment that does not stand
abbrev pub move_cause : List Move → ℕ → Move → Option Cause
move_cause before number (Paid a cents) = if is_some (paid_for a before) then Some (PaidAgain number) else over (standing_total before + cents)
move_cause before number (Reversed a) = if is_none (standing_in (held_at a before)) then Some (NotStanding number) else None

-- rulings after others, of which the first has this number: the first that is wrong, or with which what was paid or reversed so far is too large
unfoldable pub moves_cause : List Move → ℕ → ℕ → ℕ → List Move → Option Cause
moves_cause before number paid reversed [] = None
moves_cause before number paid reversed (m ∷ more) =
    option_or (move_cause before number m)
    (option_or (over (paid + paid_cents m)) (option_or (over (reversed + back_cents (before ++ m ∷ []) m))
    (moves_cause (before ++ m ∷ []) (number + 1) (paid + paid_cents m) (reversed + back_cents (before ++ m ∷ []) m) more)))

-- why there is no period of some rulings after those before it
abbrev pub period_cause : List Move → List Move → Option Cause
period_cause before moves = option_or (moves_cause [] 1 0 0 before) (moves_cause before (length before + 1) 0 0 moves)

-- the same of a ledger
abbrev pub reversing_cause : Option ℕ → ℕ → ℕ → Option Cause
reversing_cause None standing number = Some (NotStanding number)
reversing_cause (Some cents) standing number = if nat_lt standing cents then Some (NotStanding number) else None

abbrev pub taking_cause : Ledger → ℕ → Move → Option Cause
taking_cause l number (Paid a cents) = if is_some (get nat_cmp l.payments a) then Some (PaidAgain number) else over (l.standing + cents)
taking_cause l number (Reversed a) = reversing_cause (standing_in (get nat_cmp l.payments a)) l.standing number
