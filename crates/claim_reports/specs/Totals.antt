-- Payments that are chosen, and their sums.
use Rattle.std.specs.Prelude.{◌≡◌, ℕ, ◌+◌, ◌^◌, ◌==◌, ◌&&◌, ◌||◌, if◌then◌else◌, Bool, true, false, not, nat_le, cond, List, [], ◌∷◌, Option, Some, None, filter, nat_eq}
use Rattle.std.specs.Option.{option_eq, option_cmp}
use Rattle.std.specs.Ordering.{nat_cmp}
use Rattle.std.specs.declared.cmp.Ordering.{Ordering}
use Rattle.std.specs.List.{list_any, sum_by}
use Rattle.std.specs.Map.{values_of}
use Rattle.std.specs.BTreeMap.{BTreeMap, IsOrdered, Updates, get, insert_entry}
use Rattle.claim_reports.specs.declared.choice.Paid.{Paid}
use Rattle.claim_reports.specs.declared.choice.Choice.{Choice}
use Rattle.claim_reports.specs.declared.totals.By.{By}
use Rattle.claim_reports.specs.declared.totals.By.TheVariants.{Payer, Pharmacy, Day, All}
use Rattle.claim_reports.specs.declared.totals.Sums.{Sums}
use Rattle.claim_reports.specs.Shelves.{is_of}
use Rattle.claim_reports.specs.Causes.{Cause, TooLarge}

-- a number is the one that is wanted, where one is
abbrev pub is_number : Option ℕ → ℕ → Bool
is_number None number = true
is_number (Some wanted) number = number == wanted

-- a day is the first that is wanted or a later one, where one is wanted; then what has no day is none
abbrev pub is_from : Option ℕ → Option ℕ → Bool
is_from None day = true
is_from (Some first) None = false
is_from (Some first) (Some day) = nat_le first day

-- a day is the last that is wanted or an earlier one, where one is wanted
abbrev pub is_to : Option ℕ → Option ℕ → Bool
is_to None day = true
is_to (Some last) None = false
is_to (Some last) (Some day) = nat_le day last

-- a payment is of a book and of the pharmacy that are wanted, and its day is from the first to the last one
abbrev pub is_chosen : Choice → Paid → Bool
is_chosen c p = is_of c.books p.payer && (is_number c.pharmacy p.pharmacy && (is_from c.from p.day && is_to c.to p.day))

-- the number of a payment that totals are made by, where it has one; of all in one row none has
abbrev pub key_of : By → Paid → Option ℕ
key_of Payer p = Some p.payer
key_of Pharmacy p = Some p.pharmacy
key_of Day p = p.day
key_of All p = None

-- what has no number first, the others in its order
abbrev pub key_cmp : Option ℕ → Option ℕ → Ordering
key_cmp a b = option_cmp nat_cmp a b

-- a payment counts as one, and by its cents, among those that are reversed or among those that are not
abbrev pub is_alike : Bool → Bool → Bool
is_alike true reversed = reversed
is_alike false reversed = not reversed

abbrev pub one_if : Bool → Paid → ℕ
one_if reversed p = cond (is_alike reversed p.reversed) 1 0

abbrev pub cents_if : Bool → Paid → ℕ
cents_if reversed p = cond (is_alike reversed p.reversed) p.cents 0

-- the sums of payments
abbrev pub sums_of : List Paid → Sums
sums_of paid = record {
  count = sum_by (one_if false) paid;
  cents = sum_by (cents_if false) paid;
  reversed_count = sum_by (one_if true) paid;
  reversed_cents = sum_by (cents_if true) paid;
}

-- sums with one payment more
abbrev pub with_payment : Sums → Paid → Sums
with_payment s p = record {
  count = s.count + one_if false p;
  cents = s.cents + cents_if false p;
  reversed_count = s.reversed_count + one_if true p;
  reversed_cents = s.reversed_cents + cents_if true p;
}

abbrev pub sums_or_none : Option Sums → Sums
sums_or_none None = sums_of []
sums_or_none (Some s) = s

-- the sums of payments, where there are any
abbrev pub total_of : List Paid → Option Sums
total_of [] = None
total_of (p ∷ more) = Some (sums_of (p ∷ more))

-- the payments of a number, and their sums
abbrev pub is_at_key : By → Option ℕ → Paid → Bool
is_at_key by key p = option_eq nat_eq (key_of by p) key

abbrev pub total_at : By → Option ℕ → List Paid → Option Sums
total_at by key paid = total_of (filter (is_at_key by key) paid)

-- a payment is added to the sums of a number
pub record AddsPayment (old new : BTreeMap (Option ℕ) Sums) (key : Option ℕ) (p : Paid) : Type 0 where
  pub updates : Updates key_cmp old new key (Some (with_payment (sums_or_none (get key_cmp old key)) p))
  pub entries : new.entries ≡ insert_entry key_cmp old.entries key (with_payment (sums_or_none (get key_cmp old key)) p)
  pub ordered : IsOrdered key_cmp old

-- the sums of all numbers together are those of all payments
pub record AddUp (totals : List (Option ℕ × Sums)) (paid : List Paid) : Type 0 where
  pub counts : sum_by (λ (s : Sums). s.count) (values_of totals) ≡ (sums_of paid).count
  pub cents : sum_by (λ (s : Sums). s.cents) (values_of totals) ≡ (sums_of paid).cents
  pub reversed_counts : sum_by (λ (s : Sums). s.reversed_count) (values_of totals) ≡ (sums_of paid).reversed_count
  pub reversed_cents : sum_by (λ (s : Sums). s.reversed_cents) (values_of totals) ≡ (sums_of paid).reversed_cents

-- a sum has more than 64 bits
abbrev pub is_too_large : Sums → Bool
is_too_large s = nat_le (2 ^ 64) s.count || (nat_le (2 ^ 64) s.cents || (nat_le (2 ^ 64) s.reversed_count || nat_le (2 ^ 64) s.reversed_cents))

-- why a payment is not added to sums
abbrev pub adding_cause : Sums → Paid → Option Cause
adding_cause s p = if is_too_large (with_payment s p) then Some TooLarge else None

-- why there are no totals: the sums of the number of some payment are too large
unfoldable pub sums_cause : By → List Paid → Option Cause
sums_cause by paid = if list_any (λ (p : Paid). is_too_large (sums_of (filter (is_at_key by (key_of by p)) paid))) paid then Some TooLarge else None
