-- The index of a list of payments.
use Rattle.std.specs.Prelude.{◌≡◌, ℕ, ◌<◌, ◌≤◌, List, length, slice_get, Option, Some, None, MatchOption}
use Rattle.std.specs.List.{AllByRecursion}
use Rattle.claim_model.specs.Words.{Auth, Fill}
use Rattle.payer_book.specs.declared.book.payment.Standing.{Standing}
use Rattle.payer_book.specs.declared.book.payment.Payment.{Payment}
use Rattle.payer_book.specs.declared.book.payment.Payment.TheVariants.{Standing as Stands}
use Rattle.payer_book.specs.Ledger.{payment_with, standing_in, AreNumbered}

-- a fill's standing payment is at this place
pub record StandsAt (ps : List Payment) (fill : Fill) (place : ℕ) : Type 0 where
  pub payment : Standing
  pub there : slice_get ps place ≡ Some (Stands payment)
  pub is_of : payment.claim.fill ≡ fill

-- where the payment of an authorization stands; nowhere where there is none
abbrev pub IsPlaceOf : Auth → List Payment → Option ℕ → Type 0
IsPlaceOf auth ps result =
    MatchOption result (payment_with auth ps ≡ None) (λ place. (place < length ps) × (slice_get ps place ≡ payment_with auth ps))

-- the payment has a fill number below this
abbrev pub IsBelow : ℕ → Standing → Type 0
IsBelow numbers s = s.claim.fill.fill < numbers

-- each standing payment is in the index by its fill, and the index has nothing else; their fill numbers are below `numbers`
pub record IsIndexed (payer first numbers : ℕ) (ps : List Payment) (place_of : Fill → Option ℕ) : Type 0 where
  pub least : 1 ≤ first
  pub numbered : AreNumbered payer first ps
  pub few : numbers ≤ 100
  pub below : AllByRecursion (IsBelow numbers) (standing_in ps)
  pub found : (fill : Fill) (place : ℕ) → place_of fill ≡ Some place → StandsAt ps fill place
  pub there : (s : Standing) (place : ℕ) → slice_get ps place ≡ Some (Stands s) → place_of s.claim.fill ≡ Some place
