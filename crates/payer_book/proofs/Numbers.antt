-- A claim that was read has a fill number of one or two digits.
use Rattle.std.proofs.Common.{◌≡◌, ℕ, ◌≤◌, List, [], ◌∷◌, map, Option, Some, None, Result, Ok, Err, refl, ap, subst, arith}
use Rattle.std.specs.Prelude.{option_map, codes}
use Rattle.std.specs.List.{AllByRecursion}
use Rattle.std.specs.Result.{result_ok}
use Rattle.std.proofs.lemmas.Option.{same_Some as same_some}
use Rattle.overpunch.specs.Number.{number_of}
use Rattle.d0_segments.specs.Parts.{SegmentParts, TransmissionParts}
use Rattle.claim_profile.specs.declared.transaction.TransactionCode.{TransactionCode}
use Rattle.claim_profile.specs.declared.transaction.TransactionCode.TheVariants as transaction
use Rattle.claim_profile.specs.Transaction.{transaction_code}
use Rattle.claim_profile.specs.Fields.{values_in, required}
use Rattle.claim_profile.specs.Order.{number_up_to, claim_fields, claim_of, claim_codes, reversal_fields, reversal_of, reversal_codes, or_rejected, claim_order, reversal_order, order_as, order_of}
use Rattle.claim_model.specs.Words.{RequestHeader, Claim, Order, Bills, Reverses, Code}
use Rattle.claim_model.specs.Bytes.{order_in, orders_in}
use Rattle.claim_model.proofs.BytesLaws.{NumbersInRange}
use Rattle.payer_book.specs.Books.{OrderNumbered}

pub result_ok_some : {A E : Type 0} (r : Result A E) (a : A) → result_ok r ≡ Some a → r ≡ Ok a
result_ok_some (Ok b) a e = ap (λ x. Ok x) (same_some b a e)
result_ok_some (Err f) a e = absurd cc

two_digits : NumbersInRange → (vs : List (List ℕ)) (n : ℕ) → required (number_up_to 2) vs ≡ Some n → n ≤ 99
two_digits law [] n e = absurd cc
two_digits law (v ∷ []) n e = let h = law 2 v n (result_ok_some (number_of 2 v) n e) in omega (arith, h)
two_digits law (v ∷ w ∷ vs) n e = absurd cc

claim_number : (h : RequestHeader) (a b : Option (List ℕ)) (p n : Option ℕ) (d : Option (List ℕ)) (q x y : Option ℕ) (c : Claim) → ((m : ℕ) → n ≡ Some m → m ≤ 99)
    → claim_of h (record { cardholder = a; date = b; prescription = p; fill = n; product = d; quantity = q; cost = x; fee = y }) ≡ Some c → c.fill.fill ≤ 99
unfolding claim_of
claim_number h None b p n d q x y c f e = absurd cc
claim_number h (Some a) None p n d q x y c f e = absurd cc
claim_number h (Some a) (Some b) None n d q x y c f e = absurd cc
claim_number h (Some a) (Some b) (Some p) None d q x y c f e = absurd cc
claim_number h (Some a) (Some b) (Some p) (Some n) None q x y c f e = absurd cc
claim_number h (Some a) (Some b) (Some p) (Some n) (Some d) None x y c f e = absurd cc
claim_number h (Some a) (Some b) (Some p) (Some n) (Some d) (Some q) None y c f e = absurd cc
claim_number h (Some a) (Some b) (Some p) (Some n) (Some d) (Some q) (Some x) None c f e = absurd cc
claim_number h (Some a) (Some b) (Some p) (Some n) (Some d) (Some q) (Some x) (Some y) c f e = subst (λ (z : Claim). z.fill.fill ≤ 99) (same_some _ c e) (f n refl)

claim_fill : NumbersInRange → (h : RequestHeader) (shared group : List SegmentParts) (c : Claim) → claim_of h (claim_fields h shared group) ≡ Some c → c.fill.fill ≤ 99
unfolding claim_fields
claim_fill law h shared group c e =
    let f = claim_fields h shared group in
    claim_number h f.cardholder f.date f.prescription f.fill f.product f.quantity f.cost f.fee c (λ m k. two_digits law (values_in (codes "07") (codes "D3") group) m k) e

claim_numbered : (o : Option Claim) (rejects : List Code) → ((c : Claim) → o ≡ Some c → c.fill.fill ≤ 99) → OrderNumbered (order_in (or_rejected (option_map Bills o) rejects))
claim_numbered None rejects f = tt
claim_numbered (Some c) rejects f = f c refl

reversal_numbered : (o : Option Rattle.claim_model.specs.Words.Reversal) (rejects : List Code) → OrderNumbered (order_in (or_rejected (option_map Reverses o) rejects))
reversal_numbered None rejects = tt
reversal_numbered (Some v) rejects = tt

order_numbered : NumbersInRange → (h : RequestHeader) (shared group : List SegmentParts) → OrderNumbered (order_in (order_of h shared group))
unfolding order_of claim_order reversal_order
order_numbered law h shared group = by_code (transaction_code h.code)
  where
    by_code : (o : Option TransactionCode) → OrderNumbered (order_in (order_as o h shared group))
    by_code (Some transaction.Billing) = claim_numbered (claim_of h (claim_fields h shared group)) (claim_codes (claim_fields h shared group)) (λ c e. claim_fill law h shared group c e)
    by_code (Some transaction.Reversal) = reversal_numbered (reversal_of h (reversal_fields h group)) (reversal_codes (reversal_fields h group))
    by_code None = tt

pub orders_numbered : NumbersInRange → (o : Option (TransmissionParts RequestHeader)) → AllByRecursion OrderNumbered (orders_in o)
orders_numbered law None = tt
orders_numbered law (Some t) = each t.groups
  where
    each : (groups : List (List SegmentParts)) → AllByRecursion OrderNumbered (map (λ group. order_in (order_of t.header t.shared group)) groups)
    each [] = tt
    each (g ∷ groups) = (order_numbered law t.header t.shared g, each groups)
