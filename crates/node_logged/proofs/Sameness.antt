-- Settings whose parts are the same.
use Rattle.std.proofs.Common.{◌≡◌, ℕ, zero, suc, ◌+◌, List, [], ◌∷◌, take, slice_get, Some, refl, ap, arith, subst}
use Rattle.bin_routes.specs.Providers.{Providers}
use Rattle.bin_routes.specs.Row.{Row}
use Rattle.plan_rules.specs.Terms.{Terms}
use Rattle.claim_model.specs.Journal.{PharmacySettings}
use Rattle.world_setup.specs.declared.settings.PayerSettings.{PayerSettings}

pub same_pharmacy : (a b : PharmacySettings) → a.qualifier ≡ b.qualifier → a.provider ≡ b.provider → a.nodes ≡ b.nodes → a.again ≡ b.again → a.tries ≡ b.tries → a.cap ≡ b.cap → a ≡ b
same_pharmacy a b q p n g t c = λ i. record { qualifier = q i; provider = p i; nodes = n i; again = g i; tries = t i; cap = c i }

pub same_plan : (a b : Terms) → a.fee ≡ b.fee → a.copay ≡ b.copay → a.prices ≡ b.prices → a ≡ b
same_plan a b f c p = λ i. record { fee = f i; copay = c i; prices = p i }

pub same_payer : (a b : PayerSettings) → a.book.serial ≡ b.book.serial → a.book.cap ≡ b.book.cap → a.book.asks ≡ b.book.asks → a.book.reversals ≡ b.book.reversals → a.book.carries ≡ b.book.carries → a.plan ≡ b.plan → a ≡ b
same_payer a b s c k v w p = λ i. record { book = record { serial = s i; cap = c i; asks = k i; reversals = v i; carries = w i }; plan = p i; keys = tt }

pub same_row : (a b : Row) → a.bin ≡ b.bin → a.pcn ≡ b.pcn → a.providers ≡ b.providers → a.payer ≡ b.payer → a.rejected ≡ b.rejected → a ≡ b
same_row a b n p r y j = λ i. record { bin = n i; pcn = p i; providers = r i; payer = y i; rejected = j i }

pub same_range : (a b : Providers) → a.qualifier ≡ b.qualifier → a.first ≡ b.first → a.last ≡ b.last → Some a ≡ Some b
same_range a b q f l = λ i. Some (record { qualifier = q i; first = f i; last = l i })

-- lists that are the same up to a place, and there
alike_next : {A : Type 0} (xs ys : List A) (k : ℕ) → slice_get xs k ≡ slice_get ys k → take k xs ≡ take k ys → take (suc k) xs ≡ take (suc k) ys
alike_next [] [] k h t = refl
alike_next [] (y ∷ ys) zero h t = absurd cc
alike_next [] (y ∷ ys) (suc k) h t = absurd cc
alike_next (x ∷ xs) [] zero h t = absurd cc
alike_next (x ∷ xs) [] (suc k) h t = absurd cc
alike_next (x ∷ xs) (y ∷ ys) zero h t = let e : x ≡ y = cc in ap (λ z. z ∷ []) e
alike_next (x ∷ xs) (y ∷ ys) (suc k) h t =
    let e : x ≡ y = cc in
    let f : take k xs ≡ take k ys = cc in
    let g = alike_next xs ys k h f in
    λ i. e i ∷ g i

pub alike_more : {A : Type 0} (xs ys : List A) (k : ℕ) → slice_get xs k ≡ slice_get ys k → take k xs ≡ take k ys → take (k + 1) xs ≡ take (k + 1) ys
alike_more xs ys k h t = let n : suc k ≡ k + 1 = omega arith in subst (λ (m : ℕ). take m xs ≡ take m ys) n (alike_next xs ys k h t)
