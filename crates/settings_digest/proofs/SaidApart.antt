-- What settings say tells the settings.
use Rattle.std.proofs.Common.{◌≡◌, ℕ, zero, suc, ◌≤◌, Bool, true, false, List, [], ◌++◌, Option, Some, None, refl, sym, ap, ◌∙◌, arith, append_assoc}
use Rattle.bin_routes.specs.Providers.{Providers}
use Rattle.bin_routes.specs.Row.{Row}
use Rattle.claim_model.specs.Journal.{PharmacySettings}
use Rattle.claim_model.specs.Settings.{PayerSettings}
use Rattle.world_settings.specs.Document.{Document}
use Rattle.kept_logs.specs.Fields.{text_of}
use Rattle.settings_digest.specs.Said.{number_text, pharmacy_text, price_text, zeros_text, zeros, serial_text, payer_text, key_text, ended_text, providers_text, route_text, said}
use Rattle.settings_digest.specs.Fits.{FitsPharmacy, FitsPrice, FitsSerial, FitsPayer, FitsPcn, FitsProviders, FitsRange, FitsLast, FitsRoute, FitsDocument}
use Rattle.settings_digest.proofs.Apart.{Apart, number_apart, text_apart, both, by_parts, listed}

abbrev PharmacyParts : Type 0
PharmacyParts = (List ℕ × List ℕ) × (List ℕ × (ℕ × (ℕ × ℕ)))

abbrev pharmacy_of : PharmacyParts → PharmacySettings
pharmacy_of p = record { qualifier = p.0.0; provider = p.0.1; nodes = p.1.0; again = p.1.1.0; tries = p.1.1.1.0; cap = p.1.1.1.1 }

pharmacy_apart : Apart FitsPharmacy pharmacy_text
unfolding pharmacy_text
pharmacy_apart =
    by_parts (λ (p : PharmacySettings). ((p.qualifier, p.provider), (p.nodes, (p.again, (p.tries, p.cap))))) pharmacy_of (λ p. refl)
    (both (both text_apart text_apart) (both (listed number_apart) (both number_apart (both number_apart number_apart))))

price_apart : Apart FitsPrice price_text
price_apart = both text_apart number_apart

-- zeros, and then a first serial number, which is none
zeros_tell : (j k m n : ℕ) (r s : List ℕ) → FitsSerial m → FitsSerial n → zeros_text j m ++ r ≡ zeros_text k n ++ s → (j ≡ k) × (m ≡ n) × (r ≡ s)
zeros_tell zero zero m n r s u v h =
    let t = number_apart.tells m n r s u.1 v.1 h in
    (refl, t.0, t.1)
zeros_tell zero (suc k) m n r s u v h =
    let t = number_apart.tells m 0 r (zeros_text k n ++ s) u.1 (omega arith) (h ∙ append_assoc (number_text 0) (zeros_text k n) s) in
    let least = u.0 in
    absurd (omega (arith, t.0, least))
zeros_tell (suc j) zero m n r s u v h =
    let t = number_apart.tells 0 n (zeros_text j m ++ r) s (omega arith) v.1 (sym (append_assoc (number_text 0) (zeros_text j m) r) ∙ h) in
    let least = v.0 in
    absurd (omega (arith, t.0, least))
zeros_tell (suc j) (suc k) m n r s u v h =
    let t = number_apart.tells 0 0 (zeros_text j m ++ r) (zeros_text k n ++ s) (omega arith) (omega arith)
    (sym (append_assoc (number_text 0) (zeros_text j m) r) ∙ (h ∙ append_assoc (number_text 0) (zeros_text k n) s)) in
    let more = zeros_tell j k m n r s u v t.1 in
    (ap suc more.0, more.1, more.2)

abbrev Flags : Type 0
Flags = Bool × (Bool × Bool)

-- the zeros tell whether a payer asks
abbrev asking_of : ℕ → Flags
asking_of zero = (false, (false, false))
asking_of (suc zero) = (true, (false, false))
asking_of (suc (suc zero)) = (false, (true, false))
asking_of (suc (suc (suc zero))) = (true, (true, false))
asking_of (suc (suc (suc (suc zero)))) = (false, (false, true))
asking_of (suc (suc (suc (suc (suc zero))))) = (true, (false, true))
asking_of (suc (suc (suc (suc (suc (suc zero)))))) = (false, (true, true))
asking_of (suc (suc (suc (suc (suc (suc (suc k))))))) = (true, (true, true))

asking_is : (x : Flags) → asking_of (zeros x.0 x.1.0 x.1.1) ≡ x
asking_is (false, (false, false)) = refl
asking_is (true, (false, false)) = refl
asking_is (false, (true, false)) = refl
asking_is (true, (true, false)) = refl
asking_is (false, (false, true)) = refl
asking_is (true, (false, true)) = refl
asking_is (false, (true, true)) = refl
asking_is (true, (true, true)) = refl

abbrev SerialParts : Type 0
SerialParts = Flags × ℕ

abbrev serial_of : SerialParts → List ℕ
serial_of x = serial_text x.0.0 x.0.1.0 x.0.1.1 x.1

serial_tells : (x y : SerialParts) (r s : List ℕ) → FitsSerial x.1 → FitsSerial y.1 → serial_of x ++ r ≡ serial_of y ++ s → (x ≡ y) × (r ≡ s)
serial_tells x y r s u v h =
    let t = zeros_tell (zeros x.0.0 x.0.1.0 x.0.1.1) (zeros y.0.0 y.0.1.0 y.0.1.1) x.1 y.1 r s u v h in
    let asks : x.0 ≡ y.0 = sym (asking_is x.0) ∙ (ap asking_of t.0 ∙ asking_is y.0) in
    let serial : x.1 ≡ y.1 = t.1 in
    ((λ i. (asks i, serial i)), t.2)

serial_apart : Apart {A = SerialParts} (λ x. FitsSerial x.1) serial_of
serial_apart = record { tells = serial_tells }

abbrev PayerParts : Type 0
PayerParts = (SerialParts × ℕ) × (ℕ × (ℕ × List (List ℕ × ℕ)))

abbrev payer_of : PayerParts → PayerSettings
payer_of p = record { book = record { serial = p.0.0.1; cap = p.0.1; asks = p.0.0.0.0; reversals = p.0.0.0.1.0; carries = p.0.0.0.1.1 }; plan = record { fee = p.1.0; copay = p.1.1.0; prices = p.1.1.1 } }

payer_apart : Apart FitsPayer payer_text
unfolding payer_text
payer_apart =
    by_parts (λ (p : PayerSettings). ((((p.book.asks, (p.book.reversals, p.book.carries)), p.book.serial), p.book.cap), (p.plan.fee, (p.plan.copay, p.plan.prices)))) payer_of (λ p. refl)
    (both (both serial_apart number_apart) (both number_apart (both number_apart (listed price_apart))))

-- ---- a route

abbrev providers_of : List ℕ × (List ℕ × List ℕ) → Providers
providers_of p = record { qualifier = p.0; first = p.1.0; last = p.1.1 }

providers_apart : Apart FitsProviders providers_text
providers_apart = by_parts (λ (p : Providers). (p.qualifier, (p.first, p.last))) providers_of (λ p. refl) (both text_apart (both text_apart text_apart))

abbrev Key : Type 0
Key = Option (List ℕ) × Option Providers

-- which of the four kinds a key is, and what stands after the number that says it
abbrev kind : Key → ℕ
kind (None, None) = 0
kind (Some pcn, None) = 1
kind (None, Some p) = 2
kind (Some pcn, Some p) = 3

abbrev body : Key → List ℕ
body (None, None) = []
body (Some pcn, None) = text_of pcn
body (None, Some p) = providers_text p
body (Some pcn, Some p) = text_of pcn ++ providers_text p

few_kinds : (k : Key) → kind k ≤ 3
few_kinds (None, None) = omega arith
few_kinds (Some pcn, None) = omega arith
few_kinds (None, Some p) = omega arith
few_kinds (Some pcn, Some p) = omega arith

key_is : (k : Key) (r : List ℕ) → key_text k.0 k.1 ++ r ≡ number_text (kind k) ++ (body k ++ r)
key_is (None, None) r = refl
key_is (Some pcn, None) r = append_assoc (number_text 1) (text_of pcn) r
key_is (None, Some p) r = append_assoc (number_text 2) (providers_text p) r
key_is (Some pcn, Some p) r =
    ap (λ (t : List ℕ). t ++ r) (append_assoc (number_text 3) (text_of pcn) (providers_text p)) ∙ append_assoc (number_text 3) (text_of pcn ++ providers_text p) r

abbrev FitsKey : Key → Type 0
FitsKey k = FitsPcn k.0 × FitsRange k.1

-- keys of one kind
same_kind : (x y : Key) (r s : List ℕ) → FitsKey x → FitsKey y → kind x ≡ kind y → body x ++ r ≡ body y ++ s → (x ≡ y) × (r ≡ s)
same_kind (None, None) (None, None) r s u v e h = (refl, h)
same_kind (None, None) (Some b, None) r s u v e h = absurd (omega (arith, e))
same_kind (None, None) (None, Some q) r s u v e h = absurd (omega (arith, e))
same_kind (None, None) (Some b, Some q) r s u v e h = absurd (omega (arith, e))
same_kind (Some a, None) (None, None) r s u v e h = absurd (omega (arith, e))
same_kind (Some a, None) (Some b, None) r s u v e h =
    let t = text_apart.tells a b r s u.0 v.0 h in
    (ap (λ (x : List ℕ). (Some x, None)) t.0, t.1)
same_kind (Some a, None) (None, Some q) r s u v e h = absurd (omega (arith, e))
same_kind (Some a, None) (Some b, Some q) r s u v e h = absurd (omega (arith, e))
same_kind (None, Some p) (None, None) r s u v e h = absurd (omega (arith, e))
same_kind (None, Some p) (Some b, None) r s u v e h = absurd (omega (arith, e))
same_kind (None, Some p) (None, Some q) r s u v e h =
    let t = providers_apart.tells p q r s u.1 v.1 h in
    (ap (λ (x : Providers). (None, Some x)) t.0, t.1)
same_kind (None, Some p) (Some b, Some q) r s u v e h = absurd (omega (arith, e))
same_kind (Some a, Some p) (None, None) r s u v e h = absurd (omega (arith, e))
same_kind (Some a, Some p) (Some b, None) r s u v e h = absurd (omega (arith, e))
same_kind (Some a, Some p) (None, Some q) r s u v e h = absurd (omega (arith, e))
same_kind (Some a, Some p) (Some b, Some q) r s u v e h =
    let t = (both text_apart providers_apart).tells (a, p) (b, q) r s (u.0, u.1) (v.0, v.1) h in
    (ap (λ (x : List ℕ × Providers). (Some x.0, Some x.1)) t.0, t.1)

key_tells : (x y : Key) (r s : List ℕ) → FitsKey x → FitsKey y → key_text x.0 x.1 ++ r ≡ key_text y.0 y.1 ++ s → (x ≡ y) × (r ≡ s)
key_tells x y r s u v h =
    let few = few_kinds x in
    let few_too = few_kinds y in
    let n = number_apart.tells (kind x) (kind y) (body x ++ r) (body y ++ s) (omega (arith, few)) (omega (arith, few_too)) (sym (key_is x r) ∙ (h ∙ key_is y s)) in
    same_kind x y r s u v n.0 n.1

key_apart : Apart {A = Key} FitsKey (λ k. key_text k.0 k.1)
key_apart = record { tells = key_tells }

-- a key, after the last number that stays rejected, where the route leads to no payer
abbrev Ended : Type 0
Ended = Option ℕ × Key

abbrev FitsEnded : Ended → Type 0
FitsEnded e = FitsLast e.0 × FitsKey e.1

abbrev text_ended : Ended → List ℕ
text_ended e = ended_text e.0 e.1.0 e.1.1

-- 4 and a last number, before a key
after_four : (last : ℕ) (k : Key) (r : List ℕ) → text_ended (Some last, k) ++ r ≡ number_text 4 ++ (number_text last ++ (key_text k.0 k.1 ++ r))
after_four last k r =
    append_assoc (number_text 4) (number_text last ++ key_text k.0 k.1) r ∙ ap (λ (t : List ℕ). number_text 4 ++ t) (append_assoc (number_text last) (key_text k.0 k.1) r)

-- no key begins with 4
no_four : (k : Key) (r s : List ℕ) → key_text k.0 k.1 ++ r ≡ number_text 4 ++ s → ⊥
no_four k r s h =
    let few = few_kinds k in
    let n = number_apart.tells (kind k) 4 (body k ++ r) s (omega (arith, few)) (omega arith) (sym (key_is k r) ∙ h) in
    let is : kind k ≡ 4 = n.0 in
    omega (arith, few, is)

ended_tells : (x y : Ended) (r s : List ℕ) → FitsEnded x → FitsEnded y → text_ended x ++ r ≡ text_ended y ++ s → (x ≡ y) × (r ≡ s)
ended_tells (None, k) (None, l) r s u v h =
    let t = key_tells k l r s u.1 v.1 h in
    (ap (λ (z : Key). (None, z)) t.0, t.1)
ended_tells (None, k) (Some n, l) r s u v h = absurd (no_four k r (number_text n ++ (key_text l.0 l.1 ++ s)) (h ∙ after_four n l s))
ended_tells (Some m, k) (None, l) r s u v h = absurd (no_four l s (number_text m ++ (key_text k.0 k.1 ++ r)) (sym h ∙ after_four m k r))
ended_tells (Some m, k) (Some n, l) r s u v h =
    let four = number_apart.tells 4 4 (number_text m ++ (key_text k.0 k.1 ++ r)) (number_text n ++ (key_text l.0 l.1 ++ s)) (omega arith) (omega arith) (sym (after_four m k r) ∙ (h ∙ after_four n l s)) in
    let last = number_apart.tells m n (key_text k.0 k.1 ++ r) (key_text l.0 l.1 ++ s) u.0 v.0 four.1 in
    let key = key_tells k l r s u.1 v.1 last.1 in
    (ap (λ (j : ℕ). (Some j, k)) last.0 ∙ ap (λ (z : Key). (Some n, z)) key.0, key.1)

ended_apart : Apart FitsEnded text_ended
ended_apart = record { tells = ended_tells }

abbrev route_of : List ℕ × (Ended × ℕ) → Row
route_of p = record { bin = p.0; pcn = p.1.0.1.0; providers = p.1.0.1.1; payer = p.1.1; rejected = p.1.0.0 }

route_apart : Apart FitsRoute route_text
unfolding route_text
route_apart = by_parts (λ (r : Row). (r.bin, ((r.rejected, (r.pcn, r.providers)), r.payer))) route_of (λ r. refl) (both text_apart (both ended_apart number_apart))

abbrev DocumentParts : Type 0
DocumentParts = List PharmacySettings × (List ℕ × (List PayerSettings × List Row))

abbrev document_of : DocumentParts → Document
document_of p = record { world = record { pharmacies = p.0; switches = p.1.0; payers = p.1.1.0 }; routes = p.1.1.1 }

said_apart : Apart FitsDocument said
unfolding said
said_apart =
    by_parts (λ (d : Document). (d.world.pharmacies, (d.world.switches, (d.world.payers, d.routes)))) document_of (λ d. refl)
    (both (listed pharmacy_apart) (both (listed number_apart) (both (listed payer_apart) (listed route_apart))))

pub said_tells : (d e : Document) → FitsDocument d → FitsDocument e → said d ≡ said e → d ≡ e
said_tells d e f g h = (said_apart.tells d e [] [] f g (ap (λ (t : List ℕ). t ++ []) h)).0
