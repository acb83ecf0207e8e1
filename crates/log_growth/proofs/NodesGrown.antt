-- The comparison of nodes is exact.
use Rattle.std.proofs.Common.{◌≡◌, ◌↔◌, ℕ, ◌+◌, Bool, true, false, ◌&&◌, ◌==◌, cond, List, [], ◌∷◌, Option, Some, None, refl, sym, ap, ◌∙◌}
use mathlib.Core.Bool.{beq}
use Rattle.std.specs.Prelude.{nat_le, bytes_eq}
use Rattle.std.specs.Option.{option_or, option_map}
use Rattle.std.proofs.lemmas.Bool.{and_from, and_parts, le-leb, leb-true}
use Rattle.claim_model.specs.Journal.{PharmacySettings}
use Rattle.claim_model.specs.Settings.{PayerSettings, WorldSettings}
use Rattle.claim_model.proofs.Tests.{bytes_same, bytes_self, nat_same, nat_self}
use Rattle.settings_growth.specs.Growth.{PharmacyGrows, PayerGrows, Extends}
use Rattle.log_growth.specs.Compared.{pharmacy_grows, payer_grows, same_prices, first_other, node_ungrown, NodesGrow}
use Rattle.log_growth.specs.declared.ungrown.Ungrown.TheVariants as ungrown

-- lists

grown_if : (test : Bool) (rest : Option ℕ) (n : ℕ) → cond test rest (Some n) ≡ None → (test ≡ true) × (rest ≡ None)
grown_if true rest n e = (refl, e)
grown_if false rest n e = absurd cc

extends_from : {A : Type 0} (R : A → A → Type 0) (grows : A → A → Bool) → ((a b : A) → grows a b ≡ true → R a b) → (n : ℕ) (old new : List A) → first_other grows n old new ≡ None → Extends R old new
extends_from R grows to n [] new e = tt
extends_from R grows to n (a ∷ old) [] e = absurd cc
extends_from R grows to n (a ∷ old) (b ∷ new) e =
    let p = grown_if (grows a b) (first_other grows (n + 1) old new) n e in
    (to a b p.0, extends_from R grows to (n + 1) old new p.1)

none_other : {A : Type 0} (R : A → A → Type 0) (grows : A → A → Bool) → ((a b : A) → R a b → grows a b ≡ true) → (n : ℕ) (old new : List A) → Extends R old new → first_other grows n old new ≡ None
none_other R grows from n [] new e = refl
none_other R grows from n (a ∷ old) [] e = absurd e
none_other R grows from n (a ∷ old) (b ∷ new) e = ap (λ (t : Bool). cond t (first_other grows (n + 1) old new) (Some n)) (from a b e.0) ∙ none_other R grows from (n + 1) old new e.1

same_bytes : (a b : List ℕ) → b ≡ a → bytes_eq a b ≡ true
same_bytes a b e = ap (bytes_eq a) e ∙ bytes_self a

same_number : (a b : ℕ) → b ≡ a → (a == b) ≡ true
same_number a b e = ap (λ (n : ℕ). a == n) e ∙ nat_self a

-- pharmacies

pub pharmacy_to : (a b : PharmacySettings) → pharmacy_grows a b ≡ true → PharmacyGrows a b
pharmacy_to a b e =
    let q = and_parts (bytes_eq a.qualifier b.qualifier) _ e in
    let p = and_parts (bytes_eq a.provider b.provider) _ q.1 in
    let n = and_parts (bytes_eq a.nodes b.nodes) _ p.1 in
    let g = and_parts (a.again == b.again) _ n.1 in
    let t = and_parts (a.tries == b.tries) _ g.1 in
    let qualifier : b.qualifier ≡ a.qualifier = sym (bytes_same a.qualifier b.qualifier q.0) in
    let provider : b.provider ≡ a.provider = sym (bytes_same a.provider b.provider p.0) in
    let nodes : b.nodes ≡ a.nodes = sym (bytes_same a.nodes b.nodes n.0) in
    let again : b.again ≡ a.again = sym (nat_same a.again b.again g.0) in
    let tries : b.tries ≡ a.tries = sym (nat_same a.tries b.tries t.0) in
    record {
      same = λ i. record { qualifier = qualifier i; provider = provider i; nodes = nodes i; again = again i; tries = tries i; cap = b.cap };
      cap = leb-true a.cap b.cap t.1;
    }

pub pharmacy_from : (a b : PharmacySettings) → PharmacyGrows a b → pharmacy_grows a b ≡ true
pharmacy_from a b g =
    and_from (bytes_eq a.qualifier b.qualifier) _ (same_bytes a.qualifier b.qualifier (ap (λ (x : PharmacySettings). x.qualifier) g.same))
    (and_from (bytes_eq a.provider b.provider) _ (same_bytes a.provider b.provider (ap (λ (x : PharmacySettings). x.provider) g.same))
    (and_from (bytes_eq a.nodes b.nodes) _ (same_bytes a.nodes b.nodes (ap (λ (x : PharmacySettings). x.nodes) g.same))
    (and_from (a.again == b.again) _ (same_number a.again b.again (ap (λ (x : PharmacySettings). x.again) g.same))
    (and_from (a.tries == b.tries) _ (same_number a.tries b.tries (ap (λ (x : PharmacySettings). x.tries) g.same))
    (le-leb a.cap b.cap g.cap)))))

-- payers

prices_same : (a b : List (List ℕ × ℕ)) → same_prices a b ≡ true → b ≡ a
prices_same [] [] e = refl
prices_same [] (q ∷ b) e = absurd cc
prices_same (p ∷ a) [] e = absurd cc
prices_same (p ∷ a) (q ∷ b) e =
    let h = and_parts (bytes_eq p.0 q.0 && (p.1 == q.1)) (same_prices a b) e in
    let i = and_parts (bytes_eq p.0 q.0) (p.1 == q.1) h.0 in
    let product : q.0 ≡ p.0 = sym (bytes_same p.0 q.0 i.0) in
    let price : q.1 ≡ p.1 = sym (nat_same p.1 q.1 i.1) in
    λ j. (product j, price j) ∷ prices_same a b h.1 j

prices_self : (a : List (List ℕ × ℕ)) → same_prices a a ≡ true
prices_self [] = refl
prices_self (p ∷ a) = and_from (bytes_eq p.0 p.0 && (p.1 == p.1)) (same_prices a a) (and_from (bytes_eq p.0 p.0) (p.1 == p.1) (bytes_self p.0) (nat_self p.1)) (prices_self a)

asks_same : (a b : Bool) → beq a b ≡ true → a ≡ b
asks_same true true e = refl
asks_same true false e = absurd cc
asks_same false true e = absurd cc
asks_same false false e = refl

asks_self : (a b : Bool) → b ≡ a → beq a b ≡ true
asks_self true true e = refl
asks_self true false e = absurd cc
asks_self false true e = absurd cc
asks_self false false e = refl

pub payer_to : (a b : PayerSettings) → payer_grows a b ≡ true → PayerGrows a b
payer_to a b e =
    let s = and_parts (a.book.serial == b.book.serial) _ e in
    let k = and_parts (beq a.book.asks b.book.asks) _ s.1 in
    let v = and_parts (beq a.book.reversals b.book.reversals) _ k.1 in
    let w = and_parts (beq a.book.carries b.book.carries) _ v.1 in
    let c = and_parts (nat_le a.book.cap b.book.cap) _ w.1 in
    let f = and_parts (a.plan.fee == b.plan.fee) _ c.1 in
    let p = and_parts (a.plan.copay == b.plan.copay) _ f.1 in
    let serial : b.book.serial ≡ a.book.serial = sym (nat_same a.book.serial b.book.serial s.0) in
    let asks : b.book.asks ≡ a.book.asks = sym (asks_same a.book.asks b.book.asks k.0) in
    let reversals : b.book.reversals ≡ a.book.reversals = sym (asks_same a.book.reversals b.book.reversals v.0) in
    let carries : b.book.carries ≡ a.book.carries = sym (asks_same a.book.carries b.book.carries w.0) in
    let fee : b.plan.fee ≡ a.plan.fee = sym (nat_same a.plan.fee b.plan.fee f.0) in
    let copay : b.plan.copay ≡ a.plan.copay = sym (nat_same a.plan.copay b.plan.copay p.0) in
    let prices : b.plan.prices ≡ a.plan.prices = prices_same a.plan.prices b.plan.prices p.1 in
    record {
      same = λ i. record { book = record { serial = serial i; cap = b.book.cap; asks = asks i; reversals = reversals i; carries = carries i }; plan = record { fee = fee i; copay = copay i; prices = prices i } };
      cap = leb-true a.book.cap b.book.cap c.0;
    }

pub payer_from : (a b : PayerSettings) → PayerGrows a b → payer_grows a b ≡ true
payer_from a b g =
    and_from (a.book.serial == b.book.serial) _ (same_number a.book.serial b.book.serial (ap (λ (x : PayerSettings). x.book.serial) g.same))
    (and_from (beq a.book.asks b.book.asks) _ (asks_self a.book.asks b.book.asks (ap (λ (x : PayerSettings). x.book.asks) g.same))
    (and_from (beq a.book.reversals b.book.reversals) _ (asks_self a.book.reversals b.book.reversals (ap (λ (x : PayerSettings). x.book.reversals) g.same))
    (and_from (beq a.book.carries b.book.carries) _ (asks_self a.book.carries b.book.carries (ap (λ (x : PayerSettings). x.book.carries) g.same))
    (and_from (nat_le a.book.cap b.book.cap) _ (le-leb a.book.cap b.book.cap g.cap)
    (and_from (a.plan.fee == b.plan.fee) _ (same_number a.plan.fee b.plan.fee (ap (λ (x : PayerSettings). x.plan.fee) g.same))
    (and_from (a.plan.copay == b.plan.copay) _ (same_number a.plan.copay b.plan.copay (ap (λ (x : PayerSettings). x.plan.copay) g.same))
    (ap (same_prices a.plan.prices) (ap (λ (x : PayerSettings). x.plan.prices) g.same) ∙ prices_self a.plan.prices)))))))

-- all nodes

pub neither : {A : Type 0} (a b : Option A) → option_or a b ≡ None → (a ≡ None) × (b ≡ None)
neither {A = A} None b e = (refl, e)
neither {A = A} (Some x) b e = absurd cc

pub none_mapped : {A B : Type 0} (f : A → B) (o : Option A) → option_map f o ≡ None → o ≡ None
none_mapped {A = A} {B = B} f None e = refl
none_mapped {A = A} {B = B} f (Some x) e = absurd cc

pub nodes_grow : (old new : WorldSettings) → node_ungrown old new ≡ None → NodesGrow old new
nodes_grow old new e =
    let p = neither (option_map ungrown.Pharmacy (first_other pharmacy_grows 1 old.pharmacies new.pharmacies)) _ e in
    let s = neither (option_map ungrown.Switch (first_other (λ (a b : ℕ). a == b) 1 old.switches new.switches)) _ p.1 in
    record {
      pharmacies = extends_from PharmacyGrows pharmacy_grows pharmacy_to 1 old.pharmacies new.pharmacies (none_mapped ungrown.Pharmacy _ p.0);
      switches = extends_from (λ (a b : ℕ). b ≡ a) (λ (a b : ℕ). a == b) (λ a b t. sym (nat_same a b t)) 1 old.switches new.switches (none_mapped ungrown.Switch _ s.0);
      payers = extends_from PayerGrows payer_grows payer_to 1 old.payers new.payers (none_mapped ungrown.Payer _ s.1);
    }

pub none_ungrown : (old new : WorldSettings) → NodesGrow old new → node_ungrown old new ≡ None
none_ungrown old new g =
    let pharmacies = none_other PharmacyGrows pharmacy_grows pharmacy_from 1 old.pharmacies new.pharmacies g.pharmacies in
    let switches = none_other (λ (a b : ℕ). b ≡ a) (λ (a b : ℕ). a == b) same_number 1 old.switches new.switches g.switches in
    let payers = none_other PayerGrows payer_grows payer_from 1 old.payers new.payers g.payers in
    λ i. option_or (option_map ungrown.Pharmacy (pharmacies i)) (option_or (option_map ungrown.Switch (switches i)) (option_map ungrown.Payer (payers i)))

pub exact : (old new : WorldSettings) → (node_ungrown old new ≡ None) ↔ NodesGrow old new
exact old new = (nodes_grow old new, none_ungrown old new)
