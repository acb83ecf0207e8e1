-- Growth upon growth is growth.
use Rattle.std.proofs.Common.{◌≡◌, ℕ, zero, suc, List, [], ◌∷◌, Some, slice_get, refl, ap, ◌∙◌, subst, arith}
use Rattle.claim_model.specs.Context.{Context}
use Rattle.claim_model.specs.Numbered.{numbered}
use Rattle.claim_model.specs.Journal.{PharmacySettings}
use Rattle.claim_model.specs.Settings.{PayerSettings, WorldSettings}
use Rattle.claim_model.proofs.Options.{same_some}
use Rattle.settings_growth.specs.Growth.{PharmacyGrows, PayerGrows, Extends, Grows, GrowsFor, IsOfPharmacy}

extends_on : {A : Type 0} (R : A → A → Type 0) → ((a b c : A) → R a b → R b c → R a c) → (xs ys zs : List A) → Extends R xs ys → Extends R ys zs → Extends R xs zs
extends_on R on [] ys zs a b = tt
extends_on R on (x ∷ xs) [] zs a b = absurd a
extends_on R on (x ∷ xs) (y ∷ ys) [] a b = absurd b
extends_on R on (x ∷ xs) (y ∷ ys) (z ∷ zs) a b = (on x y z a.0 b.0, extends_on R on xs ys zs a.1 b.1)

extends_itself : {A : Type 0} (R : A → A → Type 0) → ((a : A) → R a a) → (xs : List A) → Extends R xs xs
extends_itself R itself [] = tt
extends_itself R itself (x ∷ xs) = (itself x, extends_itself R itself xs)

pharmacy_on : (a b c : PharmacySettings) → PharmacyGrows a b → PharmacyGrows b c → PharmacyGrows a c
pharmacy_on a b c f g = record { same = g.same ∙ ap (λ (x : PharmacySettings). record x { cap = c.cap }) f.same; cap = let l = f.cap in let m = g.cap in omega arith }

payer_on : (a b c : PayerSettings) → PayerGrows a b → PayerGrows b c → PayerGrows a c
payer_on a b c f g =
    record { same = g.same ∙ ap (λ (x : PayerSettings). record x { book = record x.book { cap = c.book.cap } }) f.same; cap = let l = f.cap in let m = g.cap in omega arith }

pub grows_on : (ctx wider widest : Context) (s t u : WorldSettings) → Grows ctx wider s t → Grows wider widest t u → Grows ctx widest s u
grows_on ctx wider widest s t u f g =
    record {
      widens = record {
        reading = g.widens.reading ∙ ap (λ (x : Context). record x { route = widest.route; switches = widest.switches }) f.widens.reading;
        switches = let l = f.widens.switches in let m = g.widens.switches in omega arith;
        routes = λ number key payer e. g.widens.routes number key payer (f.widens.routes number key payer e);
      };
      pharmacies = extends_on PharmacyGrows pharmacy_on s.pharmacies t.pharmacies u.pharmacies f.pharmacies g.pharmacies;
      switches = extends_on (λ (a b : ℕ). b ≡ a) (λ a b c e h. h ∙ e) s.switches t.switches u.switches f.switches g.switches;
      payers = extends_on PayerGrows payer_on s.payers t.payers u.payers f.payers g.payers;
    }

pub grows_itself : (ctx : Context) (s : WorldSettings) → Grows ctx ctx s s
grows_itself ctx s =
    record {
      widens = record { reading = refl; switches = omega arith; routes = λ number key payer e. e };
      pharmacies = extends_itself PharmacyGrows (λ a. record { same = refl; cap = omega arith }) s.pharmacies;
      switches = extends_itself (λ (a b : ℕ). b ≡ a) (λ a. refl) s.switches;
      payers = extends_itself PayerGrows (λ a. record { same = refl; cap = omega arith }) s.payers;
    }

pub for_all : (ctx wider : Context) (s t : WorldSettings) → Grows ctx wider s t → GrowsFor ctx wider s t
for_all ctx wider s t g =
    record {
      widens = record { reading = g.widens.reading; switches = g.widens.switches; routes = λ number key payer own e. g.widens.routes number key payer e };
      nodes = record { pharmacies = g.pharmacies; switches = g.switches; payers = g.payers };
    }

-- an old pharmacy is one of the grown settings too, with the same provider

extends_at : {A : Type 0} (R : A → A → Type 0) (xs ys : List A) (k : ℕ) (a : A) → Extends R xs ys → slice_get xs k ≡ Some a → (b : A) × (slice_get ys k ≡ Some b) × R a b
extends_at R [] ys k a g e = absurd cc
extends_at R (x ∷ xs) [] k a g e = absurd g
extends_at {A = A} R (x ∷ xs) (y ∷ ys) zero a g e = (y, refl, subst (λ (z : A). R z y) (same_some x a e) g.0)
extends_at R (x ∷ xs) (y ∷ ys) (suc k) a g e = extends_at R xs ys k a g.1 e

numbered_on : {A : Type 0} (R : A → A → Type 0) (xs ys : List A) (n : ℕ) (a : A) → Extends R xs ys → numbered xs n ≡ Some a → (b : A) × (numbered ys n ≡ Some b) × R a b
numbered_on R xs ys zero a g e = absurd cc
numbered_on R xs ys (suc k) a g e = extends_at R xs ys k a g e

of_pharmacy_on : (s t : WorldSettings) (qualifier provider : List ℕ) → Extends PharmacyGrows s.pharmacies t.pharmacies → IsOfPharmacy s qualifier provider → IsOfPharmacy t qualifier provider
of_pharmacy_on s t qualifier provider g p =
    let b = numbered_on PharmacyGrows s.pharmacies t.pharmacies p.number p.pharmacy g p.at in
    record {
      number = p.number;
      pharmacy = b.0;
      at = b.1;
      qualifier_is = ap (λ (x : PharmacySettings). x.qualifier) b.2.same ∙ p.qualifier_is;
      provider_is = ap (λ (x : PharmacySettings). x.provider) b.2.same ∙ p.provider_is;
    }

pub for_twice : (ctx wider widest : Context) (s t u : WorldSettings) → GrowsFor ctx wider s t → GrowsFor wider widest t u → GrowsFor ctx widest s u
for_twice ctx wider widest s t u f g =
    record {
      widens = record {
        reading = g.widens.reading ∙ ap (λ (x : Context). record x { route = widest.route; switches = widest.switches }) f.widens.reading;
        switches = let l = f.widens.switches in let m = g.widens.switches in omega arith;
        routes = λ number key payer own e. g.widens.routes number key payer (of_pharmacy_on s t key.qualifier key.provider f.nodes.pharmacies own) (f.widens.routes number key payer own e);
      };
      nodes = record {
        pharmacies = extends_on PharmacyGrows pharmacy_on s.pharmacies t.pharmacies u.pharmacies f.nodes.pharmacies g.nodes.pharmacies;
        switches = extends_on (λ (a b : ℕ). b ≡ a) (λ a b c e h. h ∙ e) s.switches t.switches u.switches f.nodes.switches g.nodes.switches;
        payers = extends_on PayerGrows payer_on s.payers t.payers u.payers f.nodes.payers g.nodes.payers;
      };
    }
