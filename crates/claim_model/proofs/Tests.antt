-- What the tests on ids, authorizations, fills and texts decide.
use Rattle.std.proofs.Common.{◌≡◌, ℕ, Bool, true, false, ◌&&◌, ◌==◌, cond, List, Option, Some, None, refl, ap, ◌∙◌, eqb-true, eq-eqb, leb-true, length, ◌≤◌}
use Rattle.std.specs.Prelude.{bytes_eq, option_and_then, nat_le}
use Rattle.std.proofs.lemmas.Bool.{and_parts, and_from, false≢true, cond-true}
use Rattle.std.proofs.lemmas.Slice.Eq.{bytes_eq-Decides}
use Rattle.claim_model.specs.Words.{TxnId, Auth, Fill, RequestHeader}
use Rattle.claim_model.specs.Context.{Context}
use Rattle.claim_model.specs.Readable.{same_id, readable, if_carried, longest, has_version, has_code, is_payer}
use Rattle.claim_model.specs.Payments.{same_auth}
use Rattle.claim_model.specs.Judgement.{same_fill}

pub bytes_same : (a b : List ℕ) → bytes_eq a b ≡ true → a ≡ b
bytes_same a b = (bytes_eq-Decides a b).0

pub bytes_self : (a : List ℕ) → bytes_eq a a ≡ true
bytes_self a = (bytes_eq-Decides a a).1 refl

pub nat_same : (a b : ℕ) → (a == b) ≡ true → a ≡ b
nat_same a b h = eqb-true a b h

pub nat_self : (a : ℕ) → (a == a) ≡ true
nat_self a = eq-eqb a a refl

pub id_same : (a b : TxnId) → same_id a b ≡ true → a ≡ b
id_same a b h =
    let p = and_parts (a.pharmacy == b.pharmacy) (a.number == b.number) h in
    let e : a.pharmacy ≡ b.pharmacy = nat_same _ _ p.0 in
    let f : a.number ≡ b.number = nat_same _ _ p.1 in
    λ i. record { pharmacy = e i; number = f i }

pub id_self : (a : TxnId) → same_id a a ≡ true
id_self a = and_from _ _ (nat_self a.pharmacy) (nat_self a.number)

pub auth_same : (a b : Auth) → same_auth a b ≡ true → a ≡ b
auth_same a b h =
    let p = and_parts (a.payer == b.payer) (a.serial == b.serial) h in
    let e : a.payer ≡ b.payer = nat_same _ _ p.0 in
    let f : a.serial ≡ b.serial = nat_same _ _ p.1 in
    λ i. record { payer = e i; serial = f i }

pub auth_self : (a : Auth) → same_auth a a ≡ true
auth_self a = and_from _ _ (nat_self a.payer) (nat_self a.serial)

pub fill_same : (a b : Fill) → same_fill a b ≡ true → a ≡ b
fill_same a b h =
    let p = and_parts _ _ h in
    let q = and_parts _ _ p.1 in
    let r = and_parts _ _ q.1 in
    let s = and_parts _ _ r.1 in
    let t = and_parts _ _ s.1 in
    let e₁ : a.bin ≡ b.bin = bytes_same _ _ p.0 in
    let e₂ : a.pcn ≡ b.pcn = bytes_same _ _ q.0 in
    let e₃ : a.qualifier ≡ b.qualifier = bytes_same _ _ r.0 in
    let e₄ : a.provider ≡ b.provider = bytes_same _ _ s.0 in
    let e₅ : a.prescription ≡ b.prescription = nat_same _ _ t.0 in
    let e₆ : a.fill ≡ b.fill = nat_same _ _ t.1 in
    λ i. record { bin = e₁ i; pcn = e₂ i; qualifier = e₃ i; provider = e₄ i; prescription = e₅ i; fill = e₆ i }

pub fill_self : (a : Fill) → same_fill a a ≡ true
fill_self a =
    and_from _ _ (bytes_self a.bin) (and_from _ _ (bytes_self a.pcn) (and_from _ _ (bytes_self a.qualifier) (and_from _ _ (bytes_self a.provider)
    (and_from _ _ (nat_self a.prescription) (nat_self a.fill)))))

pub payer_same : (n : ℕ) (o : Option ℕ) → is_payer n o ≡ true → o ≡ Some n
payer_same n None h = absurd (false≢true h)
payer_same n (Some p) h = ap (λ (k : ℕ). Some k) (nat_same p n h)

pub payer_self : (n : ℕ) → is_payer n (Some n) ≡ true
payer_self n = nat_self n

-- what makes a request readable

pub carried_parts : (h g : RequestHeader) (b : Bool) → cond b (Some h) None ≡ Some g → (b ≡ true) × (h ≡ g)
carried_parts h g true e = (refl, cc)
carried_parts h g false e = absurd cc

pub carried_same : (o : Option RequestHeader) (h : RequestHeader) → option_and_then if_carried o ≡ Some h → o ≡ Some h
carried_same None h e = absurd cc
carried_same (Some g) h e = ap (λ (x : RequestHeader). Some x) (carried_parts g h (has_version g && has_code g) e).1

pub if_short_parts : (b : Bool) (o : Option RequestHeader) (h : RequestHeader) → cond b o None ≡ Some h → (b ≡ true) × (o ≡ Some h)
if_short_parts true o h e = (refl, e)
if_short_parts false o h e = absurd cc

-- a readable request is framed, and not too long
pub readable_parts : (ctx : Context) (text : List ℕ) (h : RequestHeader) → readable ctx text ≡ Some h → (length text ≤ longest) × (ctx.header text ≡ Some h)
unfolding readable
readable_parts ctx text h e =
    let p = if_short_parts (nat_le (length text) longest) (option_and_then if_carried (ctx.header text)) h e in
    (leb-true _ _ p.0, carried_same (ctx.header text) h p.1)

pub readable_from : (ctx : Context) (text : List ℕ) (h : RequestHeader) → ctx.header text ≡ Some h → has_version h ≡ true → has_code h ≡ true → nat_le (length text) longest ≡ true → readable ctx text ≡ Some h
unfolding readable
readable_from ctx text h e v c l =
    cond-true (nat_le (length text) longest) (option_and_then if_carried (ctx.header text)) None l
    ∙ (ap (option_and_then if_carried) e ∙ cond-true (has_version h && has_code h) (Some h) None (and_from _ _ v c))
