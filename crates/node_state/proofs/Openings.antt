-- Where the nodes of an opening world come from.
use Rattle.std.proofs.Common.{◌≡◌, ℕ, zero, suc, ◌+◌, ◌-◌, ◌<◌, ◌≤◌, Bool, true, false, cond, not, List, [], ◌∷◌, length, map, Option, Some, None, Result, Ok, Err, IfOk, refl, ap, arith}
use Rattle.std.specs.Prelude.{◌&&◌, ◌||◌, nat_le, IsSome, option_map, if◌then◌else◌}
use Rattle.std.specs.List.{slice_get, list_all}
use Rattle.std.proofs.lemmas.Bool.{and_parts}
use Rattle.claim_model.specs.Numbered.{numbered}
use Rattle.claim_model.specs.Journal.{opening_rule, PharmacySettings}
use Rattle.claim_model.specs.Node.{Up}
use Rattle.claim_model.specs.Settings.{WorldSettings, SettingsFault, TooMany, NoNode, settings_fault, too_many, is_empty, is_switch, has_nodes, pharmacies_from, switches_of, payers_from}
use Rattle.claim_model.specs.Settings.{PayerSettings as Opened}
use Rattle.bin_routes.specs.Payer.{payer_number}
use Rattle.world_setup.specs.declared.settings.PayerSettings.{PayerSettings}
use Rattle.world_setup.specs.Seen.{payer_seen}
use Rattle.node_state.specs.Nodes.{has_node}

-- a number that a list has
pub there_within : {A : Type 0} (xs : List A) (n : ℕ) → IsSome (numbered xs n) → (0 < n) × (n ≤ length xs)
there_within xs zero there = absurd (cc)
there_within [] (suc k) there = absurd (cc)
there_within (x ∷ xs) (suc zero) there = (omega arith, omega arith)
there_within (x ∷ xs) (suc (suc k)) there =
    let rest = there_within xs (suc k) there in (omega arith, omega (arith, rest.1))

pub mapped_there : {A B : Type 0} (f : A → B) (o : Option A) → IsSome (option_map f o) → IsSome o
mapped_there f None there = there
mapped_there f (Some a) there = refl

pub length-pharmacies_from : (m : ℕ) (ss : List PharmacySettings) → length (pharmacies_from m ss) ≡ length ss
length-pharmacies_from m [] = refl
length-pharmacies_from m (s ∷ ss) = ap suc (length-pharmacies_from (m + 1) ss)

pub length-payers_from : (m : ℕ) (ps : List PayerSettings) → length (payers_from m (map payer_seen ps)) ≡ length ps
length-payers_from m [] = refl
length-payers_from m (p ∷ ps) = ap suc (length-payers_from (m + 1) ps)

pharmacy_from : (m k n : ℕ) (ss : List PharmacySettings) (s : PharmacySettings) → n ≡ m + k → slice_get ss k ≡ Some s → slice_get (pharmacies_from m ss) k ≡ Some (Up (record { number = n; settings = s; rule = opening_rule s; entries = [] }))
pharmacy_from m k n [] s same is = absurd (cc)
pharmacy_from m zero n (t ∷ ss) s same is =
    let e : n ≡ m = omega arith in
    let t-is : t ≡ s = cc in
    rw (e, t-is) refl
pharmacy_from m (suc k) n (t ∷ ss) s same is = pharmacy_from (m + 1) k n ss s (omega arith) is

-- the pharmacy of a number, from its settings at the place before
pub pharmacy_numbered : (n : ℕ) (ss : List PharmacySettings) (s : PharmacySettings) → 0 < n → slice_get ss (n - 1) ≡ Some s → numbered (pharmacies_from 1 ss) n ≡ Some (Up (record { number = n; settings = s; rule = opening_rule s; entries = [] }))
pharmacy_numbered zero ss s some is = absurd (omega arith)
pharmacy_numbered (suc k) ss s some is =
    let e : suc k - 1 ≡ k = omega arith in
    pharmacy_from 1 k (suc k) ss s (omega arith) (rw e at is)

switch_of : (k : ℕ) (caps : List ℕ) (cap : ℕ) → slice_get caps k ≡ Some cap → slice_get (switches_of caps) k ≡ Some (Up (record { cap = cap; entries = [] }))
switch_of k [] cap is = absurd (cc)
switch_of zero (c ∷ caps) cap is =
    let c-is : c ≡ cap = cc in rw c-is refl
switch_of (suc k) (c ∷ caps) cap is = switch_of k caps cap is

pub switch_numbered : (n : ℕ) (caps : List ℕ) (cap : ℕ) → 0 < n → slice_get caps (n - 1) ≡ Some cap → numbered (switches_of caps) n ≡ Some (Up (record { cap = cap; entries = [] }))
switch_numbered zero caps cap some is = absurd (omega arith)
switch_numbered (suc k) caps cap some is =
    let e : suc k - 1 ≡ k = omega arith in
    switch_of k caps cap (rw e at is)

payer_from : (m k n : ℕ) (ps : List PayerSettings) (p : PayerSettings) → n ≡ m + k → slice_get ps k ≡ Some p → slice_get (payers_from m (map payer_seen ps)) k ≡ Some (Up (record { payer = n; settings = p.book; plan = p.plan; rows = [] }))
payer_from m k n [] p same is = absurd (cc)
payer_from m zero n (q ∷ ps) p same is =
    let e : n ≡ m = omega arith in
    let q-is : q ≡ p = cc in
    rw (e, q-is) refl
payer_from m (suc k) n (q ∷ ps) p same is = payer_from (m + 1) k n ps p (omega arith) is

pub payer_numbered : (n : ℕ) (ps : List PayerSettings) (p : PayerSettings) → 0 < n → slice_get ps (n - 1) ≡ Some p → numbered (payers_from 1 (map payer_seen ps)) n ≡ Some (Up (record { payer = n; settings = p.book; plan = p.plan; rows = [] }))
payer_numbered zero ps p some is = absurd (omega arith)
payer_numbered (suc k) ps p some is =
    let e : suc k - 1 ≡ k = omega arith in
    payer_from 1 k (suc k) ps p (omega arith) (rw e at is)

-- what settings without a fault have
no_none : (a b c d e : Bool) (rest : Option SettingsFault) → cond a (Some TooMany) (cond (b || (c || (d || not e))) (Some NoNode) rest) ≡ None → e ≡ true
no_none true b c d e rest h = absurd (cc)
no_none false true c d e rest h = absurd (cc)
no_none false false true d e rest h = absurd (cc)
no_none false false false true e rest h = absurd (cc)
no_none false false false false true rest h = refl
no_none false false false false false rest h = absurd (cc)

pub all_have_nodes : (s : WorldSettings) → settings_fault s ≡ None → list_all (has_nodes (length s.switches)) s.pharmacies ≡ true
all_have_nodes s h =
    no_none (too_many s) (is_empty s.pharmacies) (is_empty s.switches) (is_empty s.payers) (list_all (has_nodes (length s.switches)) s.pharmacies) _ h

-- each pharmacy tries some switch
pub have_node : (switches : ℕ) (ss : List PharmacySettings) → list_all (has_nodes switches) ss ≡ true → list_all has_node ss ≡ true
have_node switches [] all = refl
have_node switches (s ∷ ss) all =
    let split = and_parts (has_nodes switches s) (list_all (has_nodes switches) ss) all in
    let first = and_parts (not (is_empty s.nodes)) (list_all (is_switch switches) s.nodes) split.0 in
    rw (first.0) (have_node switches ss split.1)

-- the payer of a number, from a copy of its settings
pub payer_opened : (n : ℕ) (ps : List PayerSettings) (p copy : PayerSettings) (payer : ℕ) → 0 < n → slice_get ps (n - 1) ≡ Some p → payer_seen copy ≡ payer_seen p → payer ≡ n → numbered (payers_from 1 (map payer_seen ps)) n ≡ Some (Up (record { payer = payer; settings = copy.book; plan = copy.plan; rows = [] }))
payer_opened n ps p copy payer some is same e =
    let book : copy.book ≡ p.book = ap (λ (s : Opened). s.book) same in
    let plan : copy.plan ≡ p.plan = ap (λ (s : Opened). s.plan) same in
    rw (e, book, plan) (payer_numbered n ps p some is)

picked : (test : Bool) (n p : ℕ) → Some p ≡ (if test then Some n else None) → p ≡ n
picked true n p is = cc
picked false n p is = absurd (cc)

pub payer_is : (n p : ℕ) → Some p ≡ payer_number n → p ≡ n
payer_is n p is = picked (nat_le 1 n && nat_le n 9999) n p is

-- what a call gives is what stands there
pub given_is : {A E : Type 0} (there : Option A) (a : A) (given : Result A E) → there ≡ Some a → IfOk given (λ r. r ≡ a) → IfOk given (λ r. there ≡ Some r)
given_is there a (Ok r) is same = rw same is
given_is there a (Err e) is same = tt
