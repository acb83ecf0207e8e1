-- One log for each node: by tests over logs, and as a fact.
use Rattle.std.proofs.Common.{◌≡◌, ℕ, zero, suc, ◌+◌, ◌-◌, ◌<◌, Bool, true, false, not, ◌||◌, cond, List, [], ◌∷◌, length, Some, slice_get, refl, sym, ap, ◌∙◌, subst, inl, inr, arith, ltb-true, ltb-false}
use Rattle.std.specs.Prelude.{nat_lt}
use Rattle.std.proofs.lemmas.Bool.{and_from, or_right, both_ways, cond-true, cond-false, lt-ltb, le-ltb}
use Rattle.claim_model.specs.Node.{Node, Pharmacy, Switch, Payer}
use Rattle.claim_model.specs.Numbered.{numbered}
use Rattle.world_setup.specs.Seen.{settings_seen}
use Rattle.world_setup.specs.declared.settings.WorldSettings.{WorldSettings as Given}
use Rattle.claim_model.specs.Nodes.{same_node}
use Rattle.claim_model.specs.Logs.{NodeLog}
use Rattle.claim_model.specs.Interleavings.{HasLog}
use Rattle.claim_model.proofs.Names.{same_self}
use Rattle.node_log.specs.ExistingNodes.{is_numbered, is_there}
use Rattle.run_merge.specs.Naming.{name_at, has_log, all_distinct}
use Rattle.run_merge.specs.Merged.{EachHasLog}
use Rattle.run_merge.proofs.Names.{name_cases}
use Rattle.node_log.proofs.Opens.{pharmacy_there, switch_there, payer_there}
use Rattle.run_merge.proofs.Lines.{same_log, first_distinct}

-- the log of a node

pub log_known : (logs : List NodeLog) (k : ℕ) (log : NodeLog) (node : Node) → slice_get logs k ≡ Some log → log.node ≡ node → has_log node logs ≡ true
log_known [] k log node e s = absurd cc
log_known (l ∷ logs) zero log node e s =
    let t : same_node l.node node ≡ true = ap (λ (x : NodeLog). same_node x.node node) (same_log l log e) ∙ (ap (λ (x : Node). same_node x node) s ∙ same_self node) in
    ap (λ (b : Bool). b || has_log node logs) t
log_known (l ∷ logs) (suc k) log node e s = or_right (same_node l.node node) (has_log node logs) (log_known logs k log node e s)

pub log_at : (node : Node) (logs : List NodeLog) → has_log node logs ≡ true → HasLog logs node
log_at node [] h = absurd cc
log_at node (l ∷ logs) h = elim (name_cases l.node node) [
  | inl s ↦ record { number = 1; log = l; at = refl; names = s.0 }
  | inr d ↦ behind (log_at node logs (sym (ap (λ (b : Bool). b || has_log node logs) d) ∙ h))
]
  where
    behind : HasLog logs node → HasLog (l ∷ logs) node
    behind f = further f.number f.log f.at f.names
      where
        further : (n : ℕ) (log : NodeLog) → numbered logs n ≡ Some log → log.node ≡ node → HasLog (l ∷ logs) node
        further zero log e s = absurd cc
        further (suc k) log e s = record { number = suc (suc k); log = log; at = e; names = s }

pub has_one : (node : Node) (logs : List NodeLog) → HasLog logs node → has_log node logs ≡ true
has_one node logs f = by f.number f.log f.at f.names
  where
    by : (n : ℕ) (log : NodeLog) → numbered logs n ≡ Some log → log.node ≡ node → has_log node logs ≡ true
    by zero log e s = absurd cc
    by (suc k) log e s = log_known logs k log node e s

-- no two logs of one node

abbrev pub Once : List NodeLog → Type 0
Once logs = (i j : ℕ) (a b : NodeLog) → numbered logs i ≡ Some a → numbered logs j ≡ Some b → a.node ≡ b.node → i ≡ j

first_alone : (l : NodeLog) (logs : List NodeLog) (k : ℕ) (a b : NodeLog) → has_log l.node logs ≡ false → l ≡ a → slice_get logs k ≡ Some b → a.node ≡ b.node → ⊥
first_alone l logs k a b n is e s =
    both_ways (has_log l.node logs) n (log_known logs k b l.node e (sym s ∙ ap (λ (x : NodeLog). x.node) (sym is)))

pub distinct_once : (logs : List NodeLog) → all_distinct logs ≡ true → (i j : ℕ) (a b : NodeLog) → slice_get logs i ≡ Some a → slice_get logs j ≡ Some b → a.node ≡ b.node → i ≡ j
distinct_once [] d i j a b e f s = absurd cc
distinct_once (l ∷ logs) d zero zero a b e f s = refl
distinct_once (l ∷ logs) d zero (suc j) a b e f s = absurd (first_alone l logs j a b (first_distinct l logs d).0 (same_log l a e) f s)
distinct_once (l ∷ logs) d (suc i) zero a b e f s = absurd (first_alone l logs i b a (first_distinct l logs d).0 (same_log l b f) e (sym s))
distinct_once (l ∷ logs) d (suc i) (suc j) a b e f s = ap suc (distinct_once logs (first_distinct l logs d).1 i j a b e f s)

pub once_by : (logs : List NodeLog) → all_distinct logs ≡ true → Once logs
once_by logs d zero j a b e f s = absurd cc
once_by logs d (suc i) zero a b e f s = absurd cc
once_by logs d (suc i) (suc j) a b e f s = ap suc (distinct_once logs d i j a b e f s)

no_twin : (l : NodeLog) (logs : List NodeLog) → Once (l ∷ logs) → (t : Bool) → has_log l.node logs ≡ t → not (has_log l.node logs) ≡ true
no_twin l logs o false e = ap not e
no_twin l logs o true e =
    let f = log_at l.node logs e in
    absurd (by f.number f.log f.at f.names)
  where
    by : (n : ℕ) (log : NodeLog) → numbered logs n ≡ Some log → log.node ≡ l.node → ⊥
    by zero log g s = absurd cc
    by (suc k) log g s = let x : 1 ≡ suc (suc k) = o 1 (suc (suc k)) l log refl g (sym s) in omega (arith, x)

pub once_distinct : (logs : List NodeLog) → Once logs → all_distinct logs ≡ true
once_distinct [] o = refl
once_distinct (l ∷ logs) o = and_from (not (has_log l.node logs)) (all_distinct logs) (no_twin l logs o (has_log l.node logs) refl) (once_distinct logs rest)
  where
    rest : Once logs
    rest zero j a b e f s = absurd cc
    rest (suc i) zero a b e f s = absurd cc
    rest (suc i) (suc j) a b e f s = let x : suc (suc i) ≡ suc (suc j) = o (suc (suc i)) (suc (suc j)) a b e f s in omega (arith, x)

-- the names of the nodes that a world opens with, by their places

abbrev pub count_of : Given → ℕ
count_of s = length s.pharmacies.items + length s.switches.items + length s.payers.items

abbrev pub name_in : Given → ℕ → Node
name_in s place = name_at (length s.pharmacies.items) (length s.switches.items) place

record Named (s : Given) (node : Node) : Type 0 where
  place : ℕ
  within : place < count_of s
  is : name_in s place ≡ node

named_pharmacy : (s : Given) (n : ℕ) → is_numbered (length s.pharmacies.items) n ≡ true → Named s (Pharmacy n)
named_pharmacy s zero h = absurd cc
named_pharmacy s (suc k) h =
    let l : k < length s.pharmacies.items = ltb-true k (length s.pharmacies.items) h in
    let n : k + 1 ≡ suc k = omega arith in
    record { place = k; within = omega (arith, l); is = cond-true (nat_lt k (length s.pharmacies.items)) (Pharmacy (k + 1)) _ h ∙ ap Pharmacy n }

named_switch : (s : Given) (n : ℕ) → is_numbered (length s.switches.items) n ≡ true → Named s (Switch n)
named_switch s zero h = absurd cc
named_switch s (suc k) h =
    let a = length s.pharmacies.items in
    let b = length s.switches.items in
    let l : k < b = ltb-true k b h in
    let not_first : nat_lt (a + k) a ≡ false = le-ltb (a + k) a (omega arith) in
    let second : nat_lt (a + k) (a + b) ≡ true = lt-ltb (a + k) (a + b) (omega (arith, l)) in
    let n : a + k - a + 1 ≡ suc k = omega arith in
    record { place = a + k; within = omega (arith, l); is = cond-false (nat_lt (a + k) a) _ _ not_first ∙ (cond-true (nat_lt (a + k) (a + b)) _ _ second ∙ ap Switch n) }

named_payer : (s : Given) (n : ℕ) → is_numbered (length s.payers.items) n ≡ true → Named s (Payer n)
named_payer s zero h = absurd cc
named_payer s (suc k) h =
    let a = length s.pharmacies.items in
    let b = length s.switches.items in
    let l : k < length s.payers.items = ltb-true k (length s.payers.items) h in
    let not_first : nat_lt (a + b + k) a ≡ false = le-ltb (a + b + k) a (omega arith) in
    let not_second : nat_lt (a + b + k) (a + b) ≡ false = le-ltb (a + b + k) (a + b) (omega arith) in
    let n : a + b + k - (a + b) + 1 ≡ suc k = omega arith in
    record { place = a + b + k; within = omega (arith, l); is = cond-false (nat_lt (a + b + k) a) _ _ not_first ∙ (cond-false (nat_lt (a + b + k) (a + b)) _ _ not_second ∙ ap Payer n) }

named : (s : Given) (node : Node) → is_there (settings_seen s) node ≡ true → Named s node
named s (Pharmacy n) h = named_pharmacy s n (pharmacy_there s.pharmacies.items (length s.pharmacies.items) n refl ∙ h)
named s (Switch n) h = named_switch s n (switch_there s.switches.items (length s.switches.items) n refl ∙ h)
named s (Payer n) h = named_payer s n (payer_there s.payers.items (length s.payers.items) n refl ∙ h)

numbered_yes : (count k : ℕ) → k < count → is_numbered count (k + 1) ≡ true
numbered_yes count k l = let n : suc k ≡ k + 1 = omega arith in subst (λ (m : ℕ). is_numbered count m ≡ true) n (lt-ltb k count l)

-- the name at each place is of a node
pub name_there : (s : Given) (place : ℕ) → place < count_of s → is_there (settings_seen s) (name_in s place) ≡ true
name_there s place h = first (nat_lt place (length s.pharmacies.items)) refl
  where
    a : ℕ
    a = length s.pharmacies.items

    b : ℕ
    b = length s.switches.items

    There : Node → Type 0
    There node = is_there (settings_seen s) node ≡ true

    second : (t : Bool) → nat_lt place (a + b) ≡ t → nat_lt place a ≡ false → There (cond t (Switch (place - a + 1)) (Payer (place - (a + b) + 1)))
    second true e f =
        let l : place - a < b = let x = ltb-true place (a + b) e in let y = ltb-false place a f in omega (arith, x, y) in
        sym (switch_there s.switches.items b (place - a + 1) refl) ∙ numbered_yes b (place - a) l
    second false e f =
        let l : place - (a + b) < length s.payers.items = let x = ltb-false place (a + b) e in omega (arith, x, h) in
        sym (payer_there s.payers.items (length s.payers.items) (place - (a + b) + 1) refl) ∙ numbered_yes (length s.payers.items) (place - (a + b)) l

    first : (t : Bool) → nat_lt place a ≡ t → There (name_in s place)
    first true e =
        subst There (sym (cond-true (nat_lt place a) (Pharmacy (place + 1)) _ e)) (sym (pharmacy_there s.pharmacies.items a (place + 1) refl) ∙ numbered_yes a place (ltb-true place a e))
    first false e = subst There (sym (cond-false (nat_lt place a) (Pharmacy (place + 1)) _ e)) (second (nat_lt place (a + b)) refl e)

-- loops over places

-- the nodes before a place have logs
pub record HaveLogs (place : ℕ) (s : Given) (logs : List NodeLog) : Type 0 where
  pub logs_of : (k : ℕ) → k < place → has_log (name_in s k) logs ≡ true

pub have_all : (s : Given) (logs : List NodeLog) (place : ℕ) → count_of s ≡ place → HaveLogs place s logs → EachHasLog (settings_seen s) logs
have_all s logs place n h node there =
    let f = named s node there in
    log_at node logs (subst (λ (x : Node). has_log x logs ≡ true) f.is (h.logs_of f.place (let l = f.within in omega (arith, l, n))))

pub have_not : (s : Given) (logs : List NodeLog) (place : ℕ) → place < count_of s → has_log (name_in s place) logs ≡ false → EachHasLog (settings_seen s) logs → ⊥
have_not s logs place l e each = both_ways (has_log (name_in s place) logs) e (has_one (name_in s place) logs (each (name_in s place) (name_there s place l)))
