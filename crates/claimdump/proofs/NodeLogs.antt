-- A call that is recorded at its node's number is recorded in each log of that node.
use Rattle.std.proofs.Common.{◌≡◌, ℕ, zero, suc, ◌+◌, ◌-◌, ◌<◌, Bool, false, cond, List, [], ◌∷◌, ◌++◌, get_or, length, map, Option, Some, None, slice_get, slice_set, refl, sym, ap, subst, ◌∙◌, append_assoc, append-nil, arith}
use Rattle.std.specs.Prelude.{Result, Ok, Err, OnErr, OnOk}
use Rattle.node_log.specs.LogSeen.{log_seen, logs_seen, with_call}
use Rattle.node_log.specs.declared.log.NodeLog.{NodeLog as Kept}
use Rattle.std.proofs.lemmas.List.{map-append}
use Rattle.claim_model.specs.Node.{Node, Pharmacy, Switch, Payer}
use Rattle.claim_model.specs.Nodes.{same_node}
use Rattle.claim_model.specs.Logs.{Logged, NodeLog}
use Rattle.claim_model.proofs.Names.{same_self}
use Rattle.claimdump.specs.NodeLogs.{of_kind, AllLogs, AreFrom, AreAll, none_from, each, with_own}
use Rattle.claimdump.specs.Placed.{recorded_in, recorded_at}
use Rattle.claimdump.specs.declared.node_logs.Kind.{Kind}
use Rattle.claimdump.specs.declared.node_logs.Kind.TheVariants as kind

pub cons_alike : {A : Type 0} {x y : A} {xs ys : List A} → x ≡ y → xs ≡ ys → (x ∷ xs) ≡ (y ∷ ys)
cons_alike e es = cc

-- nodes of one kind are told apart by their numbers
kinds_apart : (of : Kind) (a b : ℕ) → a < b → same_node (of_kind of a) (of_kind of b) ≡ false
kinds_apart kind.Pharmacy a b lt = grind arith
kinds_apart kind.Switch a b lt = grind arith
kinds_apart kind.Payer a b lt = grind arith

kinds_before : (of : Kind) (a b : ℕ) → b < a → same_node (of_kind of a) (of_kind of b) ≡ false
kinds_before kind.Pharmacy a b lt = grind arith
kinds_before kind.Switch a b lt = grind arith
kinds_before kind.Payer a b lt = grind arith

-- the log of another node is as it was
other_own : (node : Node) (r : Logged) (log : NodeLog) (named : Node) → log.node ≡ named → same_node node named ≡ false → with_own node r log ≡ log
other_own node r log named is apart =
    let calls : log.calls ++ cond (same_node node log.node) (r ∷ []) [] ≡ log.calls =
    ap (λ (n : Node). log.calls ++ cond (same_node node n) (r ∷ []) []) is ∙ (ap (λ (b : Bool). log.calls ++ cond b (r ∷ []) []) apart ∙ append-nil log.calls) in
    λ i. record { node = log.node; calls = calls i }

-- and those of all nodes of another kind, or behind it
pub others_own : (node : Node) (r : Logged) (of : Kind) (number : ℕ) (logs : List NodeLog) → AreFrom of number logs → ((n : ℕ) → number < n + 1 → same_node node (of_kind of n) ≡ false) → map (with_own node r) logs ≡ logs
others_own node r of number [] are apart = refl
others_own node r of number (log ∷ logs) are apart =
    cons_alike (other_own node r log (of_kind of number) are.0 (apart number (omega arith)))
    (others_own node r of (number + 1) logs are.1 (λ n lt. apart n (omega arith)))

-- a log of the node has the call at its end
own_own : (node : Node) (r : Logged) (log : NodeLog) → log.node ≡ node → record { node = log.node; calls = log.calls ++ r ∷ [] } ≡ with_own node r log
own_own node r log is =
    let calls : log.calls ++ r ∷ [] ≡ log.calls ++ cond (same_node node log.node) (r ∷ []) [] =
    ap (λ (b : Bool). log.calls ++ cond b (r ∷ []) []) (sym (ap (same_node node) is ∙ same_self node)) in
    λ i. record { node = log.node; calls = calls i }

behind : (log : NodeLog) (logs : List NodeLog) (k : ℕ) (r : Logged) (o : Option NodeLog) → recorded_in (log ∷ logs) (suc (suc k)) r o ≡ log ∷ recorded_in logs (suc k) r o
behind log logs k r None = refl
behind log logs k r (Some l) = refl

at_place : (of : Kind) (r : Logged) (number k n : ℕ) (logs : List NodeLog) → AreFrom of number logs → n ≡ number + k → recorded_in logs (suc k) r (slice_get logs k) ≡ map (with_own (of_kind of n) r) logs
at_place of r number k n [] are is = refl
at_place of r number zero n (log ∷ logs) are is =
    cons_alike (own_own (of_kind of n) r log (are.0 ∙ ap (of_kind of) (omega (arith, is))))
    (sym (others_own (of_kind of n) r of (number + 1) logs are.1 (λ m lt. kinds_apart of n m (omega (arith, is, lt)))))
at_place of r number (suc k) n (log ∷ logs) are is =
    behind log logs k r (slice_get logs k)
    ∙ cons_alike (sym (other_own (of_kind of n) r log (of_kind of number) are.0 (kinds_before of n number (omega (arith, is)))))
    (at_place of r (number + 1) k n logs are.1 (omega (arith, is)))

-- a call at the number of its node is in the log of that node, and in no other
pub at_number : (of : Kind) (r : Logged) (n : ℕ) (logs : List NodeLog) → AreFrom of 1 logs → recorded_at logs n r ≡ map (with_own (of_kind of n) r) logs
at_number of r zero logs are = sym (others_own (of_kind of zero) r of 1 logs are (λ m lt. kinds_apart of zero m (omega (arith, lt))))
at_number of r (suc k) logs are = at_place of r 1 k (suc k) logs are (omega arith)

-- the logs stay those of these nodes
pub stay_from : (node : Node) (r : Logged) (of : Kind) (number : ℕ) (logs : List NodeLog) → AreFrom of number logs → AreFrom of number (map (with_own node r) logs)
stay_from node r of number [] are = tt
stay_from node r of number (log ∷ logs) are = (are.0, stay_from node r of (number + 1) logs are.1)

-- logs of no calls are
pub none_are : (of : Kind) (number count : ℕ) → AreFrom of number (none_from of number count)
none_are of number zero = tt
none_are of number (suc count) = (refl, none_are of (number + 1) count)

-- a log that stands at a place has the call
put_at : (xs : List Kept) (k : ℕ) (y d : Kept) (r : Logged) → k < length xs → d ≡ get_or xs k d → log_seen y ≡ with_call (log_seen d) r → logs_seen (slice_set xs k y) ≡ recorded_in (logs_seen xs) (suc k) r (slice_get (logs_seen xs) k)
put_at [] k y d r there is put = absurd (omega (arith, there))
put_at (x ∷ xs) zero y d r there is put = cons_alike (put ∙ ap (λ (log : Kept). with_call (log_seen log) r) is) refl
put_at (x ∷ xs) (suc k) y d r there is put =
    cons_alike refl (put_at xs k y d r (omega (arith, there)) is put) ∙ sym (behind (log_seen x) (logs_seen xs) k r (slice_get (logs_seen xs) k))

pub put_there : (xs : List Kept) (n : ℕ) (y d : Kept) (r : Logged) → 0 < n → n - 1 < length xs → d ≡ get_or xs (n - 1) d → log_seen y ≡ with_call (log_seen d) r → logs_seen (slice_set xs (n - 1) y) ≡ recorded_at (logs_seen xs) n r
put_there xs zero y d r some there is put = absurd (omega (arith, some))
put_there xs (suc k) y d r some there is put =
    let e : suc k - 1 ≡ k = omega arith in
    ap (λ (m : ℕ). logs_seen (slice_set xs m y)) e ∙ put_at xs k y d r (omega (arith, there)) (is ∙ ap (λ (m : ℕ). get_or xs m d) e) put

-- a log that is as it was
pub put_same : (xs : List Kept) (k : ℕ) (y d : Kept) → d ≡ get_or xs k d → log_seen y ≡ log_seen d → logs_seen (slice_set xs k y) ≡ logs_seen xs
put_same [] k y d is same = refl
put_same (x ∷ xs) zero y d is same = cons_alike (same ∙ ap log_seen is) refl
put_same (x ∷ xs) (suc k) y d is same = cons_alike refl (put_same xs k y d is same)

-- whether it was recorded or not, the logs stay those of these nodes
pub stay_all : {E : Type 0} (result : Result (Unit {0}) E) (of : Kind) (n : ℕ) (r : Logged) (old new : List NodeLog) → AreFrom of 1 old → OnOk result (new ≡ recorded_at old n r) → OnErr result (new ≡ old) → AreFrom of 1 new
stay_all (Ok u) of n r old new are ok err = subst (AreFrom of 1) (sym (ok ∙ at_number of r n old are)) (stay_from (of_kind of n) r of 1 old are)
stay_all (Err e) of n r old new are ok err = subst (AreFrom of 1) (sym err) are

-- a log of no calls is added for the next number
pub none_goes_on : (of : Kind) (xs ys : List Kept) (x : Kept) (place count : ℕ) (whole : List NodeLog) → place < count → ys ≡ xs ++ x ∷ [] → log_seen x ≡ record { node = of_kind of (place + 1); calls = [] }
    → logs_seen xs ++ none_from of (place + 1) (count - place) ≡ whole → logs_seen ys ++ none_from of (place + 1 + 1) (count - (place + 1)) ≡ whole
none_goes_on of xs ys x place count whole lt added is so_far =
    let left = none_from of (place + 1 + 1) (count - (place + 1)) in
    let left_is : suc (count - (place + 1)) ≡ count - place = omega (arith, lt) in
    ap (λ (logs : List Kept). logs_seen logs ++ left) added
    ∙ (ap (λ (logs : List NodeLog). logs ++ left) (map-append log_seen xs (x ∷ []))
    ∙ (append_assoc (logs_seen xs) (log_seen x ∷ []) left
    ∙ (ap (λ (log : NodeLog). logs_seen xs ++ log ∷ left) is
    ∙ (ap (λ (k : ℕ). logs_seen xs ++ none_from of (place + 1) k) left_is ∙ so_far))))

-- all logs, with a call of a node of each kind
pub pharmacy_recorded : (logs : AllLogs) (n : ℕ) (r : Logged) (new : List NodeLog) → AreAll logs → new ≡ recorded_at logs.pharmacies n r
    → record { pharmacies = new; switches = logs.switches; payers = logs.payers } ≡ each (with_own (Pharmacy n) r) logs
pharmacy_recorded logs n r new are put = λ i. record {
  pharmacies = (put ∙ at_number kind.Pharmacy r n logs.pharmacies are.pharmacies) i;
  switches = sym (others_own (Pharmacy n) r kind.Switch 1 logs.switches are.switches (λ m lt. refl)) i;
  payers = sym (others_own (Pharmacy n) r kind.Payer 1 logs.payers are.payers (λ m lt. refl)) i;
}

pub switch_recorded : (logs : AllLogs) (n : ℕ) (r : Logged) (new : List NodeLog) → AreAll logs → new ≡ recorded_at logs.switches n r
    → record { pharmacies = logs.pharmacies; switches = new; payers = logs.payers } ≡ each (with_own (Switch n) r) logs
switch_recorded logs n r new are put = λ i. record {
  pharmacies = sym (others_own (Switch n) r kind.Pharmacy 1 logs.pharmacies are.pharmacies (λ m lt. refl)) i;
  switches = (put ∙ at_number kind.Switch r n logs.switches are.switches) i;
  payers = sym (others_own (Switch n) r kind.Payer 1 logs.payers are.payers (λ m lt. refl)) i;
}

pub payer_recorded : (logs : AllLogs) (n : ℕ) (r : Logged) (new : List NodeLog) → AreAll logs → new ≡ recorded_at logs.payers n r
    → record { pharmacies = logs.pharmacies; switches = logs.switches; payers = new } ≡ each (with_own (Payer n) r) logs
payer_recorded logs n r new are put = λ i. record {
  pharmacies = sym (others_own (Payer n) r kind.Pharmacy 1 logs.pharmacies are.pharmacies (λ m lt. refl)) i;
  switches = sym (others_own (Payer n) r kind.Switch 1 logs.switches are.switches (λ m lt. refl)) i;
  payers = (put ∙ at_number kind.Payer r n logs.payers are.payers) i;
}
