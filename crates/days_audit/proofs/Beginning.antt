-- Logs that begin with parties: an order of calls from these is an order of days, and where one of them does not begin there are no days.
use Rattle.std.proofs.Common.{◌≡◌, ℕ, zero, suc, ◌<◌, ◌≤◌, Bool, true, false, List, [], ◌∷◌, length, Option, Some, None, slice_get, refl, sym, ap, ◌∙◌, subst, inl, inr, arith, ltb-true}
use Rattle.std.specs.Prelude.{IsSome, is_some, option_map}
use Rattle.std.specs.List.{AllByRecursion, list_all}
use Rattle.std.proofs.lemmas.Bool.{and_parts, and_from, both_ways, cond-true, cond-false, lt-ltb}
use Rattle.claim_model.specs.Context.{Context}
use Rattle.claim_model.specs.Journal.{Journal, JournalAtRest}
use Rattle.claim_model.specs.Logs.{NodeLog}
use Rattle.claim_model.specs.Node.{Node, Pharmacy, Switch, Payer, Power}
use Rattle.claim_model.specs.Nodes.{AnyNode, OfPharmacy, OfPayer, node_at, same_node}
use Rattle.claim_model.specs.Numbered.{numbered}
use Rattle.claim_model.specs.Rows.{Book}
use Rattle.claim_model.proofs.Lists.{numbered_exists, numbered_within, all_at}
use Rattle.claim_model.proofs.Names.{told_apart}
use Rattle.claim_model.proofs.Options.{map_some}
use Rattle.crash_safety.specs.Explained.{Turn, log_among}
use Rattle.node_log.specs.ExistingNodes.{is_numbered}
use Rattle.run_merge.specs.Naming.{has_log, all_distinct, calls_of}
use Rattle.vouched_runs.specs.Parties.{Parties, world_of, parties_in}
use Rattle.vouched_runs.specs.Vouched.{Leads}
use Rattle.vouched_runs.specs.Days.{OneForEach, AreDays}
use Rattle.days_audit.specs.Lines.{is_party, BegunAs, SomeNotBegun, BegunLive}
use Rattle.days_audit.specs.Orders.{HasTurns}
use Rattle.run_merge.proofs.Lines.{calls_at}
use Rattle.run_merge.proofs.Covering.{log_at, has_one, distinct_once, once_by, once_distinct}
use Rattle.vouched_runs.proofs.Walking.{turned, other_log}

numbered_in : (count n : ℕ) → is_numbered count n ≡ true → (0 < n) × (n ≤ count)
numbered_in count zero h = absurd cc
numbered_in count (suc k) h = let l = ltb-true k count h in (omega arith, omega (arith, l))

pub in_numbered : (count n : ℕ) → 0 < n → n ≤ count → is_numbered count n ≡ true
in_numbered count zero p h = absurd (omega arith)
in_numbered count (suc k) p h = lt-ltb k count (omega arith)

some_of : {A : Type 0} (o : Option A) → IsSome o → (a : A) × (o ≡ Some a)
some_of None h = absurd cc
some_of (Some a) h = (a, refl)

of_some : {A : Type 0} (o : Option A) (a : A) → o ≡ Some a → IsSome o
of_some o a e = ap is_some e

-- lists with the same elements are equal
pub same_lists : {A : Type 0} (xs ys : List A) → length xs ≡ length ys → ((k : ℕ) (a : A) → slice_get xs k ≡ Some a → slice_get ys k ≡ Some a) → xs ≡ ys
same_lists [] [] l f = refl
same_lists [] (y ∷ ys) l f = absurd cc
same_lists (x ∷ xs) [] l f = absurd cc
same_lists (x ∷ xs) (y ∷ ys) l f =
    let first : Some y ≡ Some x = f zero x refl in
    let one : x ≡ y = cc in
    let rest : xs ≡ ys = same_lists xs ys (omega (arith, l)) (λ k a e. f (suc k) a e) in
    λ i. one i ∷ rest i

-- a node of parties is one of so many
pub party_there : (p : Parties) (node : Node) (x : AnyNode) → node_at (world_of p) node ≡ Some x → is_party (length p.pharmacies) (length p.payers) node ≡ true
party_there p (Pharmacy n) x e =
    let s = map_some OfPharmacy (numbered p.pharmacies n) x e in
    let w = numbered_within p.pharmacies n s.0 s.1 in
    in_numbered (length p.pharmacies) n w.0 w.1
party_there p (Switch zero) x e = absurd cc
party_there p (Switch (suc k)) x e = absurd cc
party_there p (Payer n) x e =
    let s = map_some OfPayer (numbered p.payers n) x e in
    let w = numbered_within p.payers n s.0 s.1 in
    in_numbered (length p.payers) n w.0 w.1

-- and each of so many is there
pub there_party : (p : Parties) (node : Node) → is_party (length p.pharmacies) (length p.payers) node ≡ true → (x : AnyNode) × (node_at (world_of p) node ≡ Some x)
there_party p (Pharmacy n) h =
    let w = numbered_in (length p.pharmacies) n h in
    let a = numbered_exists p.pharmacies n w.0 w.1 in
    (OfPharmacy a.0, ap (option_map OfPharmacy) a.1)
there_party p (Switch n) h = absurd cc
there_party p (Payer n) h =
    let w = numbered_in (length p.payers) n h in
    let a = numbered_exists p.payers n w.0 w.1 in
    (OfPayer a.0, ap (option_map OfPayer) a.1)

-- a node that is not there makes no call
none_made : (ctx : Context) (v q : Parties) (turns : List Turn) (node : Node) → Leads ctx v turns q → node_at (world_of v) node ≡ None → log_among turns node ≡ []
none_made ctx v q [] node l e = refl
none_made ctx v q (t ∷ turns) node l e =
    let f = turned ctx v l.1.0 t l.1.1 in
    elim (told_apart t.node node) [
      | inl same ↦ let c : Some f.before ≡ None = sym f.was ∙ (ap (node_at (world_of v)) same.1 ∙ e) in absurd cc
      | inr other ↦ other_log t turns node other.0 ∙ none_made ctx (parties_in l.1.0) q turns node l.1.2 (f.others node (λ s. other.1 (sym s)) ∙ e)
    ]

no_calls_of : (node : Node) (logs : List NodeLog) → has_log node logs ≡ false → calls_of logs node ≡ []
no_calls_of node [] h = refl
no_calls_of node (log ∷ logs) h =
    let p = Rattle.std.proofs.lemmas.Bool.or_parts (same_node log.node node) (has_log node logs) h in
    cond-false (same_node log.node node) log.calls (calls_of logs node) p.0 ∙ no_calls_of node logs p.1

all_parties_at : (pharmacies payers : ℕ) (logs : List NodeLog) → list_all (λ (log : NodeLog). is_party pharmacies payers log.node) logs ≡ true → (k : ℕ) (log : NodeLog) → slice_get logs k ≡ Some log → is_party pharmacies payers log.node ≡ true
all_parties_at pharmacies payers [] h k log e = absurd cc
all_parties_at pharmacies payers (l ∷ logs) h zero log e =
    let p = and_parts (is_party pharmacies payers l.node) (list_all (λ (x : NodeLog). is_party pharmacies payers x.node) logs) h in
    let same : l ≡ log = cc in
    subst (λ (x : NodeLog). is_party pharmacies payers x.node ≡ true) same p.0
all_parties_at pharmacies payers (l ∷ logs) h (suc k) log e =
    let p = and_parts (is_party pharmacies payers l.node) (list_all (λ (x : NodeLog). is_party pharmacies payers x.node) logs) h in
    all_parties_at pharmacies payers logs p.1 k log e

all_logs : (P : NodeLog → Type 0) (logs : List NodeLog) → ((k : ℕ) (log : NodeLog) → slice_get logs k ≡ Some log → P log) → AllByRecursion P logs
all_logs P [] f = tt
all_logs P (l ∷ logs) f = (f zero l refl, all_logs P logs (λ k log e. f (suc k) log e))

log_of_all : (P : NodeLog → Type 0) (logs : List NodeLog) (k : ℕ) (log : NodeLog) → AllByRecursion P logs → slice_get logs k ≡ Some log → P log
log_of_all P logs k log a e = all_at P logs (suc k) log a e

-- what the definitions say of each log, of so many pharmacies and payers
pub record EachBegun (begun : Node → ℕ → Option AnyNode) (logs : List NodeLog) (pharmacies payers : ℕ) (p : Parties) : Type 0 where
  pub pharmacies_are : length p.pharmacies ≡ pharmacies
  pub payers_are : length p.payers ≡ payers
  pub each : (place : ℕ) (log : NodeLog) → slice_get logs place ≡ Some log → node_at (world_of p) log.node ≡ begun log.node place

module _ (begun : Node → ℕ → Option AnyNode) (logs : List NodeLog) (pharmacies payers : ℕ) where
  -- what begins so is there, and a log begins as it
  begun_there : (p : Parties) → BegunLive begun logs pharmacies payers p → (node : Node) (x : AnyNode) → node_at (world_of p) node ≡ Some x → BegunAs begun logs node x
  begun_there p l (Pharmacy n) x e =
      let s = map_some OfPharmacy (numbered p.pharmacies n) x e in
      subst (BegunAs begun logs (Pharmacy n)) s.2 (l.of_pharmacies.each n s.0 s.1)
  begun_there p l (Switch zero) x e = absurd cc
  begun_there p l (Switch (suc k)) x e = absurd cc
  begun_there p l (Payer n) x e =
      let s = map_some OfPayer (numbered p.payers n) x e in
      subst (BegunAs begun logs (Payer n)) s.2 (l.of_payers.each n s.0 s.1)

  party_of : (p : Parties) → length p.pharmacies ≡ pharmacies → length p.payers ≡ payers → (node : Node) → is_party pharmacies payers node ≡ true → (x : AnyNode) × (node_at (world_of p) node ≡ Some x)
  party_of p a b node h = there_party p node (subst (λ (n : ℕ). is_party n (length p.payers) node ≡ true) (sym a) (subst (λ (n : ℕ). is_party pharmacies n node ≡ true) (sym b) h))

  pub live_each : (p : Parties) → all_distinct logs ≡ true → list_all (λ (log : NodeLog). is_party pharmacies payers log.node) logs ≡ true → BegunLive begun logs pharmacies payers p → EachBegun begun logs pharmacies payers p
  live_each p d all l =
      record {
        pharmacies_are = l.of_pharmacies.count_is;
        payers_are = l.of_payers.count_is;
        each = λ place log e.
            let t = party_of p l.of_pharmacies.count_is l.of_payers.count_is log.node (all_parties_at pharmacies payers logs all place log e) in
            let b = begun_there p l log.node t.0 t.1 in
            let same : place ≡ b.place = distinct_once logs d place b.place log b.log e b.at (sym b.names) in
            t.1 ∙ (sym b.is ∙ ap (begun log.node) (sym same));
      }

  pub live_one : (p : Parties) → all_distinct logs ≡ true → list_all (λ (log : NodeLog). is_party pharmacies payers log.node) logs ≡ true → BegunLive begun logs pharmacies payers p → OneForEach p logs
  live_one p d all l =
      record {
        each = λ node h.
            let x = some_of (node_at (world_of p) node) h in
            let b = begun_there p l node x.0 x.1 in
            record { number = suc b.place; log = b.log; at = b.at; names = b.names };
        once = once_by logs d;
        known = all_logs (λ (log : NodeLog). IsSome (node_at (world_of p) log.node)) logs (λ k log e.
            let t = party_of p l.of_pharmacies.count_is l.of_payers.count_is log.node (all_parties_at pharmacies payers logs all k log e) in
            of_some (node_at (world_of p) log.node) t.0 t.1);
      }

  -- an order of calls from these is one of days
  pub live_days : (ctx : Context) (p : Parties) (calls : ℕ) → all_distinct logs ≡ true → list_all (λ (log : NodeLog). is_party pharmacies payers log.node) logs ≡ true → BegunLive begun logs pharmacies payers p
      → (h : HasTurns ctx p logs calls) → AreDays ctx p logs h.turns
  live_days ctx p calls d all l h =
      record {
        one = live_one p d all l;
        after = h.after;
        leads = h.leads;
        same = all_logs (λ (log : NodeLog). log_among h.turns log.node ≡ log.calls) logs (λ k log e. h.among log.node ∙ calls_at logs k log d e);
      }

  -- parties with which the same logs begin are the same
  has_place : (n : ℕ) (log : NodeLog) → numbered logs n ≡ Some log → (k : ℕ) × (slice_get logs k ≡ Some log)
  has_place zero log e = absurd cc
  has_place (suc k) log e = (k, e)

  same_pharmacy : (p : Parties) → EachBegun begun logs pharmacies payers p → (n : ℕ) (a : Power Journal JournalAtRest) → BegunAs begun logs (Pharmacy n) (OfPharmacy a) → numbered p.pharmacies n ≡ Some a
  same_pharmacy p b n a g =
      let there : option_map OfPharmacy (numbered p.pharmacies n) ≡ Some (OfPharmacy a) = subst (λ (x : Node). node_at (world_of p) x ≡ begun x g.place) g.names (b.each g.place g.log g.at) ∙ g.is in
      let s = map_some OfPharmacy (numbered p.pharmacies n) (OfPharmacy a) there in
      let same : s.0 ≡ a = pharmacy_same s.0 a s.2 in
      s.1 ∙ ap Some same
    where
      pharmacy_same : (x y : Power Journal JournalAtRest) → OfPharmacy x ≡ OfPharmacy y → x ≡ y
      pharmacy_same x y e = cc

  same_payer : (p : Parties) → EachBegun begun logs pharmacies payers p → (n : ℕ) (a : Power Book Book) → BegunAs begun logs (Payer n) (OfPayer a) → numbered p.payers n ≡ Some a
  same_payer p b n a g =
      let there : option_map OfPayer (numbered p.payers n) ≡ Some (OfPayer a) = subst (λ (x : Node). node_at (world_of p) x ≡ begun x g.place) g.names (b.each g.place g.log g.at) ∙ g.is in
      let s = map_some OfPayer (numbered p.payers n) (OfPayer a) there in
      let same : s.0 ≡ a = payer_same s.0 a s.2 in
      s.1 ∙ ap Some same
    where
      payer_same : (x y : Power Book Book) → OfPayer x ≡ OfPayer y → x ≡ y
      payer_same x y e = cc

  pub same_parties : (p live : Parties) → EachBegun begun logs pharmacies payers p → BegunLive begun logs pharmacies payers live → live ≡ p
  same_parties p live b l =
      let a : live.pharmacies ≡ p.pharmacies = same_lists live.pharmacies p.pharmacies (l.of_pharmacies.count_is ∙ sym b.pharmacies_are) (λ k x e. same_pharmacy p b (suc k) x (l.of_pharmacies.each (suc k) x e)) in
      let c : live.payers ≡ p.payers = same_lists live.payers p.payers (l.of_payers.count_is ∙ sym b.payers_are) (λ k x e. same_payer p b (suc k) x (l.of_payers.each (suc k) x e)) in
      λ i. record { pharmacies = a i; payers = c i }

  -- days are an order of all calls of the logs
  days_among : (ctx : Context) (p : Parties) (turns : List Turn) → AreDays ctx p logs turns → (node : Node) → log_among turns node ≡ calls_of logs node
  days_among ctx p turns a node = by (has_log node logs) refl
    where
      d : all_distinct logs ≡ true
      d = once_distinct logs a.one.once

      absent : has_log node logs ≡ false → (o : Option AnyNode) → node_at (world_of p) node ≡ o → node_at (world_of p) node ≡ None
      absent h None e = e
      absent h (Some x) e = absurd (both_ways (has_log node logs) h (has_one node logs (a.one.each node (of_some (node_at (world_of p) node) x e))))

      by : (t : Bool) → has_log node logs ≡ t → log_among turns node ≡ calls_of logs node
      by true h =
          let f = log_at node logs h in
          let k = has_place f.number f.log f.at in
          subst (λ (x : Node). log_among turns x ≡ calls_of logs x) f.names
          (log_of_all (λ (log : NodeLog). log_among turns log.node ≡ log.calls) logs k.0 f.log a.same k.1 ∙ sym (calls_at logs k.0 f.log d k.1))
      by false h = none_made ctx p a.after turns node a.leads (absent h (node_at (world_of p) node) refl) ∙ sym (no_calls_of node logs h)

  pub days_turns : (ctx : Context) (p live : Parties) (turns : List Turn) (calls : ℕ) → EachBegun begun logs pharmacies payers p → BegunLive begun logs pharmacies payers live → AreDays ctx p logs turns → calls ≡ length turns → HasTurns ctx live logs calls
  days_turns ctx p live turns calls b l a n =
      subst (λ (x : Parties). HasTurns ctx x logs calls) (sym (same_parties p live b l)) (record { turns = turns; after = a.after; leads = a.leads; among = days_among ctx p turns a; count = n })

  -- where there are days, logs are one for each node, of parties, and each party begins
  pub days_distinct : (ctx : Context) (p : Parties) (turns : List Turn) → AreDays ctx p logs turns → all_distinct logs ≡ true
  days_distinct ctx p turns a = once_distinct logs a.one.once

  parties_all : (p : Parties) (some : List NodeLog) → AllByRecursion (λ (log : NodeLog). IsSome (node_at (world_of p) log.node)) some → list_all (λ (log : NodeLog). is_party (length p.pharmacies) (length p.payers) log.node) some ≡ true
  parties_all p [] a = refl
  parties_all p (log ∷ some) a =
      let x = some_of (node_at (world_of p) log.node) a.0 in
      and_from (is_party (length p.pharmacies) (length p.payers) log.node) (list_all (λ (y : NodeLog). is_party (length p.pharmacies) (length p.payers) y.node) some) (party_there p log.node x.0 x.1) (parties_all p some a.1)

  pub days_parties : (ctx : Context) (p : Parties) (turns : List Turn) → EachBegun begun logs pharmacies payers p → AreDays ctx p logs turns → list_all (λ (log : NodeLog). is_party pharmacies payers log.node) logs ≡ true
  days_parties ctx p turns b a =
      subst (λ (n : ℕ). list_all (λ (log : NodeLog). is_party n payers log.node) logs ≡ true) b.pharmacies_are
      (subst (λ (n : ℕ). list_all (λ (log : NodeLog). is_party (length p.pharmacies) n log.node) logs ≡ true) b.payers_are (parties_all p logs a.one.known))

  pub days_begin : (ctx : Context) (p : Parties) (turns : List Turn) → EachBegun begun logs pharmacies payers p → AreDays ctx p logs turns → SomeNotBegun begun logs pharmacies payers → ⊥
  days_begin ctx p turns b a s =
      let x = party_of p b.pharmacies_are b.payers_are s.node s.party in
      let f = a.one.each s.node (of_some (node_at (world_of p) s.node) x.0 x.1) in
      let k = has_place f.number f.log f.at in
      let is : node_at (world_of p) s.node ≡ begun s.node k.0 = subst (λ (n : Node). node_at (world_of p) n ≡ begun n k.0) f.names (b.each k.0 f.log k.1) in
      s.not (once_distinct logs a.one.once) x.0 (record { place = k.0; log = f.log; at = k.1; names = f.names; is = sym is ∙ x.1 })
