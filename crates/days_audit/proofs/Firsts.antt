-- The first logs of nodes.
use Rattle.std.proofs.Common.{◌≡◌, ℕ, zero, suc, ◌+◌, ◌<◌, true, false, List, length, get_or, Some, slice_get, refl, sym, ap, ◌∙◌, subst, ◌⊎◌, inl, inr, arith}
use Rattle.std.proofs.lemmas.Bool.{both_ways, cases_eq}
use Rattle.claim_model.specs.Logs.{NodeLog}
use Rattle.claim_model.specs.Node.{Node}
use Rattle.claim_model.specs.Nodes.{same_node}
use Rattle.claim_model.specs.Numbered.{numbered}
use Rattle.claim_model.proofs.Lists.{get_within}
use Rattle.claim_model.proofs.Names.{same_self, told_apart}
use Rattle.claim_model.proofs.Options.{same_some}
use Rattle.world_setup.specs.Seen.{node_seen}
use Rattle.node_log.specs.LogSeen.{log_seen, logs_seen}
use Rattle.node_log.specs.declared.log.NodeLog.{NodeLog as Kept}
use Rattle.run_merge.proofs.Places.{found_at}
use Rattle.std.proofs.lemmas.List.{length-map}
use Rattle.days_audit.specs.Lines.{NoneBefore, NoLog, FirstAt}

pub none_next : (node : Node) (logs : List NodeLog) (place : ℕ) (log : NodeLog) → slice_get logs place ≡ Some log → same_node log.node node ≡ false → NoneBefore place node logs → NoneBefore (place + 1) node logs
none_next node logs place log e n b k other l g = elim (cases_eq k place) [
  | inl s ↦
      let f : log ≡ other = same_some log other (sym e ∙ (ap (slice_get logs) (sym s) ∙ g)) in
      subst (λ (x : NodeLog). same_node x.node node ≡ false) f n
  | inr d ↦ b k other (omega arith) g
]

pub none_at_all : (node : Node) (logs : List NodeLog) (place : ℕ) → length logs ≡ place → NoneBefore place node logs → NoLog node logs
none_at_all node logs place n b k log e = let w = get_within logs k log e in b k log (omega arith) e

not_before : (node : Node) (logs : List NodeLog) (i j : ℕ) → i < j → FirstAt node logs i → FirstAt node logs j → ⊥
not_before node logs i j l a b = both_ways (same_node a.log.node node) (b.before i a.log l a.at) a.names

-- there is one first log at most
pub one_first : (node : Node) (logs : List NodeLog) (i j : ℕ) → FirstAt node logs i → FirstAt node logs j → i ≡ j
one_first node logs i j a b = elim (cases_eq i j) [
  | inl s ↦ s
  | inr d ↦ elim (apart_less i j d) [ inl l ↦ absurd (not_before node logs i j l a b) | inr l ↦ absurd (not_before node logs j i l b a) ]
]
  where
    apart_less : (i j : ℕ) → (i ≡ j → ⊥) → (i < j) ⊎ (j < i)
    apart_less zero zero d = absurd (d refl)
    apart_less zero (suc j) d = inl (omega arith)
    apart_less (suc i) zero d = inr (omega arith)
    apart_less (suc i) (suc j) d = elim (apart_less i j (λ e. d (ap suc e))) [ inl l ↦ inl (omega arith) | inr l ↦ inr (omega arith) ]

pub no_first : (node : Node) (logs : List NodeLog) (place : ℕ) → NoLog node logs → FirstAt node logs place → ⊥
no_first node logs place n a = both_ways (same_node a.log.node node) (n place a.log a.at) a.names

-- no log before a place is of this node, as a loop keeps it
pub record NoneFound (place : ℕ) (node : Node) (logs : List NodeLog) : Type 0 where
  pub none : NoneBefore place node logs

-- the same of logs as they are kept

pub first_found : (node : Node) (logs : List Kept) (place : ℕ) (log : Kept) → place < length logs → log ≡ get_or logs place log → same_node (node_seen log.node) node ≡ true → NoneFound place node (logs_seen logs) → FirstAt node (logs_seen logs) place
first_found node logs place log lt is e b = record { log = log_seen log; at = found_at log_seen logs place log lt is; names = e; before = b.none }

pub none_further : (node : Node) (logs : List Kept) (place : ℕ) (log : Kept) → place < length logs → log ≡ get_or logs place log → same_node (node_seen log.node) node ≡ false → NoneFound place node (logs_seen logs) → NoneFound (place + 1) node (logs_seen logs)
none_further node logs place log lt is e b = record { none = none_next node (logs_seen logs) place (log_seen log) (found_at log_seen logs place log lt is) e b.none }

pub none_anywhere : (node : Node) (logs : List Kept) (place : ℕ) → length logs ≡ place → NoneFound place node (logs_seen logs) → NoLog node (logs_seen logs)
none_anywhere node logs place n b = none_at_all node (logs_seen logs) place (length-map logs log_seen ∙ n) b.none
