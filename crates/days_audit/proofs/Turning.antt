-- One call more, after calls that are vouched for.
use Rattle.std.proofs.Common.{◌≡◌, ◌+◌, cond, List, [], ◌∷◌, ◌++◌, length, refl, sym, ap, ◌∙◌, inl, inr, length-append, append-nil}
use Rattle.std.proofs.lemmas.Bool.{cond-true, cond-false}
use Rattle.std.proofs.lemmas.List.{append_assoc}
use Rattle.claim_model.specs.Context.{Context}
use Rattle.claim_model.specs.Logs.{Logged}
use Rattle.claim_model.specs.Node.{Node}
use Rattle.claim_model.specs.Nodes.{same_node}
use Rattle.claim_model.proofs.Names.{told_apart}
use Rattle.crash_safety.specs.Explained.{Turn, log_among}
use Rattle.run_merge.specs.Order.{advanced}
use Rattle.vouched_runs.specs.Parties.{Parties, world_of}
use Rattle.claim_model.specs.Carried.{IsVouched}
use Rattle.vouched_runs.specs.Vouched.{Leads}
use Rattle.vouched_runs.proofs.Leading.{leads_joined}
use Rattle.days_audit.specs.Calls.{world_with, Does}

-- one call more leads on
pub leads_more : (ctx : Context) (p q r : Parties) (turns : List Turn) (t : Turn) → Leads ctx p turns q → IsVouched ctx (world_of q) t.logged.call → Does ctx q t.node t.logged r
    → Leads ctx p (turns ++ t ∷ []) r
leads_more ctx p q r turns t l v d = leads_joined ctx p q r turns (t ∷ []) l (v, (world_with r t.node t.logged.sent, d, refl))

-- the calls of a node among these
pub among_more : (turns : List Turn) (t : Turn) (m : Node) → log_among (turns ++ t ∷ []) m ≡ log_among turns m ++ cond (same_node t.node m) (t.logged ∷ []) []
among_more [] t m = append-nil (cond (same_node t.node m) (t.logged ∷ []) [])
among_more (x ∷ turns) t m =
    ap (λ (y : List Logged). cond (same_node x.node m) (x.logged ∷ []) [] ++ y) (among_more turns t m)
    ∙ sym (append_assoc (cond (same_node x.node m) (x.logged ∷ []) []) (log_among turns m) (cond (same_node t.node m) (t.logged ∷ []) []))

-- what is made of a node's calls and what is left are all, after one call more
pub among_left : (turns : List Turn) (t : Turn) (left : Node → List Logged) (calls : List Logged) (m : Node) → left t.node ≡ t.logged ∷ calls
    → log_among (turns ++ t ∷ []) m ++ advanced left t.node calls m ≡ log_among turns m ++ left m
among_left turns t left calls m h = elim (told_apart t.node m) [
  | inl s ↦
      let a : cond (same_node t.node m) (t.logged ∷ []) [] ≡ t.logged ∷ [] = cond-true (same_node t.node m) (t.logged ∷ []) [] s.0 in
      let b : advanced left t.node calls m ≡ calls = cond-true (same_node t.node m) calls (left m) s.0 in
      let c : t.logged ∷ calls ≡ left m = sym h ∙ ap left s.1 in
      (λ i. (among_more turns t m ∙ ap (λ (y : List Logged). log_among turns m ++ y) a) i ++ b i)
      ∙ (append_assoc (log_among turns m) (t.logged ∷ []) calls ∙ ap (λ (y : List Logged). log_among turns m ++ y) c)
  | inr d ↦
      let a : cond (same_node t.node m) (t.logged ∷ []) [] ≡ [] = cond-false (same_node t.node m) (t.logged ∷ []) [] d.0 in
      let b : advanced left t.node calls m ≡ left m = cond-false (same_node t.node m) calls (left m) d.0 in
      (λ i. (among_more turns t m ∙ (ap (λ (y : List Logged). log_among turns m ++ y) a ∙ append-nil (log_among turns m))) i ++ b i)
]

pub one_longer : (turns : List Turn) (t : Turn) → length (turns ++ t ∷ []) ≡ length turns + 1
one_longer turns t = length-append turns (t ∷ [])
