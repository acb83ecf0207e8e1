-- The node of a log by itself, by whether it is there and what its log begins with.
use Rattle.std.proofs.Common.{◌≡◌, true, false, List, ℕ, Option, Some, None, refl, sym, ap, ◌∙◌}
use Rattle.std.specs.Prelude.{Result, Err, codes, is_some, option_map}
use Rattle.claim_model.specs.Context.{Context}
use Rattle.claim_model.specs.Logs.{NodeLog}
use Rattle.claim_model.specs.Nodes.{AnyNode}
use Rattle.kept_logs.specs.declared.rests.Beginning.{Beginning}
use Rattle.log_audit.specs.Alone.{ended, made_at}
use Rattle.log_audit.specs.Lacks.{node_line}
use Rattle.log_audit.specs.Wrongs.{calls_made}

pub not_there : (ctx : Context) (log : NodeLog) (opened begun : Option AnyNode) (line : List ℕ) → is_some opened ≡ false → line ≡ node_line log.node (codes " is no node of these settings") → Err line ≡ made_at ctx log opened begun
not_there ctx log None begun line gone is = ap (λ (l : List ℕ). Err l) is
not_there ctx log (Some o) begun line gone is = absurd cc

pub not_begun : (ctx : Context) (log : NodeLog) (opened begun : Option AnyNode) (found : Option Beginning) (line : List ℕ) → is_some opened ≡ true → ((b : Beginning) → found ≡ Some b → ⊥)
    → option_map (λ (b : Beginning). b.node) found ≡ begun → line ≡ node_line log.node (codes " cannot begin with what its closed logs left") → Err line ≡ made_at ctx log opened begun
not_begun ctx log None begun found line there none begins is = absurd cc
not_begun ctx log (Some o) begun None line there none begins is = ap (λ (l : List ℕ). Err l) is ∙ ap (made_at ctx log (Some o)) begins
not_begun ctx log (Some o) begun (Some b) line there none begins is = absurd (none b refl)

pub begun_so : (ctx : Context) (log : NodeLog) (opened begun : Option AnyNode) (found : Option Beginning) (b : Beginning) (came : Result AnyNode (List ℕ)) → is_some opened ≡ true → found ≡ Some b
    → option_map (λ (b : Beginning). b.node) found ≡ begun → came ≡ ended log (calls_made ctx b.node 1 log.calls) → came ≡ made_at ctx log opened begun
begun_so ctx log None begun found b came there is begins came_is = absurd cc
begun_so ctx log (Some o) begun found b came there is begins came_is = came_is ∙ ap (made_at ctx log (Some o)) (sym (ap (option_map (λ (b : Beginning). b.node)) is) ∙ begins)
