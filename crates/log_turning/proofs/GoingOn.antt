-- The node of a new log is that of all calls.
use Rattle.std.proofs.Common.{◌≡◌, ℕ, List, ◌++◌, Option, Some, sym, ap, ◌∙◌, subst}
use Rattle.std.specs.Prelude.{option_map}
use Rattle.claim_model.specs.Node.{Node}
use Rattle.claim_model.specs.Nodes.{AnyNode}
use Rattle.claim_model.specs.Logs.{Logged, Makes, replay}
use Rattle.claim_model.proofs.Options.{same_some}
use Rattle.crash_safety.specs.Steps.{replayed_from}
use Rattle.crash_safety.proofs.Closing.{replays_on, makes_on}
use Rattle.node_logged.specs.Setting.{context_of}
use Rattle.kept_logs.specs.Rests.{begins}
use Rattle.kept_logs.specs.Stamps.{bare_calls}
use Rattle.node_service.specs.Opened.{MakesAll, replayed_behind}
use Rattle.log_turning.specs.declared.turning.Turned.{Turned}
use Rattle.log_turning.specs.Turned.{IsTurned}

-- the closed log leads to the node that the new one begins with
leads : (text : List ℕ) (node : Node) (rest : Option (List ℕ)) (bytes : List ℕ) (turned : Turned) (is : IsTurned text node rest bytes turned) → replayed_behind is.last.settings node rest (bare_calls is.closed.calls) ≡ Some is.last.state
leads text node rest bytes turned is = ap (λ (n : Node). replayed_behind is.last.settings n rest (bare_calls is.closed.calls)) (sym is.own) ∙ is.served.state

pub goes_on : (text : List ℕ) (node : Node) (rest : Option (List ℕ)) (bytes : List ℕ) (turned : Turned) (more : List Logged) (is : IsTurned text node rest bytes turned)
    → replayed_behind is.last.settings node (Some turned.rest.items) more ≡ replayed_behind is.last.settings node rest (bare_calls is.closed.calls ++ more)
goes_on text node rest bytes turned more is =
    let ctx = context_of is.last.settings in
    ap (λ (begun : Option AnyNode). replayed_from ctx begun more) (is.goes_on ∙ sym (leads text node rest bytes turned is))
    ∙ sym (replays_on ctx (begins is.last.settings node rest) (bare_calls is.closed.calls) more)

pub makes_all : (text : List ℕ) (node : Node) (rest : Option (List ℕ)) (bytes : List ℕ) (turned : Turned) (more : List Logged) (is : IsTurned text node rest bytes turned)
    → MakesAll is.last.settings node (Some turned.rest.items) more → MakesAll is.last.settings node rest (bare_calls is.closed.calls ++ more)
makes_all text node rest bytes turned more is new before opens =
    let ctx = context_of is.last.settings in
    let closed = bare_calls is.closed.calls in
    let at : ◌≡◌ {A = Option AnyNode} (Some (replay ctx before closed)) (Some is.last.state) = ap (option_map (λ (n : AnyNode). replay ctx n closed)) (sym opens) ∙ leads text node rest bytes turned is in
    makes_on ctx before closed more
    (subst (λ (n : Node). MakesAll is.last.settings n rest closed) is.own is.served.makes before opens)
    (subst (λ (n : AnyNode). Makes ctx n more) (sym (same_some (replay ctx before closed) is.last.state at)) (new is.last.state is.goes_on))
