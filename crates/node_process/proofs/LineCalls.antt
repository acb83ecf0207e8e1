-- Each record that lines leave is of a call that one of them asks for.
use Rattle.std.proofs.Common.{◌≡◌, ℕ, Bool, true, false, cond, List, [], ◌∷◌, ◌++◌, Option, Some, None, refl, sym, ap, subst, append_assoc}
use Rattle.std.specs.List.{AllByRecursion}
use Rattle.claim_model.specs.Node.{Call, Outcome, Done, Refused}
use Rattle.claim_model.specs.Nodes.{AnyNode, node_step}
use Rattle.claim_model.proofs.Lists.{all_append, all_weaker}
use Rattle.world_setup.specs.Seen.{call_seen}
use Rattle.node_logged.specs.Setting.{context_of}
use Rattle.kept_logs.specs.Stamps.{Stamp, Stamped}
use Rattle.node_service.specs.Asking.{Asked, Calls, Tells as Asks, asked_of}
use Rattle.node_service.specs.Serving.{Serving, is_idle_call, known, after_line}
use Rattle.node_service.specs.Lines.{kept_call, kept_making, kept_once, kept_asked, line_kept, lines_kept}
use Rattle.node_process.specs.Histories.{IsAskedIn}

-- the record of a line is of the call that the line asks for
call_of_record : (s : Serving) (stamp : Stamp) (call : Call) (o : Outcome AnyNode) → AllByRecursion (λ (r : Stamped). r.logged.call ≡ call) (kept_call stamp call o)
call_of_record s stamp call (Done next sent) = (refl, tt)
call_of_record s stamp call (Refused why) = tt

call_of_making : (s : Serving) (stamp : Stamp) (call : Call) → AllByRecursion (λ (r : Stamped). r.logged.call ≡ call) (kept_making s stamp call)
call_of_making s stamp call = by_idle (is_idle_call s.state call)
  where
    by_idle : (idle : Bool) → AllByRecursion (λ (r : Stamped). r.logged.call ≡ call) (cond idle [] (kept_call stamp call (node_step (context_of s.settings) s.state call)))
    by_idle true = tt
    by_idle false = call_of_record s stamp call (node_step (context_of s.settings) s.state call)

call_of_once : (s : Serving) (stamp : Stamp) (call : Call) (o : Option ℕ) → AllByRecursion (λ (r : Stamped). r.logged.call ≡ call) (kept_once s stamp call o)
call_of_once s stamp call (Some number) = tt
call_of_once s stamp call None = call_of_making s stamp call

line_asked : (s : Serving) (before : List (List ℕ)) (line : List ℕ) (after : List (List ℕ)) (a : Option Asked) → asked_of line ≡ a → AllByRecursion (λ (r : Stamped). IsAskedIn (before ++ line ∷ after) r.logged.call) (kept_asked s a)
line_asked s before line after None e = tt
line_asked s before line after (Some (Asks question)) e = tt
line_asked s before line after (Some (Calls n)) e =
    all_weaker (λ (r : Stamped). r.logged.call ≡ call_seen n.call) (λ (r : Stamped). IsAskedIn (before ++ line ∷ after) r.logged.call)
    (λ r same. record { before = before; line = line; after = after; is = refl; noted = n; asks = e; call_is = sym same })
    (kept_once s n.stamp (call_seen n.call) (known s.references n.stamp.reference (call_seen n.call))) (call_of_once s n.stamp (call_seen n.call) (known s.references n.stamp.reference (call_seen n.call)))

pub kept_asked_for : (before lines more : List (List ℕ)) (s : Serving) → AllByRecursion (λ (r : Stamped). IsAskedIn ((before ++ lines) ++ more) r.logged.call) (lines_kept s lines)
kept_asked_for before [] more s = tt
kept_asked_for before (line ∷ lines) more s =
    let all : before ++ line ∷ (lines ++ more) ≡ (before ++ line ∷ lines) ++ more = sym (append_assoc before (line ∷ lines) more) in
    let further : ((before ++ line ∷ []) ++ lines) ++ more ≡ (before ++ line ∷ lines) ++ more = ap (λ (x : List (List ℕ)). x ++ more) (append_assoc before (line ∷ []) lines) in
    all_append (λ (r : Stamped). IsAskedIn ((before ++ line ∷ lines) ++ more) r.logged.call) (line_kept s line) (lines_kept (after_line s line) lines)
    (subst (λ (x : List (List ℕ)). AllByRecursion (λ (r : Stamped). IsAskedIn x r.logged.call) (line_kept s line)) all (line_asked s before line (lines ++ more) (asked_of line) refl))
    (subst (λ (x : List (List ℕ)). AllByRecursion (λ (r : Stamped). IsAskedIn x r.logged.call) (lines_kept (after_line s line) lines)) further (kept_asked_for (before ++ line ∷ []) lines more (after_line s line)))
