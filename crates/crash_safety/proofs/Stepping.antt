-- Steps of a process, and the moves of a network that they are.
use Rattle.std.proofs.Common.{◌≡◌, false, cond, List, [], ◌∷◌, refl, ap, ◌∙◌}
use Rattle.claim_model.specs.Context.{Context}
use Rattle.claim_model.specs.Node.{Node}
use Rattle.claim_model.specs.World.{Packet}
use Rattle.claim_model.specs.Settings.{WorldSettings, opening}
use Rattle.claim_model.specs.Nodes.{node_at, same_node}
use Rattle.claim_model.specs.Logs.{posted_by}
use Rattle.crash_safety.specs.Network.{Process, Network, Move, Calling, Syncing, Saying, Crashing, Restarting, put, calling, saying, moved, after}
use Rattle.crash_safety.specs.Runs.{IsAmong}
use Rattle.crash_safety.specs.Steps.{Step, Makes, Syncs, Crashes, Restarts, step, steps_from, CanCome, AreMoves, IsSaid}
use Rattle.crash_safety.proofs.Appending.{put_own}

put_other : (n : Network) (node other : Node) (p : Process) → same_node node other ≡ false → (put n node p).at other ≡ n.at other
put_other n node other p e = ap (λ t. cond t p (n.at other)) e

-- a step is a move
record IsMove (ctx : Context) (s : WorldSettings) (n : Network) (node : Node) (one : Step) : Type 0 where
  move : Move
  is : moved ctx s n move ≡ put n node (step ctx (node_at (opening s) node) (n.at node) one)

is_move : (ctx : Context) (s : WorldSettings) (n : Network) (node : Node) (one : Step) → CanCome n.wire node (one ∷ []) → IsMove ctx s n node one
unfolding moved
is_move ctx s n node (Makes call) come = record { move = Calling come.0.0; is = ap (calling ctx n) come.0.1 }
is_move ctx s n node Syncs come = record { move = Syncing node; is = refl }
is_move ctx s n node (Crashes left) come = record { move = Crashing node left; is = refl }
is_move ctx s n node Restarts come = record { move = Restarting node; is = refl }

first_comes : (wire : List Packet) (node : Node) (one : Step) (more : List Step) → CanCome wire node (one ∷ more) → CanCome wire node (one ∷ []) × CanCome wire node more
first_comes wire node (Makes call) more come = ((come.0, tt), come.1)
first_comes wire node Syncs more come = (tt, come)
first_comes wire node (Crashes left) more come = (tt, come)
first_comes wire node Restarts more come = (tt, come)

pub are_moves : (ctx : Context) (s : WorldSettings) (n : Network) (node : Node) (steps : List Step) → CanCome n.wire node steps → AreMoves ctx s n node steps
are_moves ctx s n node [] come = record { moves = []; own = refl; others = λ other e. refl; wire = refl }
are_moves ctx s n node (one ∷ more) come =
    let parts = first_comes n.wire node one more come in
    let first = is_move ctx s n node one parts.0 in
    let begins = node_at (opening s) node in
    let p = step ctx begins (n.at node) one in
    let next = put n node p in
    let rest = are_moves ctx s next node more parts.1 in
    record {
      moves = first.move ∷ rest.moves;
      own = ap (λ (m : Network). (after ctx s m rest.moves).at node) first.is ∙ (rest.own ∙ ap (λ (x : Process). steps_from ctx begins x more) (put_own n node p));
      others = λ other e. ap (λ (m : Network). (after ctx s m rest.moves).at other) first.is ∙ (rest.others other e ∙ put_other n node other p e);
      wire = ap (λ (m : Network). (after ctx s m rest.moves).wire) first.is ∙ rest.wire;
    }

pub can_be_said : (ctx : Context) (s : WorldSettings) (n : Network) (node : Node) (p : Packet) → IsAmong (posted_by node (n.at node).synced) p → IsSaid ctx s n node p
unfolding moved
can_be_said ctx s n node p a =
    record { move = Saying node a.number; own = λ other. ap (λ (m : Network). m.at other) (ap (saying n) a.is); wire = ap (λ (m : Network). m.wire) (ap (saying n) a.is) }
