-- From the node's opening state.
use Rattle.std.proofs.lemmas.Result.{IfOk-weaker}
use Rattle.claim_model.specs.Bytes.{bytes_with}
use Rattle.world_setup.specs.Seen.{node_seen}
use Rattle.node_log.specs.Misfits.{IsMade, IsMadeFrom}
use Rattle.node_log.proofs.making.make_log.Goals as goal

pub returns : goal.returns
returns c =
    let log = c.args.log.now in
    IfOk-weaker c.make_log_from.result
    (λ made. IsMadeFrom (bytes_with c.routes.result.now) c.in_ok-opening.opening log.calls.items made)
    (λ made. IsMade c.args.settings.now (node_seen log.node) log.calls.items made)
    (λ made is. record {
      before = c.in_ok-opening.opening;
      opens = rw (← c.node.ensures) c.in_ok-opening.ensures;
      made = rw (← c.routes.ensures) is;
    }) c.make_log_from.ensures
