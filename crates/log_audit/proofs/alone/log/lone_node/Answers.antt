use Rattle.std.proofs.Common.{◌≡◌, sym, ◌∙◌}
use Rattle.std.specs.Option.{option_copied}
use Rattle.std.proofs.lemmas.Result.{IfOk-weaker}
use Rattle.claim_model.specs.Nodes.{node_at}
use Rattle.claim_model.specs.Settings.{opening}
use Rattle.world_setup.specs.Seen.{settings_seen}
use Rattle.node_log.specs.LogSeen.{log_seen}
use Rattle.kept_logs.specs.Rests.{begins}
use Rattle.log_audit.specs.Alone.{ended, lone_node}
use Rattle.log_audit.specs.AloneSeen.{came_seen}
use Rattle.log_audit.specs.Telling.{context_for}
use Rattle.log_audit.specs.Wrongs.{calls_made}
use Rattle.log_audit.proofs.LoneNodes.{begun_so}
use Rattle.log_audit.proofs.alone.log.lone_node.Goals as goal

pub returns : goal.returns
returns c =
    let s = c.args.settings.now in
    let log = log_seen c.args.log.now in
    let there = sym (rw (c.settings.ensures.kept, c.node.ensures) at c.is_there.ensures.value) ∙ c.if-not-is_there.false in
    IfOk-weaker c.node_behind.result
    (λ came. came_seen came ≡ ended log (calls_made (context_for s) c.in-Some.before.node 1 log.calls))
    (λ came. came_seen came ≡ lone_node (context_for s) s (option_copied c.args.rest) log)
    (λ came is. begun_so (context_for s) log (node_at (opening (settings_seen s)) log.node) (begins s log.node (option_copied c.args.rest)) _ c.in-Some.before (came_seen came) there c.in-Some.is (rw c.node-2.ensures at c.in_ok-before.ensures.node) is)
    c.node_behind.ensures
