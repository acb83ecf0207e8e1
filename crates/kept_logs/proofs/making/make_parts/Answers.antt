use Rattle.std.proofs.Common.{◌∙◌, sym}
use Rattle.claim_model.specs.Bytes.{bytes_with}
use Rattle.world_setup.specs.Seen.{node_seen}
use Rattle.kept_logs.specs.Digests.{version_seen}
use Rattle.kept_logs.proofs.MadeSoFar.{made_as_read}
use Rattle.kept_logs.proofs.making.make_parts.Goals as goal

pub returns : goal.returns
returns c =
    made_as_read (bytes_with c.args.routes.now) c.args.begins (version_seen c.version.result) c.args.digest.now (node_seen c.in-Ok.own) (node_seen c.args.node) c.args.bytes.now c.in-Ok.records.now c.in-Some.field-0 c.saturating_sub-whole.result
    c.version.ensures c.in-Ok.ensures.ok (sym c.is_same_node.ensures ∙ c.if-not-is_same_node.false) (rw c.in-Some.is at c.in_ok-node.ensures) c.saturating_sub-whole.ensures
