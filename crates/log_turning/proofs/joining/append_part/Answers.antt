-- The log that was appended is this node's, or it is another one's, or there is none.
use Rattle.std.proofs.Common.{◌∙◌, refl, sym, ap, ◌+◌}
use Rattle.world_setup.specs.Seen.{node_seen}
use Rattle.claim_model.proofs.Names.{same_is}
use Rattle.settings_digest.proofs.Keeping.{turned_at}
use Rattle.log_turning.specs.Joined.{part_seen}
use Rattle.log_turning.proofs.Parts.{others_are, part_is}
use Rattle.log_turning.proofs.joining.append_part.Goals as goal

pub returns-in-Some-clause-appended : goal.returns-in-Some-clause-appended
returns-in-Some-clause-appended c = λ text are.
    let part = part_seen c.args.part.now in
    let node = node_seen c.args.node in
    let is = c.in-Ok.ensures.ok in
    let own = is.own ∙ same_is (node_seen c.in-Ok.appended.node) node (sym c.is_same_node.ensures ∙ c.if-not-is_same_node.false) in
    record {
      calls = is.log.calls;
      part = part_is text node part c.turned-digest.result is.log c.in-Ok.appended.whole (c.turned-digest.ensures ∙ turned_at text part.rest c.args.digests.now part.log are) is.read own;
      counted = c.in-Some.ensures.1 ∙ ap (λ n. c.args.before + n) (sym is.count);
      is = is.text;
    }

pub returns-then-not-is_same_node-clause-refused : goal.returns-then-not-is_same_node-clause-refused
returns-then-not-is_same_node-clause-refused c = λ text are.
    let part = part_seen c.args.part.now in
    let node = node_seen c.args.node in
    let is = c.in-Ok.ensures.ok in (
      refl,
      others_are text node part c.turned-digest.result is.log (node_seen c.in-Ok.appended.node) c.in-Ok.appended.whole (c.turned-digest.ensures ∙ turned_at text part.rest c.args.digests.now part.log are) is.read is.own
          (sym c.is_same_node.ensures ∙ c.if-not-is_same_node.true),
    )
