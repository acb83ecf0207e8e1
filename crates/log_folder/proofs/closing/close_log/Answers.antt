use Rattle.std.proofs.Common.{ℕ, List, ◌∷◌, inr, subst}
use Rattle.world_setup.specs.Seen.{node_seen}
use Rattle.log_folder.specs.Deeds.{Deed, Found}
use Rattle.log_folder.specs.Plans.{IsClosing}
use Rattle.log_folder.proofs.closing.close_log.Goals as goal

pub returns-in-Ok-clause-each : goal.returns-in-Ok-clause-each
returns-in-Ok-clause-each g c =
    inr (
      c.in-Ok.bytes.items,
      subst (λ (bytes : List ℕ). IsClosing c.args.text.now (node_seen c.args.node) bytes (Found c.in-Ok.bytes.items ∷ g.F.Folder.deeds c.args.folder.now) (g.F.Folder.deeds c.close_read.new.folder)) c.as_slice.ensures.value
          (subst (λ (old : List Deed). IsClosing c.args.text.now (node_seen c.args.node) c.as_slice.result.now old (g.F.Folder.deeds c.close_read.new.folder)) c.in-Ok.ensures.found c.close_read.ensures.each),
    )
