-- The lines of all nodes after one another.
use Rattle.std.proofs.Common.{◌≡◌, ℕ, List, ◌++◌}
use Rattle.claim_model.specs.Context.{Context}
use Rattle.claim_model.specs.World.{World}
use Rattle.world_report.specs.Words.{lines_text}
use Rattle.world_report.specs.Nodes.{pharmacy_lines, switch_lines, payer_lines, lines_from, world_lines}
use Rattle.world_report.proofs.Joining.{lines_join}

-- pharmacies, switches and payers
pub nodes_join : (ctx : Context) (w : World) (a b c d : List ℕ) → b ≡ a ++ lines_text (lines_from (pharmacy_lines ctx) 1 w.pharmacies) → c ≡ b ++ lines_text (lines_from switch_lines 1 w.switches)
    → d ≡ c ++ lines_text (lines_from (payer_lines ctx) 1 w.payers) → d ≡ a ++ lines_text (world_lines ctx w)
unfolding world_lines
nodes_join ctx w a b c d one two three =
    lines_join a b d (lines_from (pharmacy_lines ctx) 1 w.pharmacies) _ one (lines_join b c d (lines_from switch_lines 1 w.switches) (lines_from (payer_lines ctx) 1 w.payers) two three)
