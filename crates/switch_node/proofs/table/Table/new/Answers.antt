use Rattle.std.proofs.Common.{◌∙◌}
use Rattle.switch_node.proofs.Turning.{turned-zero}
use Rattle.switch_node.proofs.table.Table.new.Goals as goal

pub returns : goal.returns
returns c = λ j. record { cap = c.args.settings; entries = (turned-zero c.new.result.entries ∙ c.new.ensures.empty) j }
