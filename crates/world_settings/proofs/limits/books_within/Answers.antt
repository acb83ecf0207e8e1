use Rattle.std.proofs.Common.{◌∙◌}
use Rattle.world_settings.proofs.Caps.{mapped}
use Rattle.world_settings.proofs.limits.books_within.Goals as goal

pub returns : goal.returns
returns c = c.are_within.ensures ∙ mapped c.args.most c.args.payers.now
