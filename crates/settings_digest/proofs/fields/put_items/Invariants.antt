use Rattle.std.proofs.Common.{drop}
use Rattle.settings_digest.proofs.Putting.{Puts}
use Rattle.settings_digest.proofs.fields.put_items.Given as goal

-- what was put and then what is left is all
abbrev pub invariant-loop-item : goal.invariant-loop-item
invariant-loop-item g l = Puts (g.T.Say.text) (g.T.Say.Fits) l.fn.out.items l.out.items l.items (drop l.item-index l.items)
