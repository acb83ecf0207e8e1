use Rattle.std.proofs.Common.{◌∙◌, sym}
use Rattle.claim_reports.proofs.totalling.put_names.Goals as goal

pub returns-then-is_all : goal.returns-then-is_all
returns-then-is_all c = rw (sym c.is_all.ensures ∙ c.if-is_all.true) c.put_head.ensures

pub returns-else-is_all : goal.returns-else-is_all
returns-else-is_all c = rw (sym c.is_all.ensures ∙ c.if-is_all.false) c.put_head-else-is_all.ensures
