use Rattle.std.proofs.Common.{◌+◌, length, sym, arith}
use Rattle.std.proofs.lemmas.Slice.{between_to_end}
use Rattle.schedule.proofs.Commas.{parts_at, parts_none}
use Rattle.schedule.proofs.link_faults.split_comma.Goals as goal

pub returns-in-Some-clause-parts : goal.returns-in-Some-clause-parts
returns-in-Some-clause-parts c =
    rw (between_to_end c.args.text.now (c.in-Some.comma + 1) (length c.args.text.now) (omega arith)) (parts_at c.args.text.now c.in-Some.comma (sym c.in-Some.ensures.first))

pub returns-in-None-clause-whole : goal.returns-in-None-clause-whole
returns-in-None-clause-whole c = parts_none c.args.text.now (sym c.in-None.ensures.first)
