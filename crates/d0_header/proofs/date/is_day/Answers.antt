use Rattle.std.proofs.Common.{is_ok, ◌∙◌, arith}
use Rattle.std.specs.Int.{w8, w16}
use Rattle.std.proofs.lemmas.Bool.Decides.{same_from_decides}
use Rattle.std.proofs.lemmas.Int.{to_z_pos}
use Rattle.d0_header.specs.Date.{is_day}
use Rattle.d0_header.proofs.Calendar.{day_decides}
use Rattle.d0_header.proofs.date.is_day.Goals as goal

pub returns : goal.returns
returns c =
    let rule = day_decides c.args.year c.args.month c.args.day c.requires.years in
    let year = to_z_pos w16 c.args.year (omega arith) in
    let month = to_z_pos w8 c.args.month (omega arith) in
    let day = to_z_pos w8 c.args.day (omega arith) in
    let made = simp (year, month, day) at c.new.ensures.succeeds in
    c.is_ok.ensures.value ∙ same_from_decides (is_ok c.new.result) (is_day c.args.year c.args.month c.args.day) made (rule.1, rule.0)
