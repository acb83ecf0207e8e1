-- Nothing was found.
use Rattle.std.proofs.Common.{rules, ◌≡◌, None, Some}
use Rattle.log_growth.specs.Compared.{first_ungrown}
use Rattle.log_growth.proofs.GrownTo.{grown_to}
use Rattle.log_growth.proofs.comparing.first_ungrown.Goals as goal

pub returns-in-None-clause-grows : goal.returns-in-None-clause-grows
returns-in-None-clause-grows c =
    let none : None ≡ first_ungrown c.args.old.now c.args.new.now = search rules in
    λ e. grown_to c.args.old.now c.args.new.now c.settings-earlier.ensures.rows c.settings-later.ensures.rows (Rattle.std.proofs.Common.sym none)
