use Rattle.std.proofs.Common.{◌∷◌, ◌++◌, List, ℕ, ap, ◌∙◌, append-nil, arith}
use Rattle.std.specs.Prelude.{decimal}
use Rattle.std.proofs.lemmas.List.{drop_all}
use Rattle.world_report.proofs.numbers.write_number.Goals as goal

pub returns-clause-written : goal.returns-clause-written
returns-clause-written c =
    c.byte_before.ensures.written
    ∙ ap (λ (t : List ℕ). 32 ∷ t)
    (c.digits_before-digits.ensures.written
    ∙ (ap (λ (t : List ℕ). decimal c.args.number ++ t) (drop_all 45 c.args.text.now (omega arith)) ∙ append-nil (decimal c.args.number)))
