use Rattle.std.proofs.Common.{◌++◌, List, Option, sym, ap, ◌∙◌}
use Rattle.std.specs.List.{filter_map}
use Rattle.std.proofs.lemmas.List.{append-nil}
use Rattle.claim_model.specs.Words.{Fill}
use Rattle.pharmacy_journal.specs.Counting.{outcomes_between, named_in}
use Rattle.pharmacy_journal.proofs.Payable.{no_fills}
use Rattle.pharmacy_journal.proofs.counting.take_all.Goals as goal

pub returns-in-Err-clause-named : goal.returns-in-Err-clause-named
returns-in-Err-clause-named c =
    let told = c.args.told.now in
    sym (append-nil told.named.items)
    ∙ ap (λ (fills : List (Option Fill)). told.named.items ++ filter_map named_in (outcomes_between fills c.args.rulings.now)) (no_fills c.args.request.now c.in-Err.field-0 (sym c.in-Err.ensures.fault))
