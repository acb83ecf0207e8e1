use Rattle.std.proofs.Common.{◌≡◌, List, map, ap, ◌∙◌}
use Rattle.std.proofs.lemmas.Result.{IfOk-weaker}
use Rattle.claim_model.specs.Journal.{JournalAtRest, Kept}
use Rattle.pharmacy_journal.specs.Entries.{kept_of}
use Rattle.pharmacy_journal.specs.Counting.{outcomes, counted_in}
use Rattle.pharmacy_journal.proofs.Payable.{counted_is}
use Rattle.pharmacy_journal.proofs.at_rest.JournalAtRest.paid.Goals as goal

pub returns : goal.returns
returns c = λ routes.
    let entries : map kept_of c.as_slice.result.now ≡ c.args.self.now.entries = ap (map kept_of) c.as_slice.ensures.value ∙ ap (λ (j : JournalAtRest). j.entries) c.self.view_is in
    IfOk-weaker c.paid_in.result _ _ (λ paid e. e ∙ ap (λ (ks : List Kept). counted_in (outcomes ks)) entries ∙ counted_is routes c.args.self.now) c.paid_in.ensures
