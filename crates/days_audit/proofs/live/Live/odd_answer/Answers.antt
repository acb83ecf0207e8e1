use Rattle.std.proofs.Common.{List, ◌+◌, ap, ◌∙◌, subst}
use Rattle.std.specs.Prelude.{IfOk}
use Rattle.claim_model.specs.Bytes.{bytes_with}
use Rattle.claim_model.specs.Journal.{Journal, JournalAtRest}
use Rattle.claim_model.specs.Node.{Power}
use Rattle.claim_model.specs.Held.{journal_in}
use Rattle.vouched_runs.specs.Parties.{Parties}
use Rattle.days_audit.specs.Agreeing.{Each, Finds, JournalFits}
use Rattle.days_audit.proofs.live.Live.odd_answer.Goals as goal

pub returns : goal.returns
returns c =
    subst (λ (nodes : List (Power Journal JournalAtRest)). IfOk c.odd_answer_among.result (λ found. Finds found (Each (λ k s. JournalFits (bytes_with c.args.routes.now) c.args.self.now (k + 1) (journal_in s)) nodes)))
    (c.as_slice.ensures.value ∙ ap (λ (p : Parties). p.pharmacies) c.self.view_is) c.odd_answer_among.ensures
