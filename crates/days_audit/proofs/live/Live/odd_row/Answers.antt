use Rattle.std.proofs.Common.{List, ◌+◌, ap, ◌∙◌, subst}
use Rattle.std.specs.Prelude.{IfOk}
use Rattle.claim_model.specs.Bytes.{bytes_with}
use Rattle.claim_model.specs.Rows.{Book}
use Rattle.claim_model.specs.Node.{Power}
use Rattle.claim_model.specs.Held.{book_in}
use Rattle.vouched_runs.specs.Parties.{Parties}
use Rattle.days_audit.specs.Agreeing.{Each, Finds, BookFits}
use Rattle.days_audit.proofs.live.Live.odd_row.Goals as goal

pub returns : goal.returns
returns c =
    subst (λ (nodes : List (Power Book Book)). IfOk c.odd_row_among.result (λ found. Finds found (Each (λ k s. BookFits (bytes_with c.args.routes.now) c.args.self.now (k + 1) (book_in s)) nodes)))
    (c.as_slice.ensures.value ∙ ap (λ (p : Parties). p.payers) c.self.view_is) c.odd_row_among.ensures
