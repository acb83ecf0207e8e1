use Rattle.std.proofs.Common.{List, ap, ◌∙◌, subst}
use Rattle.std.specs.Prelude.{IfOk}
use Rattle.claim_model.specs.Bytes.{bytes_with}
use Rattle.claim_model.specs.Rows.{Row, Book}
use Rattle.days_audit.specs.Agreeing.{Each, Finds, RowFits}
use Rattle.days_audit.proofs.live.Live.odd_row_of.Goals as goal

pub returns : goal.returns
returns c =
    subst (λ (rows : List Row). IfOk c.odd_row_in.result (λ found. Finds found (Each (λ k row. RowFits (bytes_with c.args.routes.now) c.args.self.now c.args.payer row) rows)))
    (c.rows.ensures.value ∙ ap (λ (b : Book). b.rows) (c.book-2.ensures ∙ c.in_ok-reading.ensures)) c.odd_row_in.ensures
