use Rattle.std.proofs.Common.{◌≡◌, ◌++◌, Bool, ap, ◌∙◌}
use Rattle.std.specs.List.{flat_map}
use Rattle.std.proofs.lemmas.Result.{on_ok_weaker}
use Rattle.claim_model.specs.Bytes.{bytes_with}
use Rattle.claim_model.specs.Words.{Auth}
use Rattle.table_text.specs.Rows.{rows_text}
use Rattle.pharmacy_journal.specs.Counting.{has_auth}
use Rattle.log_audit.specs.Tables.{node_payments, is_counted}
use Rattle.log_audit.proofs.tables.table.put_payments.Goals as goal

pub returns : goal.returns
returns g c = λ routes.
    let ctx = bytes_with routes in
    let w = c.args.world.now.world in
    let told = rw c.pharmacies.ensures at c.in_ok-counted.ensures routes in
    let same : has_auth c.in_ok-counted.counted.keys ≡ is_counted ctx w.pharmacies = λ i auth. told auth i in
    on_ok_weaker c.put_books.result
    (λ last. (rw c.payers.ensures at last) ∙ ap (λ (counted : Auth → Bool). c.args.out.now ++ rows_text c.args.style (flat_map (node_payments ctx counted) w.payers)) same)
    (c.put_books.ensures routes)
