use Rattle.std.proofs.Common.{◌≡◌, ◌++◌, Bool, ap, ◌∙◌}
use Rattle.std.specs.List.{flat_map}
use Rattle.std.proofs.lemmas.Result.{on_ok_weaker}
use Rattle.claim_model.specs.Bytes.{bytes_with}
use Rattle.claim_model.specs.Words.{Auth}
use Rattle.pharmacy_journal.specs.Counting.{has_auth}
use Rattle.table_text.specs.Rows.{rows_text}
use Rattle.log_audit.specs.AloneSeen.{lones_seen}
use Rattle.log_audit.specs.Lones.{rows_of, is_counted}
use Rattle.log_audit.proofs.alone.tables.put_lone_table.Goals as goal

pub returns : goal.returns
returns g c = λ routes.
    let ctx = bytes_with routes in
    let lones = lones_seen c.args.lones.now in
    let told = c.in_ok-counted.ensures routes in
    let same : has_auth c.in_ok-counted.counted.keys ≡ is_counted ctx lones = λ i auth. told auth i in
    on_ok_weaker c.put_lones.result
    (λ last. last ∙ ap (λ (counted : Auth → Bool). c.args.out.now ++ rows_text c.args.style (flat_map (rows_of ctx counted c.args.table) lones)) same)
    (c.put_lones.ensures routes)
