-- The records that were read stand after the new head.
use Rattle.std.proofs.Common.{◌∙◌, ◌++◌, ℕ, List, ap, subst, arith}
use Rattle.claim_model.specs.Logs.{NodeLog}
use Rattle.kept_logs.specs.Stamps.{plain_log}
use Rattle.kept_logs.specs.Logs.{kept_text}
use Rattle.kept_logs.specs.Appending.{IsAppended}
use Rattle.log_growth.proofs.Moved.{is_moved}
use Rattle.log_growth.proofs.moving.moved.Goals as goal

pub returns-clause-ok : goal.returns-clause-ok
returns-clause-ok c =
    let old = c.args.old.now in
    let new = c.args.new.now in
    let bytes = c.args.bytes.now in
    let read = c.in_ok-read.read in
    let records = c.append_records.new.text.items in
    let head = c.in_ok-written.written.items in
    is_moved old new bytes read head records c.extend_from_slice.new.self.items c.requires
    (subst (λ (text : List ℕ). IsAppended old bytes 0 text records read) c.new-records.ensures.items c.in_ok-read.ensures.ok)
    (λ found is. c.log_is_its_text.ensures.text old bytes found c.as_slice.ensures.size (λ i. omega (arith, c.type_inv.bytes i)) is)
    (λ log fits. c.log_reads_back.ensures.whole new log c.as_slice-2.ensures.size fits)
    (c.in_ok-written.ensures.text ∙ ap (λ (log : NodeLog). kept_text new (plain_log log)) c.new.ensures)
    (c.in_ok-extend_from_slice.ensures.items ∙ ap (λ (text : List ℕ). head ++ text) c.as_slice-3.ensures.value)
