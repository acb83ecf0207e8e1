use Rattle.std.proofs.Common.{List, ℕ, map, ◌++◌, refl, sym, ap, ◌∙◌, append-nil}
use Rattle.std.proofs.lemmas.Option.{slice_get_read, slice_get_past}
use Rattle.std.proofs.lemmas.Result.{on_ok_weaker}
use Rattle.claim_model.specs.Bytes.{bytes_with}
use Rattle.log_audit.specs.Sentences.{told_lines}
use Rattle.log_audit.specs.WaitsSeen.{progress_seen}
use Rattle.log_audit.specs.Waits.{next_lines}
use Rattle.log_audit.proofs.judging.waiting.put_held.Goals as goal

pub returns-then-line-records : goal.returns-then-line-records
returns-then-line-records c = λ routes.
    let lines = map progress_seen c.args.lines.now in
    let line = progress_seen c.args.line.now in
    let found = rw c.records-records.ensures at (slice_get_read c.records-records.result.now _ c.args.line.now.made c.index-records-line.result refl c.if-line-records.true c.index-records-line.is) in
    let held = ap (λ next. told_lines c.args.manner (next_lines (bytes_with routes) lines line next)) found in
    let told = rw (c.node.ensures, c.call.ensures) at (c.put_wait.ensures routes) in
    on_ok_weaker c.put_wait.result (λ last. last ∙ ap (λ (t : List ℕ). c.args.out.now.items ++ t) (sym (held ∙ append-nil _))) told

pub returns-else-line-records : goal.returns-else-line-records
returns-else-line-records c = λ routes.
    let lines = map progress_seen c.args.lines.now in
    let line = progress_seen c.args.line.now in
    let past = rw c.records-records.ensures at (slice_get_past c.records-records.result.now c.args.line.now.made c.if-line-records.false) in
    sym (append-nil c.args.out.now.items)
    ∙ ap (λ (t : List ℕ). c.args.out.now.items ++ t) (sym (ap (λ next. told_lines c.args.manner (next_lines (bytes_with routes) lines line next)) past))
