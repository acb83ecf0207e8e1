use Rattle.std.proofs.Common.{◌+◌, ◌∷◌, ℕ, ap, sym, ◌∙◌, arith, drop, refl}
use Rattle.claim_model.specs.Bytes.{bytes_with}
use Rattle.claim_model.specs.Logs.{Logged}
use Rattle.world_setup.specs.Seen.{node_seen}
use Rattle.table_text.specs.declared.layout.Style.TheVariants.{Csv}
use Rattle.log_audit.specs.Calls.{call_row, call_rows, submissions_in}
use Rattle.log_audit.proofs.Joining.{one_row, rows_go_on, rows_are_done}
use Rattle.log_audit.proofs.calls.put_calls.Goals as goal

pub loop-place-preserved : goal.loop-place-preserved
loop-place-preserved c =
    let at = c.loop-place in
    let x = c.index-calls-place.result in
    let count = c.submissions_in-submissions.ensures.is ∙ ap submissions_in (c.call.ensures ∙ ap (λ (r : Logged). r.call) c.«record».ensures) in
    let few = c.submissions_in-submissions.ensures.few in
    let so_far = at.invariant.few in
    record {
      told = λ routes.
          let rows = λ (n : ℕ). call_row (bytes_with routes) (node_seen c.args.node) (at.place + 1) n x ∷ call_rows (bytes_with routes) (node_seen c.args.node) ((at.place + 1) + 1) n (drop (at.place + 1) c.args.calls.now) in
          rows_go_on Csv (call_rows (bytes_with routes) (node_seen c.args.node) (at.place + 1) at.submissions) _ _ at.out.items c.put_call.new.out.items _ c.args.calls.now at.place x c.loop-place-test.true c.index-calls-place.is
          (ap (λ (n : ℕ). rows (at.submissions + n)) (sym count)) (one_row Csv at.out.items c.put_call.new.out.items _ (c.in_ok-put_call.ensures routes)) (at.invariant.told routes);
      few = omega arith;
    }

pub returns : goal.returns
returns c = λ routes.
    let at = c.loop-place in
    rows_are_done Csv (call_rows (bytes_with routes) (node_seen c.args.node) (at.place + 1) at.submissions) at.out.items _ c.args.calls.now at.place c.loop-place-test.false refl (at.invariant.told routes)
