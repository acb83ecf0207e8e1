use Rattle.std.proofs.Common.{◌≡◌, ◌∷◌, [], List, ℕ, length, refl, sym, ap, ◌∙◌, subst, append_assoc, append-nil, length-append, arith, rules}
use Rattle.std.proofs.lemmas.Result.{err_from_is_err_and}
use Rattle.std.specs.Global.{Vec}
use Rattle.std.specs.Vec.Iter.{into_iter_items}
use Rattle.settings_digest.specs.Digests.{under}
use Rattle.log_audit.specs.Given.{bytes_of}
use Rattle.log_audit.specs.Calls.{TellsLogs}
use Rattle.log_audit.proofs.CallRows.{no_logs, logs_more, no_log_told}
use Rattle.log_audit.proofs.calls.put_logs.Goals as goal

nothing_left : {X : Type 0} (l : List X) → length l ≡ 0 → l ≡ []
nothing_left [] h = refl
nothing_left (x ∷ xs) h = absurd (omega arith)

pub loop-bytes-init : goal.loop-bytes-init
loop-bytes-init c = record {
  all = refl;
  left = search rules;
  at = refl;
  fits = search rules;
  told = no_logs (under c.args.digests.now) c.args.out.now.items;
}

pub loop-bytes-preserved : goal.loop-bytes-preserved
loop-bytes-preserved c =
    let at = c.loop-bytes in
    let x = c.in-Some.bytes in
    let steps : into_iter_items at.bytes-iterator ≡ x ∷ into_iter_items c.next.new.self = c.in-Some.ensures.steps.0 in
    let gone = c.in-Some.ensures.steps.1 in
    let more = length-append at.yielded (x ∷ []) in
    let place = at.invariant.at in
    let fits = at.invariant.fits in
    record {
      all = append_assoc at.yielded (x ∷ []) _ ∙ rw (← steps) at.invariant.all;
      left =
          let was = at.invariant.left in
          let short = ap length steps in
          omega arith;
      at = omega arith;
      fits = omega arith;
      told = logs_more (under c.args.digests.now) at.yielded x _ at.out.items _ at.invariant.told (rw c.as_slice.ensures.value at c.in_ok-put_log.ensures.told);
    }

pub returns-clause-told : goal.returns-clause-told
returns-clause-told c =
    let at = c.loop-bytes in
    let none = c.in-None.ensures.steps in
    let empty : into_iter_items at.bytes-iterator ≡ [] = nothing_left _ (sym at.invariant.left ∙ none.0) in
    let all = sym (append-nil at.yielded) ∙ rw empty at at.invariant.all ∙ c.into_iter-bytes-iterator.ensures.into_iter_gives.0 in
    subst (λ (xs : List (Vec ℕ)). TellsLogs (under c.args.digests.now) (bytes_of xs) c.args.out.now.items at.out.items) all at.invariant.told

pub returns-in_err-put_log-clause-refused : goal.returns-in_err-put_log-clause-refused
returns-in_err-put_log-clause-refused c =
    let at = c.loop-bytes in
    let x = c.in-Some.bytes in
    let steps : into_iter_items at.bytes-iterator ≡ x ∷ into_iter_items c.next.new.self = c.in-Some.ensures.steps.0 in
    let p = err_from_is_err_and c.from_residual.result c.from_residual.ensures.1 in
    rw (p.1, p.2) (no_log_told (under c.args.digests.now) at.yielded x (into_iter_items c.next.new.self) c.args.logs.items _ at.out.items at.place c.in_err-put_log.field-0.0
    (rw (← steps) at.invariant.all ∙ c.into_iter-bytes-iterator.ensures.into_iter_gives.0) at.invariant.at at.invariant.told (rw c.as_slice.ensures.value at c.in_err-put_log.ensures.refused))
