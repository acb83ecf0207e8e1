use Rattle.std.proofs.Common.{◌≡◌, ◌∷◌, [], List, refl, length, map, sym, ap, ◌∙◌, subst, append_assoc, append-nil, arith}
use Rattle.std.proofs.lemmas.Result.{err_from_is_err_and}
use Rattle.std.specs.Vec.Iter.{into_iter_items}
use Rattle.node_log.specs.LogSeen.{logs_seen}
use Rattle.log_audit.specs.Given.{AreLogs, Given, given_of, given_seen, read_given, torn_given, turned_given}
use Rattle.log_audit.specs.declared.reading.GivenLog as value
use Rattle.log_audit.proofs.Refusing.{no_log_here}
use Rattle.log_audit.proofs.LogReading.{logs_on, torn_on, rests_on}
use Rattle.log_audit.proofs.reading.read_each.Goals as goal

nothing_left : {X : Type 0} (l : List X) → length l ≡ 0 → l ≡ []
nothing_left [] h = refl
nothing_left (x ∷ xs) h = absurd (omega arith)

pub loop-given-preserved : goal.loop-given-preserved
loop-given-preserved c =
    let at = c.loop-given in
    let x = c.in-Some.given in
    let steps : into_iter_items at.given-iterator ≡ x ∷ into_iter_items c.next.new.self = c.in-Some.ensures.steps.0 in
    let read = read_given (turned_given c.args.digests.now) in
    let one = rw (c.turned.ensures, c.bytes_in.ensures, c.as_slice-bytes.ensures.value) at c.in_ok-read_next.ensures.read in
    record {
      all = append_assoc at.yielded (x ∷ []) _ ∙ rw (← steps) at.invariant.all;
      left =
          let was = at.invariant.left in
          let gone = c.in-Some.ensures.steps.1 in
          let short = ap length steps in
          omega arith;
      logs = logs_on given_seen read at.yielded x _ _ _ _ _ one at.invariant.logs;
      torn = torn_on given_seen (torn_given (turned_given c.args.digests.now)) at.yielded x _ _ _ _ _ _ one refl at.invariant.torn;
      rests = rests_on at.yielded x at.rests.items _ c.in_ok-push.ensures.items at.invariant.rests;
    }

pub returns-clause-logs : goal.returns-clause-logs
returns-clause-logs c =
    let at = c.loop-given in
    let none = c.in-None.ensures.steps in
    let empty : into_iter_items at.given-iterator ≡ [] = nothing_left _ (sym at.invariant.left ∙ none.0) in
    let all = sym (append-nil at.yielded) ∙ rw empty at at.invariant.all ∙ c.into_iter-given-iterator.ensures.into_iter_gives.0 in
    subst (λ (xs : List value.GivenLog). AreLogs (read_given (turned_given c.args.digests.now)) (given_of xs) (logs_seen at.read.logs.items)) all at.invariant.logs

pub returns-clause-torn : goal.returns-clause-torn
returns-clause-torn c =
    let at = c.loop-given in
    let none = c.in-None.ensures.steps in
    let empty : into_iter_items at.given-iterator ≡ [] = nothing_left _ (sym at.invariant.left ∙ none.0) in
    let all = sym (append-nil at.yielded) ∙ rw empty at at.invariant.all ∙ c.into_iter-given-iterator.ensures.into_iter_gives.0 in
    at.invariant.torn ∙ ap (λ (xs : List value.GivenLog). map (torn_given (turned_given c.args.digests.now)) (given_of xs)) all

pub returns-clause-rests : goal.returns-clause-rests
returns-clause-rests c =
    let at = c.loop-given in
    let none = c.in-None.ensures.steps in
    let empty : into_iter_items at.given-iterator ≡ [] = nothing_left _ (sym at.invariant.left ∙ none.0) in
    let all = sym (append-nil at.yielded) ∙ rw empty at at.invariant.all ∙ c.into_iter-given-iterator.ensures.into_iter_gives.0 in
    at.invariant.rests ∙ ap (λ (xs : List value.GivenLog). map (λ (g : Given). g.rest) (given_of xs)) all

pub returns-in_err-read_next-clause-refused : goal.returns-in_err-read_next-clause-refused
returns-in_err-read_next-clause-refused c =
    let at = c.loop-given in
    let x = c.in-Some.given in
    let steps : into_iter_items at.given-iterator ≡ x ∷ into_iter_items c.next.new.self = c.in-Some.ensures.steps.0 in
    let p = err_from_is_err_and c.from_residual.result c.from_residual.ensures.1 in
    rw (p.1, p.2) (no_log_here given_seen (read_given (turned_given c.args.digests.now)) at.yielded x (into_iter_items c.next.new.self) c.args.logs.items at.read.logs.items c.in_err-read_next.field-0.0
    (rw (← steps) at.invariant.all ∙ c.into_iter-given-iterator.ensures.into_iter_gives.0) at.invariant.logs (rw (c.turned.ensures, c.bytes_in.ensures, c.as_slice-bytes.ensures.value) at c.in_err-read_next.ensures.refused))
