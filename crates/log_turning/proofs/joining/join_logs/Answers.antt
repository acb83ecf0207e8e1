-- One part after another.
use Rattle.std.proofs.Common.{◌+◌, ◌∙◌, ℕ, List, [], ◌++◌, get_or, take, drop, map, replicate, None, sym, ap, subst, arith}
use Rattle.std.specs.Option.{option_copied}
use Rattle.std.proofs.lemmas.List.{map_more, take_all}
use Rattle.std.proofs.lemmas.Result.{err_from_is_err_and}
use Rattle.world_setup.specs.Seen.{node_seen}
use Rattle.kept_logs.specs.Rests.{calls_before}
use Rattle.log_turning.specs.declared.joining.Part as value
use Rattle.log_turning.specs.Joined.{AreParts, GoesOn, IsEnd, Part, last_part, part_seen}
use Rattle.log_turning.proofs.Parts.{count_at, ends_more, joins_more, no_part_here, none_spelled, parts_at, stops_here}
use Rattle.log_turning.proofs.joining.join_logs.Goals as goal

abbrev no_part : value.Part
no_part = record { rest = None; log = record { ref_ptr = (0, 0); now = [] } }

pub loop-place-preserved : goal.loop-place-preserved
loop-place-preserved c =
    let parts = c.args.parts.now in
    let i = c.loop-place.place in
    let part = part_seen (get_or parts i no_part) in
    let begins = option_copied c.args.begins in
    let last = option_copied c.loop-place.last in
    let all = c.in-Some.ensures.1 ∙ ap (λ n. n + c.loop-place.calls) c.in_ok-before.ensures in
    let longer = map_more part_seen parts i no_part (omega arith) in (
      joins_more c.args.text.now (node_seen c.args.node) begins (map part_seen (take i parts)) (map part_seen (take (i + 1) parts)) last part c.loop-place.calls _ c.loop-place.joined.items _
          longer
          (subst (λ (n : ℕ). GoesOn (node_seen c.args.node) begins n last part) all (c.in_ok-goes_on.ensures.yes c.if-not-branch.false))
          (c.in_ok-calls.ensures.appended c.args.text.now c.in_ok-digests.ensures.of)
          c.loop-place.invariant.0,
      ends_more c.args.text.now (map part_seen (take i parts)) (map part_seen (take (i + 1) parts)) part _ longer (c.in_ok-calls.ensures.ends c.args.text.now c.in_ok-digests.ensures.of),
    )

pub returns-clause-joined : goal.returns-clause-joined
returns-clause-joined c =
    let parts = c.args.parts.now in
    let i = c.loop-place.place in
    let j = c.loop-place.invariant.0 in
    let begins = option_copied c.args.begins in
    record {
      calls = j.calls;
      parted = subst (λ (ps : List Part). AreParts c.args.text.now (node_seen c.args.node) begins (calls_before begins) None ps j.calls) (ap (map part_seen) (take_all i parts (omega arith))) j.parted;
      left = c.loop-place.left;
      ends = subst (λ (ps : List Part). IsEnd c.args.text.now (last_part None ps) c.loop-place.left) (ap (map part_seen) (take_all i parts (omega arith))) c.loop-place.invariant.1;
      is = c.in_ok-put_zeros.ensures ∙ ap (λ (t : List ℕ). t ++ replicate c.loop-place.left 0) j.is;
    }

pub returns-in_err-digests-clause-refused : goal.returns-in_err-digests-clause-refused
returns-in_err-digests-clause-refused c =
    let p = err_from_is_err_and c.from_residual.result c.from_residual.ensures.1 in
    rw (p.1, p.2) (none_spelled c.args.text.now (node_seen c.args.node) (option_copied c.args.begins) (map part_seen c.args.parts.now) c.in_err-digests.field-0.0 c.in_err-digests.ensures.refused)

pub returns-then-not-branch-clause-refused : goal.returns-then-not-branch-clause-refused
returns-then-not-branch-clause-refused c =
    let parts = c.args.parts.now in
    let i = c.loop-place.place in
    let begins = option_copied c.args.begins in
    let last = option_copied c.loop-place.last in
    let node = node_seen c.args.node in
    let all = c.in-Some.ensures.1 ∙ ap (λ n. n + c.loop-place.calls) c.in_ok-before.ensures in
    stops_here c.args.text.now node begins (map part_seen parts) (map part_seen (take i parts)) last (part_seen (get_or parts i no_part)) (map part_seen (drop (i + 1) parts)) i c.loop-place.calls c.loop-place.joined.items
    (λ calls last p. GoesOn node begins calls last p → ⊥) (parts_at part_seen parts i no_part (omega arith)) (count_at part_seen parts i (omega arith)) c.loop-place.invariant.0
    (λ goes. let yes = c.in_ok-goes_on.ensures.no (subst (λ (n : ℕ). GoesOn node begins n last (part_seen (get_or parts i no_part))) (sym all) goes) in let no = c.if-not-branch.true in cc)

pub returns-in_err-calls-clause-refused : goal.returns-in_err-calls-clause-refused
returns-in_err-calls-clause-refused c =
    let parts = c.args.parts.now in
    let i = c.loop-place.place in
    let begins = option_copied c.args.begins in
    let last = option_copied c.loop-place.last in
    let node = node_seen c.args.node in
    let part = part_seen (get_or parts i no_part) in
    let all = c.in-Some.ensures.1 ∙ ap (λ n. n + c.loop-place.calls) c.in_ok-before.ensures in
    let p = err_from_is_err_and c.from_residual-in_err-calls.result c.from_residual-in_err-calls.ensures.1 in
    rw (p.1, p.2) (no_part_here c.args.text.now node begins (map part_seen parts) (map part_seen (take i parts)) last part (map part_seen (drop (i + 1) parts)) i c.loop-place.calls c.loop-place.joined.items c.in_err-calls.field-0.0
    (parts_at part_seen parts i no_part (omega arith)) (count_at part_seen parts i (omega arith)) c.loop-place.invariant.0
    (subst (λ (n : ℕ). GoesOn node begins n last part) all (c.in_ok-goes_on.ensures.yes c.if-not-branch.false))
    (c.in_err-calls.ensures.refused c.args.text.now c.in_ok-digests.ensures.of))
