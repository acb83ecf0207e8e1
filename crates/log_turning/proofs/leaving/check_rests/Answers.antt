-- One log after another.
use Rattle.std.proofs.Common.{◌+◌, ◌∙◌, ℕ, List, [], get_or, take, drop, map, Option, None, sym, ap, subst, arith, ◌⊎◌, inl, inr}
use Rattle.std.proofs.lemmas.List.{map_more, take_all}
use Rattle.world_setup.specs.Seen.{node_seen}
use Rattle.log_turning.specs.declared.joining.Part as value
use Rattle.log_turning.specs.Joined.{Part, last_part, part_seen}
use Rattle.log_turning.specs.Left.{AreLeft, IsLeft, IsNotLeft}
use Rattle.log_turning.proofs.Compared.{left_more}
use Rattle.log_turning.proofs.Parts.{count_at, last_part_more, parts_at}
use Rattle.log_turning.proofs.leaving.check_rests.Goals as goal

abbrev no_part : value.Part
no_part = record { rest = None; log = record { ref_ptr = (0, 0); now = [] } }

pub loop-place-preserved : goal.loop-place-preserved
loop-place-preserved c =
    let text = c.args.text.now in
    let node = node_seen c.args.node in
    let parts = c.args.parts.now in
    let i = c.loop-place.place in
    let done = map part_seen (take i parts) in
    let part = part_seen (get_or parts i no_part) in
    let longer = map_more part_seen parts i no_part (omega arith) in (
      subst (λ (ps : List Part). AreLeft text node None ps) (sym longer)
          (left_more text node None done part c.loop-place.invariant.0 (subst (λ (l : Option Part). IsLeft text node l part) c.loop-place.invariant.1 (c.in_ok-is_left.ensures.yes c.if-not-branch.false))),
      sym (ap (last_part None) longer ∙ last_part_more None done part),
    )

pub returns-clause-left : goal.returns-clause-left
returns-clause-left c =
    let parts = c.args.parts.now in
    let i = c.loop-place.place in
    subst (λ (ps : List Part). AreLeft c.args.text.now (node_seen c.args.node) None ps) (ap (map part_seen) (take_all i parts (omega arith))) c.loop-place.invariant.0

pub returns-then-not-branch-clause-refused : goal.returns-then-not-branch-clause-refused
returns-then-not-branch-clause-refused c =
    let text = c.args.text.now in
    let node = node_seen c.args.node in
    let parts = c.args.parts.now in
    let i = c.loop-place.place in
    let part = part_seen (get_or parts i no_part) in
    record {
      before = map part_seen (take i parts);
      one = part;
      behind = map part_seen (drop (i + 1) parts);
      is = parts_at part_seen parts i no_part (omega arith);
      count = count_at part_seen parts i (omega arith);
      left = c.loop-place.invariant.0;
      other = subst (λ (l : Option Part). IsNotLeft text node l part) c.loop-place.invariant.1
          (elim c.in_ok-is_left.ensures.no [
            | inl is ↦ absurd (let fails = c.if-not-branch.true in cc)
            | inr other ↦ other
          ]);
    }
