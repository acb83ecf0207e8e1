use Rattle.std.proofs.Common.{◌||◌, ◌++◌, ◌∷◌, [], ◌+◌, List, map, drop, sym, ap, ◌∙◌, arith}
use Rattle.std.specs.List.{list_any, filter_map}
use Rattle.std.proofs.lemmas.List.{append-nil}
use Rattle.d0_segments.specs.Parts.{SegmentParts}
use Rattle.d0_segments.specs.Pieces.{shared_of, groups_of}
use Rattle.claim_profile.specs.Order.{order_of}
use Rattle.claim_model.specs.Bytes.{order_in}
use Rattle.pharmacy_journal.specs.Counting.{Outcome, fill_billed, outcomes_between, named_in, outcome_reverses, has_auth}
use Rattle.pharmacy_journal.proofs.Payable.{group_step, groups-end, one_named, named_step, reversed_step, or_false}
use Rattle.pharmacy_journal.proofs.counting.take_groups.Goals as goal

pub loop-place-preserved : goal.loop-place-preserved
loop-place-preserved c =
    let f = c.args.framed.now in
    let groups = groups_of f.body.bytes.now in
    let order = λ (group : List SegmentParts). order_in (order_of f.header (shared_of f.body.bytes.now) group) in
    let fills = map fill_billed (map order groups) in
    let i = c.loop-place.place in
    let fill = c.fill_at.result in
    let ruling = c.index-rulings-place.result in
    let one : Outcome = record { fill = fill; ruling = ruling } in
    let before = outcomes_between (drop i fills) (drop i c.args.rulings.now) in
    let after = outcomes_between (drop (i + 1) fills) (drop (i + 1) c.args.rulings.now) in
    let parts = group_step order groups [] c.args.rulings.now i fill ruling (omega (arith, c.group_count.ensures, c.min-count.ensures, c.loop-place-test.true)) (omega (arith, c.min-count.ensures, c.loop-place-test.true)) c.fill_at.ensures c.index-rulings-place.is in
    record {
      named = named_step c.loop-place.told.named.items c.take_one.new.told.named.items (one ∷ []) before after (c.in_ok-take_one.ensures.named ∙ ap (λ xs. c.loop-place.told.named.items ++ xs) (one_named fill ruling)) parts ∙ c.loop-place.invariant.named;
      reversed = λ a. reversed_step a (has_auth c.loop-place.told.reversed.keys a) (has_auth c.take_one.new.told.reversed.keys a) (one ∷ []) before after (c.in_ok-take_one.ensures.reversed a ∙ ap (λ b. has_auth c.loop-place.told.reversed.keys a || b) (sym (or_false (outcome_reverses a one)))) parts ∙ c.loop-place.invariant.reversed a;
    }

pub returns-clause-named : goal.returns-clause-named
returns-clause-named c =
    let f = c.args.framed.now in
    let order = λ (group : List SegmentParts). order_in (order_of f.header (shared_of f.body.bytes.now) group) in
    let end = groups-end order (groups_of f.body.bytes.now) c.args.rulings.now c.loop-place.place (omega (arith, c.group_count.ensures, c.min-count.ensures, c.loop-place-test.false)) in
    sym (append-nil c.loop-place.told.named.items) ∙ ap (λ (os : List Outcome). c.loop-place.told.named.items ++ filter_map named_in os) (sym end) ∙ c.loop-place.invariant.named

pub returns-clause-reversed : goal.returns-clause-reversed
returns-clause-reversed c = λ a.
    let f = c.args.framed.now in
    let order = λ (group : List SegmentParts). order_in (order_of f.header (shared_of f.body.bytes.now) group) in
    let end = groups-end order (groups_of f.body.bytes.now) c.args.rulings.now c.loop-place.place (omega (arith, c.group_count.ensures, c.min-count.ensures, c.loop-place-test.false)) in
    sym (or_false (has_auth c.loop-place.told.reversed.keys a)) ∙ ap (λ (os : List Outcome). has_auth c.loop-place.told.reversed.keys a || list_any (outcome_reverses a) os) (sym end) ∙ c.loop-place.invariant.reversed a
