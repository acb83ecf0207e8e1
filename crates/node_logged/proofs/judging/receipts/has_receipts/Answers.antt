use Rattle.std.proofs.Common.{◌≡◌, ◌++◌, ◌+◌, ◌∙◌, ap, sym, subst, drop, length, List, Bool}
use Rattle.std.proofs.lemmas.List.{drop_all}
use Rattle.std.specs.List.{list_all}
use Rattle.node_logged.specs.Tills.{Receipt}
use Rattle.node_logged.specs.TillSeen.{till_seen}
use Rattle.node_logged.specs.Ledgers.{receipts_of, receipts_at}
use Rattle.node_logged.specs.LedgerSeen.{tills_seen}
use Rattle.node_logged.specs.Marked.{Marks}
use Rattle.node_logged.specs.declared.till.Till.{Till as Kept}
use Rattle.node_log.proofs.Lists.{left_at}
use Rattle.node_logged.proofs.Rests.{take_whole}
use Rattle.node_logged.proofs.Marking.{marks_tell}
use Rattle.node_logged.proofs.judging.receipts.has_receipts.Goals as goal

pub loop-till-preserved : goal.loop-till-preserved
loop-till-preserved c =
    let p = c.args.ledger.now.pharmacy in
    let entries = c.args.ledger.now.entries in
    let all = receipts_at p (tills_seen c.args.tills.now) in
    let left = receipts_at p (tills_seen (drop (c.loop-till.till-index + 1) c.args.tills.now)) in
    let here : receipts_at p (tills_seen (drop c.loop-till.till-index c.args.tills.now)) ≡ receipts_of p (till_seen c.till-item.result) ++ left =
    ap (λ (ts : List Kept). receipts_at p (tills_seen ts)) (left_at c.args.tills.now c.loop-till.till-index c.till-item.result c.loop-till-test.true c.till-item.is) in
    let its : receipts_of p (till_seen c.till-item.result) ≡ c.receipts_of.result.now = ap (λ n. receipts_of n (till_seen c.till-item.result)) (sym c.pharmacy.ensures) ∙ sym c.receipts_of.ensures in
    let before : Marks entries (c.receipts_of.result.now ++ left) all c.as_mut_slice.result.now =
    subst (λ (m : List Bool). Marks entries (c.receipts_of.result.now ++ left) all m) (sym c.as_mut_slice.ensures.value)
    (subst (λ (rs : List Receipt). Marks entries rs all c.loop-till.marks.items) (here ∙ ap (λ rs. rs ++ left) its) c.loop-till.invariant) in
    let whole : length c.as_mut_slice.result.now ≡ length c.loop-till.marks.items = ap (λ (m : List Bool). length m) c.as_mut_slice.ensures.value in
    subst (λ (m : List Bool). Marks entries left all m) (sym (take_whole c.loop-till.marks.len c.mark_all.new.marks c.loop-till.marks.items (c.mark_all.auto.marks ∙ whole) (sym c.as_mut_slice.ensures.len ∙ whole))) (c.mark_all.ensures left all before)

pub returns : goal.returns
returns c =
    let p = c.args.ledger.now.pharmacy in
    let all = receipts_at p (tills_seen c.args.tills.now) in
    let none = ap (λ (ts : List Kept). receipts_at p (tills_seen ts)) (drop_all c.loop-till.till-index c.args.tills.now c.loop-till-test.false) in
    (c.are_all_marked.ensures ∙ ap (λ (m : List Bool). list_all (λ mark. mark) m) c.deref.ensures.value)
    ∙ marks_tell c.args.ledger.now.entries all c.loop-till.marks.items (subst (λ (rs : List Receipt). Marks c.args.ledger.now.entries rs all c.loop-till.marks.items) none c.loop-till.invariant)
