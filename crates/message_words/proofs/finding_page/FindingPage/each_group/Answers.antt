use Rattle.std.proofs.Common.{◌+◌, List, drop, get_or, map, sym, subst, arith}
use Rattle.std.proofs.lemmas.List.{drop_more, drop_all}
use Rattle.message_parts.specs.declared.dissecting.Carried.{Carried}
use Rattle.message_words.specs.AllFound.{FindsGroups, group_of}
use Rattle.message_words.proofs.AllFound.{groups_more, no_groups}
use Rattle.message_words.proofs.finding_page.FindingPage.each_group.Goals as goal

pub loop-one-preserved : goal.loop-one-preserved
loop-one-preserved c = λ n rest.
    let i = c.loop-one.one-index in
    let all : List Carried = c.args.carried.now in
    c.loop-one.invariant n (subst (λ (cs : List Carried). FindsGroups (map (group_of c.args.kind c.args.bytes.now) cs) c.loop-one.self n) (sym (drop_more all i _ (omega (arith, c.loop-one-test.true))))
    (groups_more (group_of c.args.kind c.args.bytes.now (get_or all i _)) (map (group_of c.args.kind c.args.bytes.now) (drop (i + 1) all)) c.loop-one.self c.group.new.self n c.group.ensures rest))

pub returns : goal.returns
returns c =
    c.loop-one.invariant c.loop-one.self (subst (λ (cs : List Carried). FindsGroups (map (group_of c.args.kind c.args.bytes.now) cs) c.loop-one.self c.loop-one.self)
    (sym (drop_all c.loop-one.one-index c.args.carried.now (omega (arith, c.loop-one-test.false)))) (no_groups c.loop-one.self))
