use Rattle.std.proofs.Common.{drop, map}
use Rattle.message_words.specs.declared.finding_page.FindingPage.{FindingPage}
use Rattle.message_words.specs.AllFound.{FindsGroups, group_of}
use Rattle.message_words.proofs.finding_page.FindingPage.each_group.Given as goal

-- whatever writes what is found of the transmissions that are left after that of those before writes what is found of all
abbrev pub invariant-loop-one : goal.invariant-loop-one
invariant-loop-one l =
    (n : FindingPage) → FindsGroups (map (group_of l.kind l.bytes) (drop l.one-index l.carried)) l.self n → FindsGroups (map (group_of l.kind l.bytes) l.carried) l.fn.self n
