use Rattle.std.proofs.Common.{◌+◌, List, drop, get_or, refl, sym, subst, arith}
use Rattle.std.proofs.lemmas.List.{drop_more, drop_all}
use Rattle.d0_segments.specs.FramedParts.{framed_parts}
use Rattle.message_parts.specs.declared.findings.Finding.{Finding}
use Rattle.message_parts.specs.Findings.{finding_seen, findings_seen}
use Rattle.message_words.specs.RequestWords.{findings_said}
use Rattle.message_words.specs.Sayings.{Finds}
use Rattle.message_words.proofs.Requests.{finding_more}
use Rattle.message_words.proofs.Sayings.{none_said}
use Rattle.message_words.proofs.finding_page.FindingPage.request_findings.Goals as goal

pub loop-finding-preserved : goal.loop-finding-preserved
loop-finding-preserved c = λ n rest.
    let i = c.loop-finding.finding-index in
    let all : List Finding = c.args.findings.now in
    c.loop-finding.invariant n (subst (λ (fs : List Finding). Finds (findings_said (framed_parts c.args.framed.now) c.loop-finding.last c.loop-finding.left (findings_seen fs)) c.loop-finding.self n)
    (sym (drop_more all i _ (omega (arith, c.loop-finding-test.true))))
    (finding_more (framed_parts c.args.framed.now) (finding_seen (get_or all i _)) (findings_seen (drop (i + 1) all)) c.loop-finding.last c.loop-finding.left c.transaction_of-transaction.result c.left_to_tell-here.result _ c.loop-finding.self
    c.request_finding.new.self n c.transaction_of-transaction.ensures c.left_to_tell-here.ensures refl c.request_finding.ensures
    (subst (λ x. Finds (findings_said (framed_parts c.args.framed.now) c.transaction_of-transaction.result x (findings_seen (drop (i + 1) all))) c.request_finding.new.self n) c.saturating_sub-left.ensures rest)))

pub returns : goal.returns
returns c =
    c.loop-finding.invariant c.loop-finding.self (subst (λ (fs : List Finding). Finds (findings_said (framed_parts c.args.framed.now) c.loop-finding.last c.loop-finding.left (findings_seen fs)) c.loop-finding.self c.loop-finding.self)
    (sym (drop_all c.loop-finding.finding-index c.args.findings.now (omega (arith, c.loop-finding-test.false)))) (none_said c.loop-finding.self))
