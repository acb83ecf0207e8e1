use Rattle.std.proofs.Common.{drop}
use Rattle.d0_segments.specs.FramedParts.{framed_parts}
use Rattle.message_words.specs.declared.finding_page.FindingPage.{FindingPage}
use Rattle.message_parts.specs.Findings.{findings_seen}
use Rattle.message_words.specs.RequestWords.{findings_said}
use Rattle.message_words.specs.Sayings.{Finds}
use Rattle.message_words.proofs.finding_page.FindingPage.request_findings.Given as goal

-- whatever writes the findings that are left after those before writes all of them
abbrev pub invariant-loop-finding : goal.invariant-loop-finding
invariant-loop-finding l =
    (n : FindingPage) → Finds (findings_said (framed_parts l.framed) l.last l.left (findings_seen (drop l.finding-index l.findings))) l.self n
    → Finds (findings_said (framed_parts l.framed) 0 5 (findings_seen l.findings)) l.fn.self n
